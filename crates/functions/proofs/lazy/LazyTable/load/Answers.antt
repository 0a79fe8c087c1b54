use Rattle.std.proofs.Common.{sym, refl, subst}
use Rattle.functions.proofs.Remembered.{remembers_none}
use Rattle.functions.proofs.lazy.LazyTable.load.Goals as goal

pub returns : goal.returns
returns g c =
    record {
      value = c.replace.ensures.value;
      below = c.replace.ensures.after;
      empty = refl;
      sound = λ s. (subst g.K.KeyedFunction.sound (sym c.replace.ensures.after) s, remembers_none (g.K.KeyedFunction.table c.replace.new.dest));
    }
