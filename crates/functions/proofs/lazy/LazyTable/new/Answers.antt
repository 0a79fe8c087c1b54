use Rattle.std.proofs.Common.{refl}
use Rattle.functions.proofs.Remembered.{remembers_none}
use Rattle.functions.proofs.lazy.LazyTable.new.Goals as goal

pub returns : goal.returns
returns g c =
    record { below = refl; empty = refl; sound = λ s. (s, remembers_none (g.K.KeyedFunction.table c.args.below)) }
