use Rattle.std.proofs.Common.{ℕ, get_or, ap}
use Rattle.sss.specs.Tables.{skipjack}
use Rattle.functions.proofs.tables.skipjack.Goals as goal

pub returns : goal.returns
unfolding skipjack
returns c = ap (λ (i : ℕ). get_or skipjack i 0) c.from.ensures
