use Rattle.std.proofs.Common.{ℕ, get_or, ap}
use Rattle.sss.specs.Tables.{qbox}
use Rattle.functions.proofs.tables.qbox.Goals as goal

pub returns : goal.returns
unfolding qbox
returns c = ap (λ (i : ℕ). get_or qbox i 0) c.from.ensures
