use Rattle.std.proofs.Common.{append_assoc}
use Rattle.weld.proofs.tally.TallyDisplay.fmt.Goals as goal

pub returns-clause-writes : goal.returns-clause-writes
returns-clause-writes g c = λ plain ok. simp append_assoc (c.write.ensures.writes plain ok)
