use Rattle.functions.proofs.given.keeps_law.Given as goal
use Rattle.functions.proofs.Law.{Seen}

abbrev pub invariant-loop-i : goal.invariant-loop-i
invariant-loop-i l = Seen l.table l.seen l.i
