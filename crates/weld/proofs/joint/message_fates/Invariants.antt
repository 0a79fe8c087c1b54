use Rattle.std.proofs.Common.{ℕ, List, ◌++◌}
use Rattle.weld.specs.Joint.{AreFates, first_words}
use Rattle.weld.specs.declared.scenario.Plan.{Plan}
use Rattle.weld.proofs.joint.message_fates.Given as goal

-- The fates of the words of this message so far, behind those of other words.
abbrev pub invariant-loop-place : goal.invariant-loop-place
invariant-loop-place l = (words : List (Plan × ℕ)) → AreFates words l.initial.fates.items → AreFates (words ++ first_words l.plan l.place) l.fates.items
