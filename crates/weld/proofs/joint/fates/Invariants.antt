use Rattle.std.proofs.Common.{take}
use Rattle.weld.specs.Joint.{AreFates, words_of}
use Rattle.weld.proofs.joint.fates.Given as goal

-- The fates of the messages so far.
abbrev pub invariant-loop-plan : goal.invariant-loop-plan
invariant-loop-plan l = AreFates (words_of (take l.plan-index l.plans)) l.fates.items
