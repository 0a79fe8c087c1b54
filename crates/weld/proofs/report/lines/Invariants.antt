use Rattle.std.proofs.Common.{take}
use Rattle.weld.specs.Lines.{TellAll}
use Rattle.weld.proofs.report.lines.Given as goal

-- The lines tell what was seen so far.
abbrev pub invariant-loop-event : goal.invariant-loop-event
invariant-loop-event l = TellAll (take l.event-index l.events) l.lines.items
