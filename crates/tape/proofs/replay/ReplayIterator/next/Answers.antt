use Rattle.std.proofs.Common.{rules, inl}
use Rattle.tape.proofs.replay.ReplayIterator.next.Goals as goal

pub returns-in-Ok-Some-clause-steps : goal.returns-in-Ok-Some-clause-steps
returns-in-Ok-Some-clause-steps g c =
    (search rules, inl (record { item = c.in-Ok-Some.item; reads = rw c.in-Ok-Some.field-0-is at c.in-Ok-Some.ensures; hears = c.line_of.ensures; over = search rules }))
