use Rattle.tape.proofs.Placed.{puts_line}
use Rattle.tape.proofs.lent.put_lines.Goals as goal

pub loop-line-preserved-in-Some-end : goal.loop-line-preserved-in-Some-end
loop-line-preserved-in-Some-end g c =
    let so_far = rw c.in-Some-end.is at c.loop-line.invariant in
    puts_line _ _ _ _ c.loop-line.yielded c.in-Some.line _ so_far c.put_line-end.ensures

pub returns : goal.returns
returns g c = (
  c.loop-line.yielded,
  (c.next.new.self, (c.loop-line.line-iterator, rw c.into_iter-line-iterator.ensures.into_iter_gives at c.loop-line.yielded_by, c.in-None.ensures.steps)),
  c.loop-line.invariant,
)
