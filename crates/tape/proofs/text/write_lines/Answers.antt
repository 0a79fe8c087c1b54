use Rattle.tape.proofs.text.write_lines.Goals as goal

pub returns : goal.returns
returns g c = (
  c.loop-line.yielded,
  (c.next.new.self, (c.loop-line.line-iterator, rw c.into_iter-line-iterator.ensures.into_iter_gives at c.loop-line.yielded_by, c.in-None.ensures.steps)),
  c.loop-line.invariant,
)
