use Rattle.std.proofs.Common.{add-one}
use Rattle.figures.proofs.Answering.{one_more}
use Rattle.figures.proofs.receiving.after_sealed.Goals as goal

pub loop-preserved : goal.loop-preserved
loop-preserved c = rw add-one (one_more c.loop.counter c.loop.invariant c.word.ensures.reception)
