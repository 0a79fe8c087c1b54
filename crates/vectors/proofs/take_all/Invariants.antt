use Rattle.std.proofs.Common.{◌≡◌}
use Rattle.std.specs.Prelude.{IfSome}
use Rattle.std.specs.Io.Iter.{split_byte, split_known_bytes}
use Rattle.std.specs.Io.Buffered.{reader_remaining}
use Rattle.vectors.proofs.Printed.{SoFar}
use Rattle.vectors.proofs.take_all.Given as goal

abbrev pub invariant-loop-read : goal.invariant-loop-read
invariant-loop-read g l =
    (split_byte l.read-iterator ≡ 10) × IfSome (g.R.Read.remaining l.fn.reader) (λ input. SoFar (g.W.Write.contents l.initial.writer) (g.W.Write.contents l.writer) input (split_known_bytes (reader_remaining g.R.Read.remaining) l.read-iterator) l.held l.number l.tally)
