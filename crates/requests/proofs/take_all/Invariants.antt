use Rattle.std.proofs.Common.{◌≡◌}
use Rattle.std.specs.Prelude.{IfSome}
use Rattle.std.specs.Io.Iter.{split_byte, split_known_bytes}
use Rattle.std.specs.Io.Buffered.{reader_remaining}
use Rattle.requests.proofs.Printed.{SoFar}
use Rattle.requests.proofs.take_all.Given as goal

abbrev pub invariant-loop-line : goal.invariant-loop-line
invariant-loop-line g l =
    (split_byte l.line-iterator ≡ 10) × IfSome (g.R.Read.remaining l.fn.reader) (λ input. SoFar (g.W.Write.contents l.fn.writer) (g.W.Write.contents l.writer) input (split_known_bytes (reader_remaining g.R.Read.remaining) l.line-iterator) l.tally)
