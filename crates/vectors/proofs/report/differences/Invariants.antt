use Rattle.std.proofs.Common.{take}
use Rattle.std.specs.Io.KnownBytes.{Appends}
use Rattle.vectors.specs.Reports.{differences_text}
use Rattle.vectors.proofs.report.differences.Given as goal

abbrev pub invariant-loop-difference : goal.invariant-loop-difference
invariant-loop-difference g l =
    Appends (g.W.Write.contents l.fn.writer) (g.W.Write.contents l.writer) (differences_text l.number (take l.difference-index l.found))
