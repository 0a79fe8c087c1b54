use Rattle.std.proofs.Common.{take}
use Rattle.std.specs.Fmt.{HasWritten, IsPlainFormatter}
use Rattle.weld.specs.Texts.{lines_text}
use Rattle.weld.proofs.report.BodyDisplay.fmt.Given as goal

-- The lines so far are written.
abbrev pub invariant-loop-line : goal.invariant-loop-line
invariant-loop-line g l = IsPlainFormatter l.fn.f → HasWritten g.W.Write.write_str_gives l.fn.f (lines_text (take l.line-index l.self.0.now)) l.f
