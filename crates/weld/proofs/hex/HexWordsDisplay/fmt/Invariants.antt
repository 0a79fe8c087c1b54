use Rattle.std.proofs.Common.{take}
use Rattle.std.specs.Fmt.{HasWritten, IsPlainFormatter}
use Rattle.weld.specs.Texts.{words_text}
use Rattle.weld.proofs.hex.HexWordsDisplay.fmt.Given as goal

-- The words so far are written.
abbrev pub invariant-loop-word : goal.invariant-loop-word
invariant-loop-word g l = IsPlainFormatter l.fn.f → HasWritten g.W.Write.write_str_gives l.fn.f (words_text (take l.word-index l.self.0.now)) l.f
