use Rattle.tape.specs.Lent.{Puts}
use Rattle.tape.specs.Lines.{text_of}
use Rattle.tape.proofs.lent.put_lines.Given as goal

-- The lines so far are put, or do not fit.
abbrev pub invariant-loop-line : goal.invariant-loop-line
invariant-loop-line g l = Puts l.initial.text 0 (text_of l.yielded) l.end l.text
