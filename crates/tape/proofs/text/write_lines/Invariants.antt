use Rattle.std.proofs.Common.{string_bytes, ◌≡◌, ◌++◌}
use Rattle.tape.specs.Lines.{text_of}
use Rattle.tape.proofs.text.write_lines.Given as goal

-- The text so far ends with the lines so far.
abbrev pub invariant-loop-line : goal.invariant-loop-line
invariant-loop-line g l = string_bytes l.text ≡ string_bytes l.initial.text ++ text_of l.yielded
