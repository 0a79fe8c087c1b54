use Rattle.std.proofs.Common.{◌≡◌, ◌+◌, ◌*◌, ◌∷◌, length, take}
use Rattle.sss.specs.Bytes.{bytes_of_words}
use Rattle.tape.proofs.command.with_words.Given as goal

-- The bytes of the operands so far stand behind the command byte, two for each.
abbrev pub invariant-loop-operand : goal.invariant-loop-operand
invariant-loop-operand l =
    (l.bytes.items ≡ l.command ∷ bytes_of_words (take l.operand-index l.operands)) × (length l.bytes.items ≡ 1 + 2 * l.operand-index)
