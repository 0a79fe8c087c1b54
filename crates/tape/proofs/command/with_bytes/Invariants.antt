use Rattle.std.proofs.Common.{◌≡◌, ◌∷◌, take}
use Rattle.tape.proofs.command.with_bytes.Given as goal

-- The operands so far stand behind the command byte.
abbrev pub invariant-loop-operand : goal.invariant-loop-operand
invariant-loop-operand l = l.bytes.items ≡ l.command ∷ take l.operand-index l.operands
