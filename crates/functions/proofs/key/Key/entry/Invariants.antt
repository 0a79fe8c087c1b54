use Rattle.std.proofs.Common.{◌≡◌, drop}
use lib.Bits.{bit_xor}
use Rattle.sss.specs.Cipher.{key_byte, key_word}
use Rattle.functions.proofs.key.Key.entry.Given as goal

-- What is left of the key gives the byte and the word of the whole key.
abbrev pub invariant-loop-i : goal.invariant-loop-i
invariant-loop-i l =
    (key_byte (drop l.i l.k-items) l.byte ≡ key_byte l.k-items l.x) ×
    (bit_xor l.word (key_word l.i (drop l.i l.k-items) l.byte) ≡ key_word 0 l.k-items l.x)
