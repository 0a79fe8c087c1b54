-- The operands of a command as words.
use Rattle.std.proofs.Common.{◌≡◌, ℕ, suc, ◌+◌, ◌*◌, ◌<◌, List, [], ◌∷◌, length, get_or, drop, sym, ap, ◌∙◌, arith}
use Rattle.sss.specs.Cipher.{words_of}
use Rattle.sss.proofs.Bytes.{word_at}

-- The word at a place among the operands of a command, which stand behind its command byte.
pub operand_at : (part : List ℕ) (i : ℕ) → 2 * i + 2 < length part → get_or part (1 + 2 * i) 0 + get_or part (2 + 2 * i) 0 * 256 ≡ get_or (words_of (drop 1 part)) i 0
operand_at [] i h = absurd (omega arith)
operand_at (c ∷ bs) i h =
    let low : 1 + 2 * i ≡ suc (2 * i) = omega arith in
    let high : 2 + 2 * i ≡ suc (2 * i + 1) = omega arith in
    ap (λ (k : ℕ). get_or (c ∷ bs) k 0 + get_or (c ∷ bs) (2 + 2 * i) 0 * 256) low ∙ ap (λ (k : ℕ). get_or bs (2 * i) 0 + get_or (c ∷ bs) k 0 * 256) high ∙
    sym (word_at bs i (omega arith))
