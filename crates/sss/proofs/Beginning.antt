-- The loops of begin: the nonce words, and the seventeen open zeros.
use Rattle.std.proofs.Common.{◌≡◌, ℕ, zero, suc, ◌+◌, ◌-◌, ◌*◌, ◌/◌, ◌<◌, List, [], ◌∷◌, map, length, get_or, refl, ap, ◌∙◌, arith}
use Rattle.std.specs.Simd.{first_chunks}
use Rattle.sss.specs.Cipher.{BothRegisters, words_of, nonce_taken, nonces_taken, taken, open_mask, open_zeros}

-- A pair of bytes as a word.
abbrev pub pair_word : List ℕ → ℕ
pair_word pair = get_or pair 0 0 + get_or pair 1 0 * 256

-- The pairs of bytes are the words.
pub pairs_are_words : (n : ℕ) (bs : List ℕ) → length bs / 2 ≡ n → map pair_word (first_chunks 2 n bs) ≡ words_of bs
pairs_are_words zero [] h = refl
pairs_are_words zero (a ∷ []) h = refl
pairs_are_words zero (a ∷ b ∷ bs) h = absurd (omega arith)
pairs_are_words (suc n) [] h = absurd (omega arith)
pairs_are_words (suc n) (a ∷ []) h = absurd (omega arith)
pairs_are_words (suc n) (a ∷ b ∷ bs) h = ap {B = List ℕ} (λ ws. (a + b * 256) ∷ ws) (pairs_are_words n bs (omega arith))

module _ (f A : ℕ → ℕ) where
  -- The nonce words of pairs of bytes.
  abbrev pub pairs_taken : BothRegisters → List (List ℕ) → BothRegisters
  pairs_taken g pairs = nonces_taken f A g (map pair_word pairs)

  abbrev pub pair_taken : BothRegisters → List ℕ → BothRegisters
  pair_taken g pair = nonce_taken f A g (pair_word pair)

  pub pairs_more : (g : BothRegisters) (pair : List ℕ) (pairs : List (List ℕ)) → pairs_taken g (pair ∷ pairs) ≡ pairs_taken (pair_taken g pair) pairs
  unfolding nonces_taken
  pairs_more g pair pairs = refl

  pub pairs_none : (g : BothRegisters) → pairs_taken g [] ≡ g
  unfolding nonces_taken
  pairs_none g = refl

  -- One open zero more.
  pub zeros_more : (n : ℕ) (g g' : BothRegisters) → 0 < n → g' ≡ taken f A g open_mask 0 → open_zeros f A (n - 1) g' ≡ open_zeros f A n g
  unfolding open_zeros
  zeros_more zero g g' h step = absurd (omega arith)
  zeros_more (suc n) g g' h step =
      let e : suc n - 1 ≡ n = omega arith in
      ap (λ (k : ℕ). open_zeros f A k g') e ∙ ap (open_zeros f A n) step

  pub zeros_all : (n : ℕ) (g : BothRegisters) → n ≡ 0 → open_zeros f A n g ≡ g
  unfolding open_zeros
  zeros_all n g e = ap (λ (k : ℕ). open_zeros f A k g) e
