-- The digits that are printed are those of the hex text.
use Rattle.std.proofs.Common.{◌≡◌, ℕ, zero, suc, ◌+◌, ◌/◌, ◌%◌, ◌<◌, ◌==◌, inl, inr, ◌&&◌, Bool, true, false, List, [], ◌∷◌, ◌++◌, length, get_or, take, slice_index, refl, sym, ap, ◌∙◌, arith}
use Rattle.std.specs.Fmt.{digit_glyph}
use Rattle.std.proofs.lemmas.Bool.{and_parts, cases_lt, eqb-true}
use Rattle.std.proofs.lemmas.List.{take_more}
use Rattle.hex.specs.Hex.{encode_lower, encode_with, lower_digits}

-- The first n digits agree.
abbrev agree : ℕ → Bool
agree zero = true
agree (suc n) = (digit_glyph false n == slice_index lower_digits n) && agree n

agree_at : (n k : ℕ) → agree n ≡ true → k < n → digit_glyph false k ≡ slice_index lower_digits k
agree_at zero k h lt = absurd (omega arith)
agree_at (suc n) k h lt =
    let parts = and_parts (digit_glyph false n == slice_index lower_digits n) (agree n) h in
    elim (cases_lt k n) [
      | inl below ↦ agree_at n k parts.1 below
      | inr top ↦
          let e : k ≡ n = omega arith in
          rw e (eqb-true (digit_glyph false n) (slice_index lower_digits n) parts.0)
    ]

digit : (d : ℕ) → d < 16 → digit_glyph false d ≡ slice_index lower_digits d
digit d h = agree_at 16 d refl h

encoded_then : (t xs ys : List ℕ) → encode_with t (xs ++ ys) ≡ encode_with t xs ++ encode_with t ys
unfolding encode_with
encoded_then t [] ys = refl
encoded_then t (x ∷ xs) ys = ap (λ l. slice_index t (x / 16) ∷ slice_index t (x % 16) ∷ l) (encoded_then t xs ys)

-- One byte more.
pub one_more : (bytes : List ℕ) (i : ℕ) → i < length bytes → get_or bytes i 0 < 256
    → encode_lower (take i bytes) ++ (digit_glyph false (get_or bytes i 0 / 16) ∷ digit_glyph false (get_or bytes i 0 % 16) ∷ []) ≡ encode_lower (take (i + 1) bytes)
unfolding encode_with
one_more bytes i h fits =
    let b = get_or bytes i 0 in
    let high = digit (b / 16) (omega arith) in
    let low = digit (b % 16) (omega arith) in
    rw (high, low) (sym (ap encode_lower (take_more bytes i 0 h) ∙ encoded_then lower_digits (take i bytes) (b ∷ [])))
