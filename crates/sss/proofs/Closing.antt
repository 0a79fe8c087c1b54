-- The loops of closing: the check words that are fed in, and the tag that is drawn.
use Rattle.std.proofs.Common.{◌≡◌, ℕ, zero, suc, ◌+◌, ◌-◌, ◌<◌, ◌≤◌, List, [], ◌∷◌, ◌++◌, length, take, set, replicate, sym, refl, ap, ◌∙◌, arith}
use Rattle.std.proofs.lemmas.List.{append_assoc, append-nil, take_more_set, take_all}
use Rattle.sss.specs.Cipher.{ciphertext, fed, all_fed, stepped}

-- Of the words to draw, i are drawn: with those still to come they are all the words from the register as it was.
pub record Drawing (f : ℕ → ℕ) (before now words : List ℕ) (i : ℕ) : Type 0 where
  pub so_far : take i words ++ stepped f (8 - i) now ≡ stepped f 8 before
  pub register : all_fed f now (replicate (8 - i) 0) ≡ all_fed f before (replicate 8 0)

module _ (f : ℕ → ℕ) (before : List ℕ) where
  pub drawing_none : (words : List ℕ) → Drawing f before before words 0
  drawing_none words = record { so_far = refl; register = refl }

  stepped_more : (n : ℕ) (r : List ℕ) → 0 < n → stepped f n r ≡ ciphertext f r 0 ∷ stepped f (n - 1) (fed f r 0)
  unfolding stepped
  stepped_more zero r h = absurd (omega arith)
  stepped_more (suc n) r h =
      let e : n ≡ suc n - 1 = omega arith in
      ap (λ (k : ℕ). ciphertext f r 0 ∷ stepped f k (fed f r 0)) e

  zeros_fed_more : (n : ℕ) (r : List ℕ) → 0 < n → all_fed f r (replicate n 0) ≡ all_fed f (fed f r 0) (replicate (n - 1) 0)
  unfolding all_fed
  zeros_fed_more zero r h = absurd (omega arith)
  zeros_fed_more (suc n) r h =
      let e : n ≡ suc n - 1 = omega arith in
      ap (λ (k : ℕ). all_fed f (fed f r 0) (replicate k 0)) e

  pub drawing_more : (now now' words : List ℕ) (i w : ℕ) → i < 8 → length words ≡ 8 → Drawing f before now words i →
      w ≡ ciphertext f now 0 → now' ≡ fed f now 0 → Drawing f before now' (set words i w) (i + 1)
  drawing_more now now' words i w h long so value register =
      let left : 8 - i - 1 ≡ 8 - (i + 1) = omega arith in
      let front : take (i + 1) (set words i w) ≡ take i words ++ w ∷ [] = take_more_set words i w (omega arith) in
      let next = stepped_more (8 - i) now (omega arith) in
      let rest = zeros_fed_more (8 - i) now (omega arith) in
      let shorter : stepped f (8 - (i + 1)) now' ≡ stepped f (8 - i - 1) (fed f now 0) = cc in
      let shorter' : all_fed f now' (replicate (8 - (i + 1)) 0) ≡ all_fed f (fed f now 0) (replicate (8 - i - 1) 0) = cc in
      let joined = append_assoc (take i words) (w ∷ []) (stepped f (8 - (i + 1)) now') in
      let one : w ∷ stepped f (8 - (i + 1)) now' ≡ stepped f (8 - i) now = cc in
      record {
        so_far = ap (λ (xs : List ℕ). xs ++ stepped f (8 - (i + 1)) now') front ∙ joined ∙ ap (λ (xs : List ℕ). take i words ++ xs) one ∙ so.so_far;
        register = shorter' ∙ sym rest ∙ so.register;
      }

  pub drawn_words : (now words : List ℕ) (i : ℕ) → 8 ≤ i → length words ≡ 8 → Drawing f before now words i → words ≡ stepped f 8 before
  unfolding stepped
  drawn_words now words i h long so =
      let none : 8 - i ≡ 0 = omega arith in
      let all : length words ≤ i = omega arith in
      sym (take_all i words all) ∙ sym (append-nil (take i words)) ∙ sym (ap (λ (n : ℕ). take i words ++ stepped f n now) none) ∙ so.so_far

  pub drawn_register : (now words : List ℕ) (i : ℕ) → 8 ≤ i → Drawing f before now words i → now ≡ all_fed f before (replicate 8 0)
  unfolding all_fed
  drawn_register now words i h so =
      let none : 8 - i ≡ 0 = omega arith in
      sym (ap (λ (n : ℕ). all_fed f now (replicate n 0)) none) ∙ so.register
