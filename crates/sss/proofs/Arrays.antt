-- Arrays that are made whole: of one value, by a function of the index, or of what a function makes of each element.
use Rattle.std.proofs.Common.{◌≡◌, ℕ, zero, suc, ◌+◌, ◌<◌, ◌≤◌, List, [], ◌∷◌, ◌++◌, length, map, get_or, replicate, refl, subst, ap, sym, ◌∙◌, inl, inr, arith}
use Rattle.std.proofs.lemmas.Bool.{cases_eq}
use Rattle.std.proofs.lemmas.List.FromFn.{fill_by_all}
use Rattle.std.specs.Array.{IsFromFnResult, IsFromFnResultFrom}
use Rattle.std.specs.Iterator.{ActsAs}
use Rattle.std.specs.List.{flat_map, range_with_len}
use denote.Param.Members.{Mut}

-- An array of one value reads that value at each place, and past its end by default.
pub blank_at : {A : Type 0} (x : A) (n i : ℕ) → get_or (replicate n x) i x ≡ x
blank_at x zero i = refl
blank_at x (suc n) zero = refl
blank_at x (suc n) (suc i) = blank_at x n i

module _ {F : Type 0} {g : Mut F (ℕ × Unit {0}) ℕ} {f : F} (ys : List ℕ) (h : ℕ → ℕ) (acts : ActsAs g f h) where
  made_at : (i n : ℕ) → IsFromFnResultFrom g f ys i n → (k : ℕ) → i ≤ k → k < i + n → get_or ys k 0 ≡ h k
  made_at i zero made k low high = absurd (omega arith)
  made_at i (suc n) (q, y, is, called, rest) k low high =
      let said = acts i y q called in
      elim (cases_eq k i) [
        | inl here ↦ ap (λ (m : ℕ). get_or ys m 0) here ∙ is.1 0 ∙ said.1 ∙ ap h (sym here)
        | inr there ↦
            made_at (i + 1) n (subst (λ (p : F). IsFromFnResultFrom g p ys (i + 1) n) said.0 rest) k (omega arith) (omega arith)
      ]

-- Where its closure acts as h, the array is h of each index.
pub made_by : {F : Type 0} {g : Mut F (ℕ × Unit {0}) ℕ} {f : F} {ys : List ℕ} {n : ℕ} → IsFromFnResult g f ys n →
    (h : ℕ → ℕ) → ActsAs g f h → ys ≡ map h (range_with_len 0 n)
made_by {ys} {n} made h acts = fill_by_all h ys n 0 made.long (λ k l. made_at ys h acts 0 n made.each k (omega arith) (omega arith))

-- Lists that are what a function makes of each element, one after another.
pub all_made : (h : ℕ → List ℕ) (xs : List ℕ) (ys : List (List ℕ)) → length ys ≡ length xs → ((i : ℕ) → i < length xs → get_or ys i [] ≡ h (get_or xs i 0)) →
    flat_map (λ (y : List ℕ). y) ys ≡ flat_map h xs
all_made h [] [] e each = refl
all_made h [] (y ∷ ys) e each = absurd (omega arith)
all_made h (x ∷ xs) [] e each = absurd (omega arith)
all_made h (x ∷ xs) (y ∷ ys) e each =
    let first : y ≡ h x = each 0 (omega arith) in
    let rest : flat_map (λ (y : List ℕ). y) ys ≡ flat_map h xs = all_made h xs ys (omega arith) (λ i l. each (suc i) (omega arith)) in
    (λ j. first j ++ rest j)
