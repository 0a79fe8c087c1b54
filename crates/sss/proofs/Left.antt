-- A loop over a list that steps a state with each element: what is left of the list leads to the end.
use Rattle.std.proofs.Common.{◌≡◌, ℕ, ◌+◌, ◌<◌, ◌≤◌, List, [], ◌∷◌, length, get_or, drop, sym, ap, ◌∙◌}
use Rattle.std.proofs.lemmas.List.{drop_more, drop_all}

module _ {S X : Type 0} (run : S → List X → S) (step : S → X → S) where
  pub left_more : ((g : S) (x : X) (xs : List X) → run g (x ∷ xs) ≡ run (step g x) xs) → (g g' : S) (xs : List X) (i : ℕ) (d : X) → i < length xs →
      g' ≡ step g (get_or xs i d) → run g' (drop (i + 1) xs) ≡ run g (drop i xs)
  left_more more g g' xs i d h e =
      ap (λ (x : S). run x (drop (i + 1) xs)) e ∙ sym (more g (get_or xs i d) (drop (i + 1) xs)) ∙ sym (ap (run g) (drop_more xs i d h))

  pub left_none : ((g : S) → run g [] ≡ g) → (g : S) (xs : List X) (i : ℕ) → length xs ≤ i → run g (drop i xs) ≡ g
  left_none none g xs i h = ap (run g) (drop_all i xs h) ∙ none g
