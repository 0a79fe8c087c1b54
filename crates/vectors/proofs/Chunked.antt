-- A list cut into pairs.
use Rattle.std.proofs.Common.{◌≡◌, ℕ, zero, suc, ◌+◌, ◌*◌, ◌/◌, ◌%◌, ◌<◌, List, [], map, drop, length, get_or, refl, ap, ◌∙◌, arith}
use Rattle.std.specs.Simd.{first_chunks}
use Rattle.std.proofs.lemmas.List.{get_or-take, get_or-drop, get_or-map, length-map}

-- The pairs of a list, where it has an even length.
abbrev pub pairs_of : {X : Type 0} → List X → List (List X)
pairs_of xs = first_chunks 2 (length xs / 2) xs

length_pairs : {X : Type 0} (n : ℕ) (xs : List X) → length (first_chunks 2 n xs) ≡ n
length_pairs zero xs = refl
length_pairs (suc n) xs = omega (arith, length_pairs n (drop 2 xs))

pair_at : {X : Type 0} (n : ℕ) (xs : List X) (k j : ℕ) (d : X) → k < n → j < 2 → get_or (get_or (first_chunks 2 n xs) k []) j d ≡ get_or xs (2 * k + j) d
pair_at zero xs k j d h l = absurd (omega arith)
pair_at (suc n) xs zero j d h l = get_or-take 2 xs j d l ∙ ap (λ i. get_or xs i d) (omega arith)
pair_at (suc n) xs (suc k) j d h l = pair_at n (drop 2 xs) k j d (omega arith) l ∙ get_or-drop 2 xs (2 * k + j) d ∙ ap (λ i. get_or xs i d) (omega arith)

-- What f makes of each pair is half as long as the list, and stands at each place for the one and the other there.
pub made_of_pairs : {X Y : Type 0} (f : X → X → Y) (d : X) (e : Y) (xs : List X) (made : List Y) → length xs % 2 ≡ 0 → made ≡ map (λ p. f (get_or p 0 d) (get_or p 1 d)) (pairs_of xs)
    → (length xs ≡ 2 * length made) × ((k : ℕ) → k < length made → get_or made k e ≡ f (get_or xs (2 * k) d) (get_or xs (2 * k + 1) d))
made_of_pairs {X} {Y} f d e xs made even all =
    let g : List X → Y = λ p. f (get_or p 0 d) (get_or p 1 d) in
    let count = ap length all ∙ length-map (pairs_of xs) g ∙ length_pairs (length xs / 2) xs in (
      omega (arith, count),
      λ k h.
          let below : k < length xs / 2 = omega (arith, count) in
          let one : get_or (get_or (pairs_of xs) k []) 0 d ≡ get_or xs (2 * k) d = pair_at (length xs / 2) xs k 0 d below (omega arith) ∙ ap (λ i. get_or xs i d) (omega arith) in
          let other = pair_at (length xs / 2) xs k 1 d below (omega arith) in
          ap (λ ys. get_or ys k e) all ∙ get_or-map g (pairs_of xs) k [] e (omega (arith, length_pairs (length xs / 2) xs)) ∙ cc,
    )
