-- What holds of each element of a list.
use Rattle.std.proofs.Common.{ℕ, zero, suc, ◌<◌, List, [], ◌∷◌, ◌++◌, length, get_or, reverse, take, drop, set, sym, subst, arith}
use Rattle.std.specs.Prelude.{Contains}
use Rattle.std.specs.List.{AllByRecursion as Every}
use Rattle.std.proofs.lemmas.List.{reverse-append}

module _ {X : Type 0} (P : X → Type 0) where
  -- Joined lists, their parts, one element more, and the list turned round.
  pub every_joined : (xs ys : List X) → Every P xs → Every P ys → Every P (xs ++ ys)
  every_joined [] ys h k = k
  every_joined (x ∷ xs) ys h k = (h.0, every_joined xs ys h.1 k)

  pub every_parts : (xs ys : List X) → Every P (xs ++ ys) → Every P xs × Every P ys
  every_parts [] ys h = (tt, h)
  every_parts (x ∷ xs) ys h = let t = every_parts xs ys h.1 in ((h.0, t.0), t.1)

  pub every_push : (xs : List X) (x : X) → Every P xs → P x → Every P (xs ++ x ∷ [])
  every_push xs x h p = every_joined xs (x ∷ []) h (p, tt)

  pub every_reversed : (xs : List X) → Every P xs → Every P (reverse xs)
  every_reversed [] h = tt
  every_reversed (x ∷ xs) h = subst (Every P) (sym (reverse-append (x ∷ []) xs)) (every_push (reverse xs) x (every_reversed xs h.1) h.0)

  -- The first n, and all but the first n.
  pub every_take : (n : ℕ) (xs : List X) → Every P xs → Every P (take n xs)
  every_take zero xs h = tt
  every_take (suc n) [] h = tt
  every_take (suc n) (x ∷ xs) h = (h.0, every_take n xs h.1)

  pub every_drop : (n : ℕ) (xs : List X) → Every P xs → Every P (drop n xs)
  every_drop zero xs h = h
  every_drop (suc n) [] h = tt
  every_drop (suc n) (x ∷ xs) h = every_drop n xs h.1

  -- One element put in another's place.
  pub every_set : (xs : List X) (i : ℕ) (x : X) → Every P xs → P x → Every P (set xs i x)
  every_set [] i x h p = tt
  every_set (y ∷ xs) zero x h p = (p, h.1)
  every_set (y ∷ xs) (suc i) x h p = (h.0, every_set xs i x h.1 p)

  -- What follows of each.
  pub every_so : {Q : X → Type 0} → ((x : X) → P x → Q x) → (xs : List X) → Every P xs → Every Q xs
  every_so so [] h = tt
  every_so so (x ∷ xs) h = (so x h.0, every_so so xs h.1)

  -- An element of the list, and each element by its place.
  pub every_one : (xs : List X) (x : X) → Every P xs → Contains xs x → P x
  every_one [] x h c = absurd (omega (arith, c.1))
  every_one (y ∷ xs) x h (zero, lt, is) = subst P is h.0
  every_one (y ∷ xs) x h (suc k, lt, is) = every_one xs x h.1 (k, omega arith, is)

  pub every_at : (xs : List X) (i : ℕ) (d : X) → i < length xs → Every P xs → P (get_or xs i d)
  every_at [] i d lt h = absurd (omega arith)
  every_at (x ∷ xs) zero d lt h = h.0
  every_at (x ∷ xs) (suc i) d lt h = every_at xs i d (omega arith) h.1

  pub every_place : (xs : List X) (d : X) → ((i : ℕ) → i < length xs → P (get_or xs i d)) → Every P xs
  every_place [] d h = tt
  every_place (x ∷ xs) d h = (h 0 (omega arith), every_place xs d (λ i lt. h (suc i) (omega arith)))
