-- Seventeen steps of the cipher register forget the register they began with, and remember their words.
use Rattle.std.proofs.Common.{◌≡◌, ℕ, zero, suc, ◌+◌, ◌*◌, ◌/◌, ◌%◌, ◌<◌, ◌≤◌, List, [], ◌∷◌, ◌++◌, length, get_or, take, drop, sym, refl, ap, ◌∙◌, subst, inl, inr, arith, drop-cons}
use lib.Seq.{take-length}
use Rattle.std.proofs.lemmas.Bool.{cases_lt}
use Rattle.sss.specs.Cipher.{Word, Words, plus, rotate, rot8, OneToOne, step}

-- A sum is a word, and a word can be taken from both sides of two equal sums.
pub plus_word : (a b : ℕ) → Word (plus a b)
unfolding plus
plus_word a b = omega arith

pub plus_cancel : (a b x : ℕ) → Word a → Word b → plus a x ≡ plus b x → a ≡ b
unfolding plus
plus_cancel a b x p q e = omega arith

pub plus_cancel_left : (x a b : ℕ) → Word a → Word b → plus x a ≡ plus x b → a ≡ b
unfolding plus
plus_cancel_left x a b p q e = omega arith

-- The bytes of a rotated word are those of the word, exchanged.
rot8_bytes : (a : ℕ) → rot8 a ≡ a % 256 * 256 + a / 256
unfolding rotate
rot8_bytes a = omega arith

-- Different words are different once rotated.
pub rot8_cancel : (a b : ℕ) → Word a → Word b → rot8 a ≡ rot8 b → a ≡ b
rot8_cancel a b p q e =
    let bytes : a % 256 * 256 + a / 256 ≡ b % 256 * 256 + b / 256 = sym (rot8_bytes a) ∙ e ∙ rot8_bytes b in
    omega arith

-- n cells of a list from the place i on.
abbrev pub cells : ℕ → ℕ → List ℕ → List ℕ
cells zero i xs = []
cells (suc n) i xs = get_or xs i 0 ∷ cells n (suc i) xs

cells_take : (n i : ℕ) (xs : List ℕ) → i + n ≤ length xs → cells n i xs ≡ take n (drop i xs)
cells_take zero i xs h = refl
cells_take (suc n) i xs h =
    let lt : i < length xs = omega arith in
    ap {B = List ℕ} (λ t. get_or xs i 0 ∷ t) (cells_take n (suc i) xs (omega arith)) ∙ sym (ap (take (suc n)) (drop-cons xs i 0 lt))

-- A list of n is its n cells.
pub cells_all : (n : ℕ) (xs : List ℕ) → length xs ≡ n → cells n 0 xs ≡ xs
cells_all n xs e = cells_take n 0 xs (omega arith) ∙ ap (λ (k : ℕ). take k xs) (sym e) ∙ take-length xs

-- The cells of a register of seventeen after a step with the word c.
unfoldable pub cell_step : (ℕ → ℕ) → List ℕ → ℕ → List ℕ
cell_step f r c =
    get_or r 1 0 ∷ rot8 (get_or r 2 0) ∷ get_or r 3 0 ∷ get_or r 4 0 ∷ get_or r 5 0 ∷ get_or r 6 0 ∷ get_or r 7 0 ∷ get_or r 8 0 ∷
    get_or r 9 0 ∷ get_or r 10 0 ∷ get_or r 11 0 ∷ get_or r 12 0 ∷ f (get_or r 13 0) ∷ get_or r 14 0 ∷
    plus (get_or r 15 0) (f (rot8 c)) ∷ get_or r 16 0 ∷ c ∷ []

step_cells : (f : ℕ → ℕ) (r : List ℕ) (c : ℕ) → step f (cells 17 0 r) c ≡ cell_step f (cells 17 0 r) c
unfolding step cell_step
step_cells f r c = refl

-- A step is those cells.
pub step_is : (f : ℕ → ℕ) (r : List ℕ) (c : ℕ) → length r ≡ 17 → step f r c ≡ cell_step f r c
step_is f r c e = subst (λ (x : List ℕ). step f x c ≡ cell_step f x c) (cells_all 17 r e) (step_cells f r c)

-- A register stays as long as it is.
pub step_size : (f : ℕ → ℕ) (r : List ℕ) (c : ℕ) → length r ≡ 17 → length (step f r c) ≡ 17
unfolding cell_step
step_size f r c e = ap length (step_is f r c e)

-- One step for each word of a list.
unfoldable pub steps : (ℕ → ℕ) → List ℕ → List ℕ → List ℕ
steps f r [] = r
steps f r (c ∷ cs) = steps f (step f r c) cs

unfoldable pub cell_steps : (ℕ → ℕ) → List ℕ → List ℕ → List ℕ
cell_steps f r [] = r
cell_steps f r (c ∷ cs) = cell_steps f (cell_step f r c) cs

pub steps_are : (f : ℕ → ℕ) (r us : List ℕ) → length r ≡ 17 → steps f r us ≡ cell_steps f r us
unfolding steps cell_steps
steps_are f r [] e = refl
steps_are f r (u ∷ us) e =
    steps_are f (step f r u) us (step_size f r u e) ∙ ap (λ (x : List ℕ). cell_steps f x us) (step_is f r u e)

forgets_cells : (f : ℕ → ℕ) (r s us : List ℕ) → cell_steps f r (cells 17 0 us) ≡ cell_steps f s (cells 17 0 us)
unfolding cell_step cell_steps
forgets_cells f r s us = refl

-- What n steps with the same words leave equal is equal after more of them.
pub lasting : (f : ℕ → ℕ) (n : ℕ) {X : Type 0} (P : List ℕ → X) →
    ((r s us : List ℕ) → P (cell_steps f r (cells n 0 us)) ≡ P (cell_steps f s (cells n 0 us))) →
    (r s us : List ℕ) → length r ≡ 17 → length s ≡ 17 → n ≤ length us → P (steps f r us) ≡ P (steps f s us)
unfolding steps cell_steps
lasting f n P base r s [] er es h = subst (λ (x : List ℕ). P (cell_steps f r x) ≡ P (cell_steps f s x)) (cells_all n [] (omega arith)) (base r s [])
lasting f n P base r s (u ∷ us) er es h =
    elim (cases_lt (length us) n) [
      | inl lt ↦
          ap P (steps_are f r (u ∷ us) er) ∙
          subst (λ (x : List ℕ). P (cell_steps f r x) ≡ P (cell_steps f s x)) (cells_all n (u ∷ us) (omega arith)) (base r s (u ∷ us)) ∙
          sym (ap P (steps_are f s (u ∷ us) es))
      | inr le ↦ lasting f n P base (step f r u) (step f s u) us (step_size f r u er) (step_size f s u es) le
    ]

-- Seventeen steps or more with the same words end in the same register.
pub steps_same : (f : ℕ → ℕ) (r s us : List ℕ) → length r ≡ 17 → length s ≡ 17 → 17 ≤ length us → steps f r us ≡ steps f s us
steps_same f r s us er es h = lasting f 17 (λ (x : List ℕ). x) (forgets_cells f) r s us er es h

pub forgets : (f : ℕ → ℕ) (r s us : List ℕ) → length r ≡ 17 → length s ≡ 17 → length us ≡ 17 → steps f r us ≡ steps f s us
forgets f r s us er es e = steps_same f r s us er es (omega arith)

module _ (f : ℕ → ℕ) (one : OneToOne f) where
  -- A word that entered before another, seen after the later one was added to it.
  back_plus : (u w a b : ℕ) → Word u → Word w → a ≡ b → plus u (f (rot8 a)) ≡ plus w (f (rot8 b)) → u ≡ w
  back_plus u w a b p q e h = plus_cancel u w (f (rot8 a)) p q (h ∙ ap (λ (x : ℕ). plus w (f (rot8 x))) (sym e))

  pub back_f : (u w a b : ℕ) → f (plus u a) ≡ f (plus w b) → plus u a ≡ plus w b
  back_f u w a b h = one.apart (plus u a) (plus w b) (plus_word u a) (plus_word w b) h

  pub back_rot : (u w a b : ℕ) → rot8 (f (plus u a)) ≡ rot8 (f (plus w b)) → f (plus u a) ≡ f (plus w b)
  back_rot u w a b h =
      rot8_cancel (f (plus u a)) (f (plus w b)) (one.word (plus u a) (plus_word u a)) (one.word (plus w b) (plus_word w b)) h

  remembers_cells : (r s us ws : List ℕ) → Words us → Words ws → cell_steps f r (cells 17 0 us) ≡ cell_steps f s (cells 17 0 ws) →
      cells 17 0 us ≡ cells 17 0 ws
  unfolding cell_step cell_steps
  remembers_cells r s us ws p q e =
      let u : ℕ → ℕ = λ i. get_or us i 0 in
      let w : ℕ → ℕ = λ i. get_or ws i 0 in
      let mid : (i j : ℕ) → u j ≡ w j → f (plus (u i) (f (rot8 (u j)))) ≡ f (plus (w i) (f (rot8 (w j)))) → u i ≡ w i =
      λ i j k h. back_plus (u i) (w i) (u j) (w j) (p i) (q i) k (back_f (u i) (w i) (f (rot8 (u j))) (f (rot8 (w j))) h) in
      let e16 : u 16 ≡ w 16 = ap (λ (x : List ℕ). get_or x 16 0) e in
      let e15 : u 15 ≡ w 15 = ap (λ (x : List ℕ). get_or x 15 0) e in
      let e14 : u 14 ≡ w 14 = back_plus (u 14) (w 14) (u 16) (w 16) (p 14) (q 14) e16 (ap (λ (x : List ℕ). get_or x 14 0) e) in
      let e13 : u 13 ≡ w 13 = back_plus (u 13) (w 13) (u 15) (w 15) (p 13) (q 13) e15 (ap (λ (x : List ℕ). get_or x 13 0) e) in
      let e12 : u 12 ≡ w 12 = mid 12 14 e14 (ap (λ (x : List ℕ). get_or x 12 0) e) in
      let e11 : u 11 ≡ w 11 = mid 11 13 e13 (ap (λ (x : List ℕ). get_or x 11 0) e) in
      let e10 : u 10 ≡ w 10 = mid 10 12 e12 (ap (λ (x : List ℕ). get_or x 10 0) e) in
      let e9 : u 9 ≡ w 9 = mid 9 11 e11 (ap (λ (x : List ℕ). get_or x 9 0) e) in
      let e8 : u 8 ≡ w 8 = mid 8 10 e10 (ap (λ (x : List ℕ). get_or x 8 0) e) in
      let e7 : u 7 ≡ w 7 = mid 7 9 e9 (ap (λ (x : List ℕ). get_or x 7 0) e) in
      let e6 : u 6 ≡ w 6 = mid 6 8 e8 (ap (λ (x : List ℕ). get_or x 6 0) e) in
      let e5 : u 5 ≡ w 5 = mid 5 7 e7 (ap (λ (x : List ℕ). get_or x 5 0) e) in
      let e4 : u 4 ≡ w 4 = mid 4 6 e6 (ap (λ (x : List ℕ). get_or x 4 0) e) in
      let e3 : u 3 ≡ w 3 = mid 3 5 e5 (ap (λ (x : List ℕ). get_or x 3 0) e) in
      let e2 : u 2 ≡ w 2 = mid 2 4 e4 (ap (λ (x : List ℕ). get_or x 2 0) e) in
      let e1 : u 1 ≡ w 1 =
      mid 1 3 e3 (back_rot (u 1) (w 1) (f (rot8 (u 3))) (f (rot8 (w 3))) (ap (λ (x : List ℕ). get_or x 1 0) e)) in
      let e0 : u 0 ≡ w 0 =
      mid 0 2 e2 (back_rot (u 0) (w 0) (f (rot8 (u 2))) (f (rot8 (w 2))) (ap (λ (x : List ℕ). get_or x 0 0) e)) in
      λ i. e0 i ∷ e1 i ∷ e2 i ∷ e3 i ∷ e4 i ∷ e5 i ∷ e6 i ∷ e7 i ∷ e8 i ∷ e9 i ∷ e10 i ∷ e11 i ∷ e12 i ∷ e13 i ∷ e14 i ∷
      e15 i ∷ e16 i ∷ []

-- Seventeen steps that end in the same register took the same words.
pub remembers : (f : ℕ → ℕ) → OneToOne f → (r s us ws : List ℕ) → length r ≡ 17 → length s ≡ 17 → length us ≡ 17 → length ws ≡ 17 →
    Words us → Words ws → steps f r us ≡ steps f s ws → us ≡ ws
remembers f one r s us ws er es eu ew p q e =
    sym (cells_all 17 us eu) ∙
    remembers_cells f one r s us ws p q
    (ap (cell_steps f r) (cells_all 17 us eu) ∙ sym (steps_are f r us er) ∙ e ∙ steps_are f s ws es ∙
    sym (ap (cell_steps f s) (cells_all 17 ws ew))) ∙
    cells_all 17 ws ew

-- The steps of joined lists, and one step more.
pub steps-++ : (f : ℕ → ℕ) (r us ws : List ℕ) → steps f r (us ++ ws) ≡ steps f (steps f r us) ws
unfolding steps
steps-++ f r [] ws = refl
steps-++ f r (u ∷ us) ws = steps-++ f (step f r u) us ws

pub steps_push : (f : ℕ → ℕ) (r us : List ℕ) (m : ℕ) → steps f r (us ++ m ∷ []) ≡ step f (steps f r us) m
unfolding steps
steps_push f r us m = steps-++ f r us (m ∷ [])
