-- What a keystream word tells of the words that the register was stepped with before.
use Rattle.std.proofs.Common.{◌≡◌, ℕ, List, [], ◌∷◌, ◌++◌, length, get_or, sym, ap, ◌∙◌}
use lib.Bits.{bit_xor}
use Rattle.sss.specs.Cipher.{Word, OneToOne, plus, rot8, step, keystream}
use Rattle.sss.proofs.Words.{rotate_word, xor_cancel}
use Rattle.link.proofs.Register.{plus_word, plus_cancel, plus_cancel_left, rot8_cancel, cells, cells_all, cell_step, cell_steps, step_is, steps, steps_are, back_f, back_rot}

-- Equal keystream words with one cell 0 were made of equal sums, and of equal first parts of them where the other parts are equal.
keystream_sum : (f : ℕ → ℕ) → OneToOne f → (a b r : ℕ) → Word a → Word b → bit_xor (rot8 (f a)) r ≡ bit_xor (rot8 (f b)) r → a ≡ b
keystream_sum f one a b r p q e =
    one.apart a b p q (rot8_cancel (f a) (f b) (one.word a p) (one.word b q) (xor_cancel (rot8 (f a)) (rot8 (f b)) r e))

keystream_front : (f : ℕ → ℕ) → OneToOne f → (a b c d r : ℕ) → Word a → Word b →
    bit_xor (rot8 (f (plus (plus a c) d))) r ≡ bit_xor (rot8 (f (plus (plus b c) d))) r → a ≡ b
keystream_front f one a b c d r p q e =
    plus_cancel a b c p q
    (plus_cancel (plus a c) (plus b c) d (plus_word a c) (plus_word b c)
    (keystream_sum f one (plus (plus a c) d) (plus (plus b c) d) r (plus_word (plus a c) d) (plus_word (plus b c) d) e))

-- It tells the latest word.
keystream_cells : (f : ℕ → ℕ) → OneToOne f → (r : List ℕ) (x y : ℕ) → Word x → Word y →
    keystream f (cell_step f r x) ≡ keystream f (cell_step f r y) → x ≡ y
unfolding keystream cell_step
keystream_cells f one r x y p q e =
    let a : ℕ = get_or r 1 0 in
    let b : ℕ = rot8 (get_or r 2 0) in
    let fx : ℕ → ℕ = λ z. f (plus a z) in
    let w : (z : ℕ) → Word (fx z) = λ z. one.word (plus a z) (plus_word a z) in
    let e1 : plus (fx x) b ≡ plus (fx y) b =
    keystream_front f one (plus (fx x) b) (plus (fx y) b) (get_or r 7 0) (get_or r 14 0) a (plus_word (fx x) b) (plus_word (fx y) b) e in
    plus_cancel_left a x y p q
    (one.apart (plus a x) (plus a y) (plus_word a x) (plus_word a y) (plus_cancel (fx x) (fx y) b (w x) (w y) e1))

pub keystream_latest : (f : ℕ → ℕ) → OneToOne f → (r : List ℕ) (x y : ℕ) → length r ≡ 17 → Word x → Word y →
    keystream f (step f r x) ≡ keystream f (step f r y) → x ≡ y
keystream_latest f one r x y l p q e =
    keystream_cells f one r x y p q (sym (ap (keystream f) (step_is f r x l)) ∙ e ∙ ap (keystream f) (step_is f r y l))

module _ (f : ℕ → ℕ) (one : OneToOne f) where
  -- Four steps on it tells a word, whatever the next one was.
  loud_4_cells : (r us : List ℕ) (x y z w : ℕ) → Word x → Word y →
      keystream f (cell_steps f r (x ∷ z ∷ cells 2 0 us)) ≡ keystream f (cell_steps f r (y ∷ w ∷ cells 2 0 us)) → x ≡ y
  unfolding keystream cell_step cell_steps
  loud_4_cells r us x y z w p q e =
      let u : ℕ = f (rot8 (get_or us 0 0)) in
      let a : ℕ = plus (plus (f (plus (rot8 (get_or r 4 0)) (get_or us 1 0))) (rot8 (get_or r 5 0))) (get_or r 10 0) in
      plus_cancel x y u p q
      (plus_cancel_left a (plus x u) (plus y u) (plus_word x u) (plus_word y u)
      (keystream_sum f one (plus a (plus x u)) (plus a (plus y u)) (rot8 (get_or r 4 0)) (plus_word a (plus x u)) (plus_word a (plus y u)) e))

  -- Sixteen steps on it tells a word, where the word before was one.
  loud_16_cells : (r s us : List ℕ) (x y : ℕ) → Word x → Word y → get_or r 16 0 ≡ get_or s 16 0 →
      keystream f (cell_steps f r (x ∷ cells 15 0 us)) ≡ keystream f (cell_steps f s (y ∷ cells 15 0 us)) → x ≡ y
  unfolding keystream cell_step cell_steps
  loud_16_cells r s us x y p q h e =
      let u : ℕ → ℕ = λ i. get_or us i 0 in
      let v : ℕ = f (rot8 (u 1)) in
      let r0 : ℕ → ℕ = λ c. rot8 (f (plus c (f (rot8 (u 0))))) in
      let r1 : ℕ → ℕ = λ z. rot8 (f (plus z v)) in
      let r6 : ℕ = f (plus (u 4) (f (rot8 (u 6)))) in
      let r13 : ℕ = plus (u 11) (f (rot8 (u 13))) in
      let in0 : ℕ → ℕ = λ c. f (plus (r0 c) (u 14)) in
      let a : ℕ = get_or r 16 0 in
      let w : (z : ℕ) → Word (r1 z) = λ z. rotate_word (f (plus z v)) (one.word (plus z v) (plus_word z v)) in
      let e1 : plus (in0 a) (r1 x) ≡ plus (in0 a) (r1 y) =
      keystream_front f one (plus (in0 a) (r1 x)) (plus (in0 a) (r1 y)) r6 r13 (r0 a) (plus_word (in0 a) (r1 x)) (plus_word (in0 a) (r1 y))
      (e ∙ ap (λ (c : ℕ). bit_xor (rot8 (f (plus (plus (plus (in0 c) (r1 y)) r6) r13))) (r0 c)) (sym h)) in
      plus_cancel x y v p q (back_f f one x y v v (back_rot f one x y v v (plus_cancel_left (in0 a) (r1 x) (r1 y) (w x) (w y) e1)))

-- So many words after a word it tells nothing of it, nor of the first two cells before it.
abbrev pub Quiet : (ℕ → ℕ) → ℕ → Type 0
Quiet f n = (r s us : List ℕ) (x y : ℕ) → cells 15 2 r ≡ cells 15 2 s →
    keystream f (cell_steps f r (x ∷ cells n 0 us)) ≡ keystream f (cell_steps f s (y ∷ cells n 0 us))

pub quiets : (f : ℕ → ℕ) → Quiet f 2 × Quiet f 4 × Quiet f 11 × Quiet f 12
unfolding keystream cell_step cell_steps
quiets f =
    let word : ℕ → List ℕ → ℕ → List ℕ → ℕ = λ n us x c. keystream f (cell_steps f (0 ∷ 0 ∷ c) (x ∷ cells n 0 us)) in (
      λ r s us x y h. ap (word 2 us x) h,
      λ r s us x y h. ap (word 4 us x) h,
      λ r s us x y h. ap (word 11 us x) h,
      λ r s us x y h. ap (word 12 us x) h,
    )

-- The same three of the steps of a list.
by_cells : (f : ℕ → ℕ) (n : ℕ) (r ws us : List ℕ) → length r ≡ 17 → length us ≡ n →
    keystream f (steps f r (ws ++ us)) ≡ keystream f (cell_steps f r (ws ++ cells n 0 us))
by_cells f n r ws us er eu =
    ap (keystream f) (steps_are f r (ws ++ us) er) ∙ sym (ap (λ (x : List ℕ). keystream f (cell_steps f r (ws ++ x))) (cells_all n us eu))

pub loud_4 : (f : ℕ → ℕ) → OneToOne f → (r us : List ℕ) (x y z w : ℕ) → Word x → Word y → length r ≡ 17 → length us ≡ 2 →
    keystream f (steps f r (x ∷ z ∷ us)) ≡ keystream f (steps f r (y ∷ w ∷ us)) → x ≡ y
loud_4 f one r us x y z w p q er eu e =
    loud_4_cells f one r us x y z w p q
    (sym (by_cells f 2 r (x ∷ z ∷ []) us er eu) ∙ e ∙ by_cells f 2 r (y ∷ w ∷ []) us er eu)

pub loud_16 : (f : ℕ → ℕ) → OneToOne f → (r s us : List ℕ) (x y : ℕ) → Word x → Word y → length r ≡ 17 → length s ≡ 17 → length us ≡ 15 →
    get_or r 16 0 ≡ get_or s 16 0 → keystream f (steps f r (x ∷ us)) ≡ keystream f (steps f s (y ∷ us)) → x ≡ y
loud_16 f one r s us x y p q er es eu h e =
    loud_16_cells f one r s us x y p q h (sym (by_cells f 15 r (x ∷ []) us er eu) ∙ e ∙ by_cells f 15 s (y ∷ []) us es eu)

pub quiet : (f : ℕ → ℕ) (n : ℕ) → Quiet f n → (r s us : List ℕ) (x y : ℕ) → length r ≡ 17 → length s ≡ 17 → length us ≡ n →
    cells 15 2 r ≡ cells 15 2 s → keystream f (steps f r (x ∷ us)) ≡ keystream f (steps f s (y ∷ us))
quiet f n q r s us x y er es eu h = by_cells f n r (x ∷ []) us er eu ∙ q r s us x y h ∙ sym (by_cells f n s (y ∷ []) us es eu)
