-- What is printed so far of a run, line by line.
use Rattle.std.proofs.Common.{◌≡◌, ℕ, ◌-◌, ◌<◌, ◌⊎◌, inl, inr, Bool, true, false, List, [], ◌∷◌, ◌++◌, length, take, Option, Some, None, sym, ap, ◌∙◌, refl, subst, arith, eqb-true, length-take}
use Rattle.std.specs.Prelude.{IfSome, ◌==◌}
use Rattle.std.specs.Io.BufRead.{DropsThrough, drop_through, ends_with_byte, first_piece, strip_last, take_through}
use Rattle.std.specs.Io.KnownBytes.{Appends, IsAtEnd, prepend_known}
use Rattle.std.specs.List.{FoldsTo, concat}
use Rattle.std.proofs.lemmas.Bool.{cond-true, cond-false, eqb-false}
use Rattle.std.proofs.lemmas.Fn.{FoldsTo-push}
use Rattle.fields.proofs.Appended.{concat_more, nothing_more, appends_then}
use Rattle.vectors.specs.Reports.{Prints, Told, figures_text, summary_text}
use Rattle.vectors.specs.Runs.{AtEnd, NextLine, PrintsReport}
use Rattle.vectors.specs.Tallies.{fresh, raised}
use Rattle.vectors.specs.declared.report.Tally.{Tally}

-- What is still to be told: what is left of the input, behind the empty line that is held.
abbrev pub ahead : Bool → List ℕ → List ℕ
ahead true rest = 10 ∷ rest
ahead false rest = rest

-- Of the input so much is left, and the texts of the lines before are printed.
pub record SoFar (printed printed' : Option (List ℕ)) (input : List ℕ) (left : Option (List ℕ)) (held : Bool) (number : ℕ) (tally : Tally) : Type 0 where
  pub texts : List (List ℕ)
  pub rest : List ℕ
  pub known : left ≡ Some rest
  pub told : FoldsTo NextLine (record { left = input; number = 0; tally = fresh }) texts (record { left = ahead held rest; number = number; tally = tally })
  pub grew : Appends printed printed' (concat texts)

-- Before the first line, where the input is known.
pub at_start : (known printed left : Option (List ℕ)) (tally : Tally) → left ≡ prepend_known [] known → tally ≡ fresh → IfSome known (λ input. SoFar printed printed input left false 0 tally)
at_start None printed left tally all new = tt
at_start (Some input) printed left tally all new = record {
  texts = [];
  rest = input;
  known = all;
  told = ap (λ (t : Tally). record { left = input; number = 0; tally = t }) (sym new);
  grew = nothing_more printed;
}

by_test : {G : Type 0} (b : Bool) → (b ≡ true → G) → (b ≡ false → G) → G
by_test true holds fails = holds refl
by_test false holds fails = fails refl

-- What begins with another byte keeps that one.
stripped : (x : ℕ) (zs : List ℕ) → (x == 10) ≡ false → 0 < length (strip_last 10 (x ∷ zs))
stripped x [] other = by_test (x == 10) (λ e. absurd (omega (arith, eqb-true x 10 e, eqb-false x 10 other))) (λ e. rw e (omega arith))
stripped x (z ∷ zs) other =
    let whole = x ∷ z ∷ zs in
    let kept : 0 < length (take (length whole - 1) whole) = omega (arith, length-take (length whole - 1) whole) in
    by_test (ends_with_byte 10 whole) (λ e. subst (λ (l : List ℕ). 0 < length l) (sym (cond-true _ _ _ e)) kept) (λ e. subst (λ (l : List ℕ). 0 < length l) (sym (cond-false _ _ _ e)) (omega arith))

-- A first line that is empty is a line's end.
empty_line : (xs : List ℕ) → 0 < length xs → length (first_piece 10 xs) ≡ 0 → 10 ∷ drop_through 10 xs ≡ xs
empty_line [] some none = absurd (omega (arith, some))
empty_line (x ∷ ys) some none =
    by_test (x == 10)
    (λ e. ap (λ (l : List ℕ). 10 ∷ l) (cond-true _ _ _ e) ∙ ap (λ (n : ℕ). n ∷ ys) (sym (eqb-true x 10 e)))
    (λ e. absurd (omega (arith, stripped x (take_through 10 ys) e, ap (λ (l : List ℕ). length (strip_last 10 l)) (sym (cond-false _ _ _ e)) ∙ none)))

-- A line is told under the next number.
abbrev pub Tells : List ℕ → ℕ → Tally → Option (List ℕ) → ℕ → Tally → Option (List ℕ) → Type 0
Tells line n t b m u c = (m ≡ raised n 1) × Prints (Told m line t u) b c

-- Nothing is done.
abbrev pub Rests : ℕ → Tally → Option (List ℕ) → ℕ → Tally → Option (List ℕ) → Type 0
Rests n t b m u c = (n ≡ m) × (t ≡ u) × (b ≡ c)

-- What is read where bytes are left.
abbrev pub Reads : List ℕ → Option (List ℕ) → ℕ → Option (List ℕ) → Type 0
Reads line left' byte left = IfSome left (λ xs. (0 < length xs) × (line ≡ first_piece byte xs)) × DropsThrough left left' byte

module _ (a : Option (List ℕ)) (input : List ℕ) where
  -- Where nothing is done.
  rested : (left : Option (List ℕ)) (held : Bool) (n m : ℕ) (t u : Tally) (b c : Option (List ℕ)) → SoFar a b input left held n t → Rests n t b m u c → SoFar a c input left held m u
  rested left held n m t u b c so_far (number, tally, printed) = subst (λ (i : ℕ × Tally × Option (List ℕ)). SoFar a i.2 input left held i.0 i.1) (λ i. (number i, tally i, printed i)) so_far

  -- A line more is told.
  told_more : (left left' : Option (List ℕ)) (held held' : Bool) (n m : ℕ) (t u : Tally) (b c : Option (List ℕ)) (line rest' : List ℕ) (so_far : SoFar a b input left held n t) → (AtEnd (ahead held so_far.rest) → ⊥)
      → left' ≡ Some rest' → ahead held' rest' ≡ drop_through 10 (ahead held so_far.rest) → line ≡ first_piece 10 (ahead held so_far.rest) → Tells line n t b m u c → SoFar a c input left' held' m u
  told_more left left' held held' n m t u b c line rest' so_far more known dropped first (number, (text, told, appends)) = record {
    texts = so_far.texts ++ text ∷ [];
    rest = rest';
    known = known;
    told = FoldsTo-push NextLine _ so_far.texts _ text _ so_far.told (more, dropped, number, subst (λ (l : List ℕ). Told m l t u text) first told);
    grew = subst (Appends a c) (concat_more so_far.texts text) (appends_then a b c _ text so_far.grew appends);
  }

  -- The empty line that is held is told, where another line stands behind it.
  held_told : (left left' : Option (List ℕ)) (held : Bool) (n m : ℕ) (t u : Tally) (b c : Option (List ℕ)) (line : List ℕ) → SoFar a b input left held n t → Reads line left' 10 left
      → ((held ≡ true) × Tells [] n t b m u c) ⊎ ((held ≡ false) × Rests n t b m u c) → SoFar a c input left false m u
  held_told left left' held n m t u b c line so_far read (inr (free, rests)) =
      rested left false n m t u b c (subst (λ (h : Bool). SoFar a b input left h n t) free so_far) rests
  held_told left left' held n m t u b c line so_far read (inl (full, tells)) =
      let before : SoFar a b input left true n t = subst (λ (h : Bool). SoFar a b input left h n t) full so_far in
      let some : 0 < length before.rest = (subst (Reads line left' 10) before.known read).0.0 in
      let more : AtEnd (10 ∷ before.rest) → ⊥ = λ e. elim e [ inl none ↦ absurd (omega (arith, ap length none)) | inr one ↦ absurd (omega (arith, some, ap length one)) ] in
      told_more left left true false n m t u b c [] before.rest before more before.known refl refl tells

  -- The line read is told where it is not empty, and else held.
  line_told : (left left' : Option (List ℕ)) (held' : Bool) (m k : ℕ) (u v : Tally) (c d : Option (List ℕ)) (line : List ℕ) → SoFar a c input left false m u → Reads line left' 10 left → held' ≡ (length line == 0)
      → ((held' ≡ false) × Tells line m u c k v d) ⊎ ((held' ≡ true) × Rests m u c k v d) → SoFar a d input left' held' k v
  line_told left left' held' m k u v c d line so_far read empty (inl (other, tells)) =
      let here : Reads line left' 10 (Some so_far.rest) = subst (Reads line left' 10) so_far.known read in
      let more : AtEnd so_far.rest → ⊥ = λ e. elim e [
        | inl none ↦ absurd (omega (arith, here.0.0, ap length none))
        | inr one ↦ absurd (omega (arith, eqb-false (length line) 0 (sym empty ∙ other), ap length here.0.1, ap (λ (l : List ℕ). length (first_piece 10 l)) one))
      ] in
      subst (λ (h : Bool). SoFar a d input left' h k v) (sym other) (told_more left left' false false m k u v c d line (drop_through 10 so_far.rest) so_far more here.1 refl here.0.1 tells)
  line_told left left' held' m k u v c d line so_far read empty (inr (full, rests)) =
      let here : Reads line left' 10 (Some so_far.rest) = subst (Reads line left' 10) so_far.known read in
      let none : length (first_piece 10 so_far.rest) ≡ 0 = ap length (sym here.0.1) ∙ eqb-true (length line) 0 (sym empty ∙ full) in
      let left_over = empty_line so_far.rest here.0.0 none in
      let after : SoFar a c input left' true m u = record {
        texts = so_far.texts;
        rest = drop_through 10 so_far.rest;
        known = here.1;
        told = subst (λ (l : List ℕ). FoldsTo NextLine (record { left = input; number = 0; tally = fresh }) so_far.texts (record { left = l; number = m; tally = u })) (sym left_over) so_far.told;
        grew = so_far.grew;
      } in
      subst (λ (h : Bool). SoFar a d input left' h k v) (sym full) (rested left' true m k u v c d after rests)

-- After one line more is read, where the input is known.
pub one_line : (a known left left' : Option (List ℕ)) (held held' : Bool) (n m k : ℕ) (t u v : Tally) (b c d : Option (List ℕ)) (line : List ℕ) (byte : ℕ) → byte ≡ 10
    → IfSome known (λ input. SoFar a b input left held n t) → Reads line left' byte left
    → ((held ≡ true) × Tells [] n t b m u c) ⊎ ((held ≡ false) × Rests n t b m u c) → held' ≡ (length line == 0)
    → ((held' ≡ false) × Tells line m u c k v d) ⊎ ((held' ≡ true) × Rests m u c k v d) → IfSome known (λ input. SoFar a d input left' held' k v)
one_line a None left left' held held' n m k t u v b c d line byte ten so_far read first empty second = tt
one_line a (Some input) left left' held held' n m k t u v b c d line byte ten so_far read first empty second =
    let read : Reads line left' 10 left = subst (λ (x : ℕ). Reads line left' x left) ten read in
    line_told a input left left' held' m k u v c d line (held_told a input left left' held n m t u b c line so_far read first) read empty second

-- What is told under other names for the same.
pub tells_as : (line line' : List ℕ) (n m m' : ℕ) (t u u' : Tally) (b c c' : Option (List ℕ)) → line' ≡ line → m ≡ m' → u ≡ u' → c ≡ c' → Tells line' n t b m' u' c' → Tells line n t b m u c
tells_as line line' n m m' t u u' b c c' lines number tally printed =
    subst (λ (i : List ℕ × ℕ × Tally × Option (List ℕ)). Tells i.0 n t b i.1 i.2 i.3) (λ i. (lines i, sym number i, sym tally i, sym printed i))

-- Where nothing is left of the input, no more is told.
ended_at : (held : Bool) → AtEnd (ahead held [])
ended_at true = inr refl
ended_at false = inl refl

-- At the end of the input.
pub at_end : (known printed a b d left : Option (List ℕ)) (hold held : Bool) (n : ℕ) (t : Tally) → hold ≡ true → Appends printed a (figures_text hold) → IfSome known (λ input. SoFar a b input left held n t)
    → IsAtEnd left → Appends b d (summary_text t) → IfSome known (PrintsReport printed d)
at_end None printed a b d left hold held n t holds first so_far none last = tt
at_end (Some input) printed a b d left hold held n t holds first so_far none last =
    let empty : so_far.rest ≡ [] = subst IsAtEnd so_far.known none in (
      so_far.texts,
      _,
      so_far.told,
      subst (λ (l : List ℕ). AtEnd (ahead held l)) (sym empty) (ended_at held),
      appends_then printed b d (figures_text true ++ concat so_far.texts) (summary_text t)
          (appends_then printed a b (figures_text true) (concat so_far.texts) (subst (λ (h : Bool). Appends printed a (figures_text h)) holds first) so_far.grew) last,
    )
