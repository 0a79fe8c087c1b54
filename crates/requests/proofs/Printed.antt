-- What is printed so far of a run, line by line.
use Rattle.std.proofs.Common.{◌≡◌, ℕ, ◌<◌, List, [], ◌∷◌, ◌++◌, length, Option, Some, None, sym, ap, refl, subst}
use Rattle.std.specs.Prelude.{IfSome}
use Rattle.std.specs.Io.BufRead.{DropsThrough, drop_through, first_piece}
use Rattle.std.specs.Io.KnownBytes.{Appends, prepend_known}
use Rattle.std.specs.List.{FoldsTo, concat}
use Rattle.std.proofs.lemmas.Fn.{FoldsTo-push}
use Rattle.fields.proofs.Appended.{concat_more, nothing_more, appends_then}
use Rattle.requests.specs.Runs.{NextLine, Takes, Told}
use Rattle.requests.specs.Tallies.{fresh}
use Rattle.requests.specs.declared.tally.Tally.{Tally}

-- Of the input so much is left, and the texts of the lines before are printed.
pub record SoFar (printed printed' : Option (List ℕ)) (input : List ℕ) (left : Option (List ℕ)) (tally : Tally) : Type 0 where
  pub texts : List (List ℕ)
  pub rest : List ℕ
  pub known : left ≡ Some rest
  pub told : FoldsTo NextLine (record { left = input; tally = fresh }) texts (record { left = rest; tally = tally })
  pub grew : Appends printed printed' (concat texts)

-- Before the first line, where the input is known.
pub at_start : (known printed left : Option (List ℕ)) (tally : Tally) → left ≡ prepend_known [] known → tally ≡ fresh → IfSome known (λ input. SoFar printed printed input left tally)
at_start None printed left tally all new = tt
at_start (Some input) printed left tally all new = record {
  texts = [];
  rest = input;
  known = all;
  told = ap (λ (t : Tally). record { left = input; tally = t }) (sym new);
  grew = nothing_more printed;
}

module _ (a b b' left left' : Option (List ℕ)) (line : List ℕ) (t t' : Tally) where
  -- What is read where bytes are left.
  abbrev Read : ℕ → Option (List ℕ) → Type 0
  Read byte o = IfSome o (λ xs. (0 < length xs) × (line ≡ first_piece byte xs)) × DropsThrough o left' byte

  more : (input : List ℕ) → SoFar a b input left t → Read 10 left → Takes line t t' b b' → SoFar a b' input left' t'
  more input so_far read (text, told, appends) =
      let here : Read 10 (Some so_far.rest) = subst (Read 10) so_far.known read in
      let next : NextLine (record { left = so_far.rest; tally = t }) text (record { left = drop_through 10 so_far.rest; tally = t' }) = (here.0.0, refl, subst (λ (l : List ℕ). Told l t t' text) here.0.1 told) in
      record {
        texts = so_far.texts ++ text ∷ [];
        rest = drop_through 10 so_far.rest;
        known = here.1;
        told = FoldsTo-push NextLine _ so_far.texts _ text _ so_far.told next;
        grew = subst (Appends a b') (concat_more so_far.texts text) (appends_then a b b' _ text so_far.grew appends);
      }

  -- After one line more.
  pub one_line : (known : Option (List ℕ)) (byte : ℕ) → byte ≡ 10 → IfSome known (λ input. SoFar a b input left t) → Read byte left → Takes line t t' b b' → IfSome known (λ input. SoFar a b' input left' t')
  one_line None byte ten so_far read takes = tt
  one_line (Some input) byte ten so_far read takes = more input so_far (subst (λ (n : ℕ). Read n left) ten read) takes
