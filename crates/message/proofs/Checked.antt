-- What follows from the checks, and the outcome by what they found.
use Rattle.std.proofs.Common.{◌≡◌, ℕ, ◌%◌, Bool, true, false, not, cond, ◌&&◌, ◌==◌, List, length, replicate, drop, Option, Some, None, Result, Ok, Err, OnErr, IfErr, MatchResult, ◌≢◌, ◌++◌, refl, inl, inr, sym, ap, ◌∙◌}
use Rattle.std.proofs.lemmas.Bool.{and_parts, cases_Bool, eqb-true, false≢true, leb-true, true≢false}
use Rattle.std.proofs.lemmas.Slice.Eq.{bytes_eq-Decides}
use Rattle.std.specs.Prelude.{nat_le}
use Rattle.std.specs.Str.{bytes_eq}
use Rattle.sss.specs.declared.fault.Fault.{Fault}
use Rattle.sss.specs.declared.fault.Fault.TheVariants.{Nonce, Input, Masks, Output, TagLength, TagDiffers}
use Rattle.sss.specs.Cipher.{NonceFits, nonce_fits}
use Rattle.sss.proofs.Refusals.{nonce_fits_false, nonce_fits_true}
use Rattle.message.proofs.Buffers.{begun_with}
use Rattle.message.specs.Buffers.{written_over, due_tag, plain_bytes, sealed_tag, wire_bytes}
use Rattle.message.specs.Checks.{LengthsFit, first_failed, length_checks, longest_bytes, open_fault, seal_fault}
use Rattle.message.specs.Outcomes.{OpenOutcome, OpensOrRefuses, SealOutcome, left_by_open, left_by_seal, open_outcome, refused_or, seal_outcome, tag_outcome}

-- What comparing bytes tells.
pub compared_same : (xs ys : List ℕ) → false ≡ not (bytes_eq xs ys) → xs ≡ ys
compared_same xs ys told =
    (bytes_eq-Decides xs ys).0 (elim (cases_Bool (bytes_eq xs ys)) [
      | inl same ↦ same
      | inr other ↦ absurd (false≢true (told ∙ ap not other))
    ])

pub compared_other : (xs ys : List ℕ) → true ≡ not (bytes_eq xs ys) → xs ≡ ys → ⊥
compared_other xs ys told same = true≢false (told ∙ ap not ((bytes_eq-Decides xs ys).1 same))

pub not_same : (xs ys : List ℕ) → (xs ≡ ys → ⊥) → bytes_eq xs ys ≡ false
not_same xs ys differs =
    elim (cases_Bool (bytes_eq xs ys)) [
      | inl same ↦ absurd (differs ((bytes_eq-Decides xs ys).0 same))
      | inr other ↦ other
    ]

-- A check that was followed by others held.
held : (b : Bool) (rest : Option Fault) (fault : Fault) → cond b rest (Some fault) ≡ None → (b ≡ true) × (rest ≡ None)
held true rest fault h = (refl, h)
held false rest fault h = absurd cc

-- Where nothing is refused all lengths fit.
pub lengths_fit : (masks input output tag : List ℕ) → seal_fault masks input output tag ≡ None → LengthsFit (length masks) (length input) (length output) (length tag)
unfolding seal_fault
lengths_fit masks input output tag h =
    let (input-fits, h₁) = held (length input % 2 == 0 && nat_le (length input) longest_bytes) _ _ h in
    let (masks-fit, h₂) = held (length masks == length input) _ _ h₁ in
    let (output-fits, h₃) = held (nat_le (length input) (length output)) _ _ h₂ in
    let (tag-fits, h₄) = held (length tag == 16) _ _ h₃ in
    let (even, most) = and_parts _ _ input-fits in
    record {
      even = eqb-true (length input % 2) 0 even;
      most = leb-true (length input) longest_bytes most;
      mask_each = eqb-true (length masks) (length input) masks-fit;
      room = leb-true (length input) (length output) output-fits;
      sixteen = eqb-true (length tag) 16 tag-fits;
    }

-- Of open_outcome, the nonce is looked at first.
pub nonce_unfit : (nonce masks input output tag : List ℕ) → (NonceFits nonce → ⊥) → open_fault nonce masks input output tag ≡ Some Nonce
unfolding open_fault
nonce_unfit nonce masks input output tag unfit =
    ap (λ (b : Bool). cond b (first_failed (length_checks masks input output tag)) (Some Nonce)) (nonce_fits_false nonce unfit)

pub nonce_fit : (nonce masks input output tag : List ℕ) → NonceFits nonce → open_fault nonce masks input output tag ≡ seal_fault masks input output tag
unfolding open_fault seal_fault
nonce_fit nonce masks input output tag fit =
    ap (λ (b : Bool). cond b (first_failed (length_checks masks input output tag)) (Some Nonce)) (nonce_fits_true nonce fit)

pub nonce_held : (nonce masks input output tag : List ℕ) → open_fault nonce masks input output tag ≡ None →
    (nonce_fits nonce ≡ true) × (seal_fault masks input output tag ≡ None)
unfolding open_fault seal_fault
nonce_held nonce masks input output tag h = held (nonce_fits nonce) _ _ h

-- The checks before the tag never refuse the tag.
before_tag : (b : Bool) (rest : Option Fault) (fault : Fault) → (fault ≡ TagDiffers → ⊥) → cond b rest (Some fault) ≡ Some TagDiffers → rest ≡ Some TagDiffers
before_tag true rest fault other h = h
before_tag false rest fault other h = absurd (other cc)

pub no_tag_fault : (nonce masks input output tag : List ℕ) → open_fault nonce masks input output tag ≡ Some TagDiffers → ⊥
unfolding open_fault
no_tag_fault nonce masks input output tag h =
    let h₁ = before_tag (nonce_fits nonce) _ Nonce (λ e. cc) h in
    let h₂ = before_tag (length input % 2 == 0 && nat_le (length input) longest_bytes) _ Input (λ e. cc) h₁ in
    let h₃ = before_tag (length masks == length input) _ Masks (λ e. cc) h₂ in
    let h₄ = before_tag (nat_le (length input) (length output)) _ Output (λ e. cc) h₃ in
    let h₅ = before_tag (length tag == 16) None TagLength (λ e. cc) h₄ in
    cc

pub then_lengths : (nonce masks input output tag : List ℕ) (L : Type 0) (r : Result (Unit {0}) Fault) → NonceFits nonce →
    MatchResult r (λ _. (seal_fault masks input output tag ≡ None) × L) (λ e. seal_fault masks input output tag ≡ Some e) →
    MatchResult r (λ _. (open_fault nonce masks input output tag ≡ None) × NonceFits nonce × L) (λ e. open_fault nonce masks input output tag ≡ Some e)
then_lengths nonce masks input output tag L (Ok x) fit p = (nonce_fit nonce masks input output tag fit ∙ p.0, fit, p.1)
then_lengths nonce masks input output tag L (Err e) fit p = nonce_fit nonce masks input output tag fit ∙ p

-- Past the checks of open_outcome, only the tag can be refused.
pub tag_alone : (fault : Option Fault) (Unchanged Wiped : Type 0) (r : Result (Unit {0}) Fault) → fault ≡ None → IfErr r (λ e. e ≡ TagDiffers) → OnErr r Wiped →
    OpensOrRefuses fault r Unchanged Wiped
tag_alone fault U W (Ok x) none differs wiped = none
tag_alone fault U W (Err e) none differs wiped = inr (none, differs, wiped)

module _ (f A : ℕ → ℕ) (nonce masks input output tag : List ℕ) where
  -- Sealing: where a check failed, and where all held.
  pub seal_refused : (e : Fault) → seal_fault masks input output tag ≡ Some e →
      left_by_seal (Err e) output tag ≡ seal_outcome f A nonce masks input output tag
  unfolding seal_outcome
  seal_refused e h =
      sym (ap {B = SealOutcome} (λ (o : Option Fault). refused_or o (λ fault. left_by_seal (Err fault) output tag)
      (left_by_seal (Ok tt) (written_over (wire_bytes f A nonce masks input) output) (sealed_tag f A nonce masks input))) h)

  pub seal_done : (output' tag' : List ℕ) → seal_fault masks input output tag ≡ None → output' ≡ written_over (wire_bytes f A nonce masks input) output →
      tag' ≡ sealed_tag f A nonce masks input → left_by_seal (Ok tt) output' tag' ≡ seal_outcome f A nonce masks input output tag
  unfolding seal_outcome
  seal_done output' tag' h output-is tag-is =
      (λ j. left_by_seal (Ok tt) (output-is j) (tag-is j)) ∙
      sym (ap {B = SealOutcome} (λ (o : Option Fault). refused_or o (λ fault. left_by_seal (Err fault) output tag)
      (left_by_seal (Ok tt) (written_over (wire_bytes f A nonce masks input) output) (sealed_tag f A nonce masks input))) h)

  -- Opening: what the tag decides of what was opened in place, at the front of the output.
  abbrev by_tag : Bool → OpenOutcome
  by_tag b =
      cond b (left_by_open (Ok tt) (written_over (plain_bytes f A nonce masks input) output))
      (left_by_open (Err TagDiffers) (written_over (replicate (length input) 0) output))

  pub tag_decides : (r : Result (Unit {0}) Fault) (bytes : List ℕ) → length bytes ≡ length input → OnErr r (bytes ≡ replicate (length input) 0) →
      IfErr r (λ e. e ≡ TagDiffers) →
      MatchResult r (λ _. (tag ≡ due_tag f A nonce masks input) × (bytes ≡ plain_bytes f A nonce masks input)) (λ _. tag ≢ due_tag f A nonce masks input) →
      left_by_open r (bytes ++ drop (length input) output) ≡ tag_outcome f A nonce masks input output tag
  unfolding tag_outcome
  tag_decides (Ok x) bytes long wiped fault opened =
      ap (left_by_open (Ok tt)) (begun_with output opened.1 long) ∙ sym (ap by_tag ((bytes_eq-Decides tag (due_tag f A nonce masks input)).1 opened.0))
  tag_decides (Err e) bytes long wiped fault opened =
      (λ j. left_by_open (Err (fault j)) (begun_with output wiped long j)) ∙ sym (ap by_tag (not_same tag (due_tag f A nonce masks input) opened))

  pub open_refused : (e : Fault) → open_fault nonce masks input output tag ≡ Some e →
      left_by_open (Err e) output ≡ open_outcome f A nonce masks input output tag
  unfolding open_outcome
  open_refused e h =
      sym (ap {B = OpenOutcome} (λ (o : Option Fault). refused_or o (λ fault. left_by_open (Err fault) output) (tag_outcome f A nonce masks input output tag)) h)

  pub open_judged : (r : OpenOutcome) → open_fault nonce masks input output tag ≡ None → r ≡ tag_outcome f A nonce masks input output tag → r ≡ open_outcome f A nonce masks input output tag
  unfolding open_outcome
  open_judged r h is =
      is ∙ sym (ap {B = OpenOutcome} (λ (o : Option Fault). refused_or o (λ fault. left_by_open (Err fault) output) (tag_outcome f A nonce masks input output tag)) h)
