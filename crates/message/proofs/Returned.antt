-- Open after seal, and exactly when open answers well.
use Rattle.std.proofs.Common.{◌≡◌, ℕ, ◌*◌, ◌%◌, ◌<◌, Bool, false, cond, List, length, map, replicate, take, drop, Option, Some, None, Ok, Err, refl, inl, inr, sym, ap, ◌∙◌, arith, ◌≢◌}
use Rattle.std.specs.List.{AllByRecursion as Every}
use Rattle.std.specs.Str.{bytes_eq}
use Rattle.std.proofs.lemmas.Bool.{and_from, cases_Bool, eq-eqb, le-leb}
use Rattle.std.proofs.lemmas.List.{length-map, take-append-le, take_all}
use Rattle.std.proofs.lemmas.Slice.Eq.{bytes_eq-Decides}
use Rattle.sss.specs.Bytes.{Octets, bytes_of_words}
use Rattle.sss.specs.Cipher.{OneToOne, begun, message_tag, opened_message, sealed_message, tag, all_taken}
use Rattle.sss.specs.Directions.{text_of}
use Rattle.sss.specs.declared.message.MaskedWord.{MaskedWord}
use Rattle.sss.specs.declared.fault.Fault.{Fault}
use Rattle.sss.specs.declared.fault.Fault.TheVariants.{TagDiffers}
use Rattle.sss.proofs.Bytes.{length-bytes_of_words}
use Rattle.sss.proofs.Returned.{message_back}
use Rattle.link.proofs.Received.{begun_sized}
use Rattle.message.specs.Buffers.{written_over, due_tag, plain_bytes, sealed_tag, text_bytes, wire_bytes, words_under}
use Rattle.message.specs.Checks.{LengthsFit, longest_bytes, open_fault, seal_fault}
use Rattle.message.specs.Laws.{BackAgain, WellExactly}
use Rattle.message.specs.Outcomes.{CallAnswer, OpenOutcome, SealOutcome, left_by_open, left_by_seal, open_outcome, seal_outcome, tag_outcome}
use Rattle.message.proofs.Buffers.{bytes_under, length-words_under}
use Rattle.message.proofs.Checked.{lengths_fit, no_tag_fault, nonce_fit, open_judged, open_refused, seal_done, seal_refused}
use Rattle.message.proofs.Messages.{length-plains, length-tag, length-wires, masks_under, wires_fit, wires_masks, words_under_again, words_under_fit}

-- Lengths that fit pass the checks.
pub lengths_pass : (masks input output tag : List ℕ) → LengthsFit (length masks) (length input) (length output) (length tag) → seal_fault masks input output tag ≡ None
unfolding seal_fault
lengths_pass masks input output tag h =
    rw (
      and_from _ _ (eq-eqb (length input % 2) 0 h.even) (le-leb (length input) longest_bytes h.most),
      eq-eqb (length masks) (length input) h.mask_each,
      le-leb (length input) (length output) h.room,
      eq-eqb (length tag) 16 h.sixteen,
    ) refl

length-texts : (ws : List MaskedWord) → length (text_bytes ws) ≡ 2 * length ws
length-texts ws = length-bytes_of_words (map text_of ws) ∙ omega (arith, length-map ws text_of)

-- The front of a buffer that begins with bytes is these bytes.
pub front_is : (bytes buffer : List ℕ) (n : ℕ) → length bytes ≡ n → take n (written_over bytes buffer) ≡ bytes
front_is bytes buffer n long = take-append-le n bytes (drop (length bytes) buffer) (omega arith) ∙ take_all n bytes (omega arith)

-- A tag has sixteen bytes.
length-sealed_tag : (f A : ℕ → ℕ) (nonce masks plain : List ℕ) → length (sealed_tag f A nonce masks plain) ≡ 16
unfolding sealed_tag message_tag
length-sealed_tag f A nonce masks plain =
    let g = all_taken f A (begun f A nonce) (words_under masks plain) in
    let e = length-tag f g in
    length-bytes_of_words (tag f g) ∙ omega arith

module _ (f A : ℕ → ℕ) where
  -- What a good answer of seal tells.
  pub seal_told : (nonce masks input output tag output' tag' : List ℕ) →
      left_by_seal (Ok tt) output' tag' ≡ seal_outcome f A nonce masks input output tag →
      (seal_fault masks input output tag ≡ None) × (output' ≡ written_over (wire_bytes f A nonce masks input) output) × (tag' ≡ sealed_tag f A nonce masks input)
  seal_told nonce masks input output tag output' tag' e = by _ refl
    where
      by : (o : Option Fault) → seal_fault masks input output tag ≡ o →
          (seal_fault masks input output tag ≡ None) × (output' ≡ written_over (wire_bytes f A nonce masks input) output) × (tag' ≡ sealed_tag f A nonce masks input)
      by None h =
          let is = e ∙ sym (seal_done f A nonce masks input output tag _ _ h refl refl) in
          (h, ap (λ (r : SealOutcome). r.output) is, ap (λ (r : SealOutcome). r.tag) is)
      by (Some x) h =
          let is : Path CallAnswer (Err x) (Ok tt) = ap (λ (r : SealOutcome). r.answer) (seal_refused f A nonce masks input output tag x h ∙ sym e) in
          absurd cc

  -- Where no check of open refuses, the tag due gives a good answer, and any other is refused.
  pub opening_well : (nonce masks input output tag : List ℕ) → open_fault nonce masks input output tag ≡ None → tag ≡ due_tag f A nonce masks input →
      open_outcome f A nonce masks input output tag ≡ left_by_open (Ok tt) (written_over (plain_bytes f A nonce masks input) output)
  unfolding tag_outcome
  opening_well nonce masks input output tag h due =
      sym (open_judged f A nonce masks input output tag _ h refl) ∙
      ap (λ (b : Bool). cond b (left_by_open (Ok tt) (written_over (plain_bytes f A nonce masks input) output))
      (left_by_open (Err TagDiffers) (written_over (replicate (length input) 0) output))) ((bytes_eq-Decides tag (due_tag f A nonce masks input)).1 due)

  pub opening_ill : (nonce masks input output tag : List ℕ) → open_fault nonce masks input output tag ≡ None → bytes_eq tag (due_tag f A nonce masks input) ≡ false →
      open_outcome f A nonce masks input output tag ≡ left_by_open (Err TagDiffers) (written_over (replicate (length input) 0) output)
  unfolding tag_outcome
  opening_ill nonce masks input output tag h other =
      sym (open_judged f A nonce masks input output tag _ h refl) ∙
      ap (λ (b : Bool). cond b (left_by_open (Ok tt) (written_over (plain_bytes f A nonce masks input) output))
      (left_by_open (Err TagDiffers) (written_over (replicate (length input) 0) output))) other

  -- Exactly when open answers well.
  pub well_exactly : (nonce masks input output tag : List ℕ) (answer : CallAnswer) (output' : List ℕ) →
      left_by_open answer output' ≡ open_outcome f A nonce masks input output tag → WellExactly f A nonce masks input output tag answer
  well_exactly nonce masks input output tag answer output' so = (λ well. by well _ refl, λ p. ap (λ (r : OpenOutcome). r.answer) (so ∙ opening_well nonce masks input output tag p.0 p.1))
    where
      by : answer ≡ Ok tt → (o : Option Fault) → open_fault nonce masks input output tag ≡ o →
          (open_fault nonce masks input output tag ≡ None) × (tag ≡ due_tag f A nonce masks input)
      by well (Some x) h =
          let is : Path CallAnswer (Ok tt) (Err x) = sym well ∙ ap (λ (r : OpenOutcome). r.answer) (so ∙ sym (open_refused f A nonce masks input output tag x h)) in
          absurd cc
      by well None h = (
        h,
        elim (cases_Bool (bytes_eq tag (due_tag f A nonce masks input))) [
          | inl same ↦ (bytes_eq-Decides tag (due_tag f A nonce masks input)).0 same
          | inr other ↦
              let is : Path CallAnswer (Ok tt) (Err TagDiffers) = sym well ∙ ap (λ (r : OpenOutcome). r.answer) (so ∙ opening_ill nonce masks input output tag h other) in
              absurd cc
        ],
      )

  -- When open refuses the tag.
  pub refused_tag : (nonce masks input output tag : List ℕ) (answer : CallAnswer) (output' : List ℕ) →
      left_by_open answer output' ≡ open_outcome f A nonce masks input output tag → answer ≡ Err TagDiffers →
      (open_fault nonce masks input output tag ≡ None) × (tag ≢ due_tag f A nonce masks input)
  refused_tag nonce masks input output tag answer output' so bad = by _ refl
    where
      by : (o : Option Fault) → open_fault nonce masks input output tag ≡ o → (open_fault nonce masks input output tag ≡ None) × (tag ≢ due_tag f A nonce masks input)
      by None h = (
        h,
        λ same.
            let is : Path CallAnswer (Err TagDiffers) (Ok tt) =
            sym bad ∙ ap (λ (r : OpenOutcome). r.answer) (so ∙ opening_well nonce masks input output tag h same) in
            absurd cc,
      )
      by (Some x) h =
          let is : Path CallAnswer (Err TagDiffers) (Err x) =
          sym bad ∙ ap (λ (r : OpenOutcome). r.answer) (so ∙ sym (open_refused f A nonce masks input output tag x h)) in
          let same : TagDiffers ≡ x = cc in
          absurd (no_tag_fault nonce masks input output tag (h ∙ ap Some (sym same)))

  pub length-plain_bytes : (nonce masks wire : List ℕ) → length masks ≡ length wire → length wire % 2 ≡ 0 → length (plain_bytes f A nonce masks wire) ≡ length wire
  unfolding plain_bytes opened_message
  length-plain_bytes nonce masks wire long even =
      let e = length-texts (opened_message f A nonce (words_under masks wire)) in
      let k = length-plains f A (begun f A nonce) (words_under masks wire) in
      let l = length-words_under masks wire long in
      omega arith

  module _ (onef : OneToOne f) (oneA : OneToOne A) where
    -- What was sealed is read from its bytes as it was, and opens to what was sealed.
    module _ (nonce masks plain : List ℕ) (below : Every (λ b. b < 256) nonce) (octets : Octets plain) (long : length masks ≡ length plain) (even : length plain % 2 ≡ 0) where
      pub length-wire_bytes : length (wire_bytes f A nonce masks plain) ≡ length plain
      unfolding wire_bytes sealed_message
      length-wire_bytes =
          let e = length-texts (sealed_message f A nonce (words_under masks plain)) in
          let k = length-wires f A (begun f A nonce) (words_under masks plain) in
          let l = length-words_under masks plain long in
          omega arith

      pub wires_read : words_under masks (wire_bytes f A nonce masks plain) ≡ sealed_message f A nonce (words_under masks plain)
      unfolding wire_bytes sealed_message
      wires_read =
          words_under_again masks (sealed_message f A nonce (words_under masks plain))
          (wires_masks f A (begun f A nonce) (words_under masks plain) ∙ masks_under masks plain long)
          (wires_fit f A onef oneA (begun f A nonce) (words_under masks plain) (begun_sized f A onef oneA nonce below) (words_under_fit masks plain octets))

      pub opened_back : (opened_message f A nonce (words_under masks (wire_bytes f A nonce masks plain)) ≡ words_under masks plain)
      opened_back =
          (message_back f A nonce (words_under masks (wire_bytes f A nonce masks plain)) _ _ refl refl (words_under masks plain) wires_read).0

      pub plain_back : plain_bytes f A nonce masks (wire_bytes f A nonce masks plain) ≡ plain
      unfolding plain_bytes
      plain_back = ap text_bytes opened_back ∙ bytes_under masks plain long octets even

      pub due_back : due_tag f A nonce masks (wire_bytes f A nonce masks plain) ≡ sealed_tag f A nonce masks plain
      unfolding due_tag sealed_tag
      due_back = ap (λ (ps : List MaskedWord). bytes_of_words (message_tag f A nonce ps)) opened_back

    pub back_again : (nonce masks input output tag : List ℕ) (answer : CallAnswer) (output' : List ℕ) → Every (λ b. b < 256) nonce →
        left_by_open answer output' ≡ open_outcome f A nonce masks input output tag → BackAgain f A nonce masks input output tag answer output'
    back_again nonce masks input output tag answer output' below so plain found found_tag sealed octets nonce-fits sealed-is input-is room =
        let told = seal_told nonce masks plain found found_tag sealed tag sealed-is in
        let fits = lengths_fit masks plain found found_tag told.0 in
        let wire : List ℕ = wire_bytes f A nonce masks plain in
        let long : length wire ≡ length plain = length-wire_bytes nonce masks plain below octets fits.mask_each fits.even in
        let whole : input ≡ wire = input-is ∙ ap (take (length plain)) told.1 ∙ front_is wire found (length plain) long in
        let size : length input ≡ length plain = ap length whole ∙ long in
        let due : tag ≡ due_tag f A nonce masks input =
        told.2 ∙ sym (due_back nonce masks plain below octets fits.mask_each fits.even) ∙ ap (due_tag f A nonce masks) (sym whole) in
        let none : open_fault nonce masks input output tag ≡ None =
        nonce_fit nonce masks input output tag nonce-fits ∙
        lengths_pass masks input output tag
        record {
          even = ap (λ (k : ℕ). k % 2) size ∙ fits.even;
          most = omega (arith, size, fits.most);
          mask_each = fits.mask_each ∙ sym size;
          room = omega (arith, size, room);
          sixteen = ap length told.2 ∙ length-sealed_tag f A nonce masks plain;
        } in
        let well = so ∙ opening_well nonce masks input output tag none due in
        let plain-is : plain_bytes f A nonce masks input ≡ plain =
        ap (plain_bytes f A nonce masks) whole ∙ plain_back nonce masks plain below octets fits.mask_each fits.even in
        (ap (λ (r : OpenOutcome). r.answer) well, ap (λ (r : OpenOutcome). r.output) well ∙ ap (λ (xs : List ℕ). written_over xs output) plain-is)
