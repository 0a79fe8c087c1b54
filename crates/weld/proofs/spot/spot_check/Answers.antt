use Rattle.std.proofs.Common.{◌≡◌, ℕ, List, refl, ap, ◌∙◌, subst, sym}
use Rattle.sss.specs.Asked.{Asked}
use Rattle.sss.specs.Cipher.{Lawful, BothRegisters, all_taken, begun, keyed, message_tag, product, sealed_mask, sealed_message, tag, taken, wire_word, wire_words}
use Rattle.sss.proofs.Asked.{asked_then}
use Rattle.sss.specs.declared.keyed.KeyedFunction.{Ghosts as Keyed}
use Rattle.link.specs.Issuing.{nonce_bytes}
use Rattle.weld.specs.Alone.{one_sealed}
use Rattle.weld.proofs.spot.spot_check.Goals as goal

module _ (nonce : List ℕ) (word wire : ℕ) where
  -- The wire word and the registers are those that this one word leaves.
  Taken : BothRegisters → (ℕ → ℕ) → Type 0
  Taken g f =
      (one_sealed wire ≡ sealed_message f product nonce (one_sealed word)) × (g ≡ all_taken f product (begun f product nonce) (one_sealed word))

  -- The wire word and the tag are those of a message of this one word.
  Alone : List ℕ → (ℕ → ℕ) → Type 0
  Alone drawn f = (one_sealed wire ≡ sealed_message f product nonce (one_sealed word)) × (drawn ≡ message_tag f product nonce (one_sealed word))

  -- A message is begun, takes a word and is closed.
  alone : {K : Type 0} {F : Keyed K} {k₀ k₁ k₂ k₃ : K} {g g' : BothRegisters} {drawn : List ℕ} →
      Asked F k₀ k₁ (λ f. g ≡ begun f product nonce) →
      Asked F k₁ k₂ (λ f. (wire ≡ wire_word f g sealed_mask word) × (g' ≡ taken f product g sealed_mask word)) →
      Asked F k₂ k₃ (λ f. drawn ≡ tag f g') → Asked F k₀ k₃ (Alone drawn)
  unfolding sealed_message wire_words message_tag all_taken Taken Alone
  alone {g' = g'} begins seals closes =
      let sealed = asked_then {R = Taken g'} begins seals (λ f at is. (
        ap one_sealed (is.0 ∙ ap (λ (s : BothRegisters). wire_word f s sealed_mask word) at),
        is.1 ∙ ap (λ (s : BothRegisters). taken f product s sealed_mask word) at,
      )) in
      asked_then sealed closes (λ f is tagged. (is.0, tagged ∙ ap (tag f) is.1))

pub returns : goal.returns
unfolding Alone
returns c =
    let loaded = c.in_ok-of.ensures in
    let same = ap (λ t. t.entries) c.new-ready.ensures.function in
    let OfTable : List ℕ → Type 0 = λ S. Alone (nonce_bytes c.args.nonce) c.args.plain c.in_ok-wire.wire c.finish.result.1 (keyed S) in
    let all = alone _ _ _ c.begin-message.ensures.worked.asked c.in_ok-wire.ensures.worked.asked c.finish.ensures.worked.asked in
    let sealed = subst OfTable (same ∙ loaded.1) (all.promise (subst Lawful (sym same) loaded.2)) in
    record { plain = refl; wire = sealed.0; tag = sealed.1 }
