-- What was sealed comes back.
use Rattle.std.proofs.Common.{◌≡◌, ℕ, List, [], ◌∷◌, refl, ap, ◌∙◌}
use lib.Bits.{bit_and}
use Rattle.sss.specs.Cipher.{BothRegisters, keystream, masked, taken, wire_word, plain_word, wire_words, plain_words, sealed_message, opened_message, message_tag}
use Rattle.sss.specs.Laws.{WordBack, MessageBack}
use Rattle.sss.specs.declared.message.MaskedWord.{MaskedWord}
use Rattle.sss.proofs.Words.{xor_undo}

-- The plaintext word of the wire word of a plaintext word is that word, whatever the mask and the registers.
plain_of_wire : (f : ℕ → ℕ) (g : BothRegisters) (mask p : ℕ) → plain_word f g mask (wire_word f g mask p) ≡ p
unfolding plain_word wire_word masked
plain_of_wire f g mask p = xor_undo p (bit_and mask (keystream f g.r))

module _ (f A : ℕ → ℕ) where
  pub word_back : (g : BothRegisters) (mask wire opened : ℕ) (after : BothRegisters) → opened ≡ plain_word f g mask wire →
      after ≡ taken f A g mask (plain_word f g mask wire) → WordBack f A g mask wire opened after
  word_back g mask wire opened after value registers p e =
      let plain : plain_word f g mask wire ≡ p = ap (plain_word f g mask) e ∙ plain_of_wire f g mask p in
      (value ∙ plain, registers ∙ ap (taken f A g mask) plain)

  plain_of_wires : (g : BothRegisters) (ps : List MaskedWord) → plain_words f A g (wire_words f A g ps) ≡ ps
  unfolding plain_words wire_words
  plain_of_wires g [] = refl
  plain_of_wires g (w ∷ ws) =
      let p : plain_word f g w.mask (wire_word f g w.mask w.text) ≡ w.text = plain_of_wire f g w.mask w.text in
      ap {B = List MaskedWord} (λ x. record { mask = w.mask; text = x } ∷ plain_words f A (taken f A g w.mask x) (wire_words f A (taken f A g w.mask w.text) ws)) p ∙
      ap {B = List MaskedWord} (λ xs. w ∷ xs) (plain_of_wires (taken f A g w.mask w.text) ws)

  pub message_back : (nonce : List ℕ) (received opened : List MaskedWord) (t : List ℕ) → opened ≡ opened_message f A nonce received →
      t ≡ message_tag f A nonce (opened_message f A nonce received) → MessageBack f A nonce received opened t
  unfolding opened_message sealed_message
  message_back nonce received opened t words tag ps e =
      let plain : opened_message f A nonce received ≡ ps = ap (opened_message f A nonce) e ∙ plain_of_wires _ ps in
      (words ∙ plain, tag ∙ ap (message_tag f A nonce) plain)
