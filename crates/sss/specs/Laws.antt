-- What holds of sealing and opening, in terms of the published cipher.
use Rattle.std.specs.Prelude.{◌≡◌, ℕ, List, bit_xor}
use Rattle.sss.specs.Cipher.{BothRegisters, keystream, mactext, taken, wire_word, sealed_message, message_tag}
use Rattle.sss.specs.declared.message.MaskedWord.{MaskedWord}

-- The mactext of a plaintext word is its wire word ⊕ the keystream word: what the receiving side can work out too.
abbrev pub MactextFromWire : (ℕ → ℕ) → BothRegisters → ℕ → ℕ → ℕ → Type 0
MactextFromWire f before mask p wire = mactext mask (keystream f before.r) p ≡ bit_xor wire (keystream f before.r)

-- A word opened with the registers that it was sealed with, under the same mask, is the word that was sealed, and leaves the same registers.
abbrev pub WordBack : (ℕ → ℕ) → (ℕ → ℕ) → BothRegisters → ℕ → ℕ → ℕ → BothRegisters → Type 0
WordBack f A before mask wire opened after =
    (p : ℕ) → wire ≡ wire_word f before mask p → (opened ≡ p) × (after ≡ taken f A before mask p)

-- A message opened with the nonce and the masks that it was sealed with is the message that was sealed, and both sides draw the same tag.
abbrev pub MessageBack : (ℕ → ℕ) → (ℕ → ℕ) → List ℕ → List MaskedWord → List MaskedWord → List ℕ → Type 0
MessageBack f A nonce received opened tag =
    (ps : List MaskedWord) → received ≡ sealed_message f A nonce ps → (opened ≡ ps) × (tag ≡ message_tag f A nonce ps)
