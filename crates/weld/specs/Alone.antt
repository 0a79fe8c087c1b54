-- A message of one word as the published cipher has it, with the printed coefficient.
use Rattle.std.specs.Prelude.{◌≡◌, ℕ, List, [], ◌∷◌}
use Rattle.sss.specs.Cipher.{key_table, keyed, message_tag, product, sealed_mask, sealed_message}
use Rattle.sss.specs.declared.message.MaskedWord.{MaskedWord}
use Rattle.weld.specs.declared.spot.SpotCheck.{SpotCheck}

-- One word, every bit of which is sealed.
abbrev pub one_sealed : ℕ → List MaskedWord
one_sealed word = record { mask = sealed_mask; text = word } ∷ []

-- The wire word and the tag of a message of one plaintext word, by its key and its nonce.
pub record SealedAlone (key nonce : List ℕ) (word : ℕ) (s : SpotCheck) : Type 0 where
  pub plain : s.plain ≡ word
  pub wire : one_sealed s.wire ≡ sealed_message (keyed (key_table key)) product nonce (one_sealed word)
  pub tag : s.tag ≡ message_tag (keyed (key_table key)) product nonce (one_sealed word)
