-- Whole messages as bytes: masks, plaintexts, wire words and tags, two bytes to a word, the low byte first.
use Rattle.std.specs.Prelude.{ℕ, List, [], ◌∷◌, ◌++◌, map, length, drop}
use Rattle.sss.specs.Bytes.{bytes_of_words}
use Rattle.sss.specs.Cipher.{message_tag, opened_message, sealed_message, words_of}
use Rattle.sss.specs.Directions.{text_of}
use Rattle.sss.specs.declared.message.MaskedWord.{MaskedWord}

-- Each text with its mask.
abbrev pub masked_words : (masks texts : List ℕ) → List MaskedWord
masked_words [] ts = []
masked_words (k ∷ ks) [] = []
masked_words (k ∷ ks) (t ∷ ts) = record { mask = k; text = t } ∷ masked_words ks ts

-- The words of a message, by the bytes of its masks and those of its texts.
abbrev pub words_under : (masks texts : List ℕ) → List MaskedWord
words_under masks texts = masked_words (words_of masks) (words_of texts)

-- The bytes of the texts of words.
abbrev pub text_bytes : List MaskedWord → List ℕ
text_bytes ws = bytes_of_words (map text_of ws)

module _ (f A : ℕ → ℕ) (nonce masks : List ℕ) where
  -- Of a plaintext: the bytes on the wire, and the tag.
  unfoldable pub wire_bytes : List ℕ → List ℕ
  wire_bytes plain = text_bytes (sealed_message f A nonce (words_under masks plain))

  unfoldable pub sealed_tag : List ℕ → List ℕ
  sealed_tag plain = bytes_of_words (message_tag f A nonce (words_under masks plain))

  -- Of the bytes on the wire: the plaintext, and the tag due, with which they should have come.
  unfoldable pub plain_bytes : List ℕ → List ℕ
  plain_bytes wire = text_bytes (opened_message f A nonce (words_under masks wire))

  unfoldable pub due_tag : List ℕ → List ℕ
  due_tag wire = bytes_of_words (message_tag f A nonce (opened_message f A nonce (words_under masks wire)))

-- Bytes written over the front of a buffer, which is beyond them as it was found.
abbrev pub written_over : (bytes buffer : List ℕ) → List ℕ
written_over bytes buffer = bytes ++ drop (length bytes) buffer
