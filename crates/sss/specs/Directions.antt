-- The two ways in which a message passes the registers: sealing and opening.
use Rattle.std.specs.Prelude.{◌≡◌, ℕ, List, [], ◌∷◌}
use Rattle.sss.specs.Cipher.{BothRegisters, plain_word, taken, wire_word}
use Rattle.sss.specs.declared.message.MaskedWord.{MaskedWord}

-- The mask and the text of a word.
abbrev pub mask_of : MaskedWord → ℕ
mask_of w = w.mask

abbrev pub text_of : MaskedWord → ℕ
text_of w = w.text

-- A word with another text under its mask.
abbrev pub with_text : MaskedWord → ℕ → MaskedWord
with_text w t = record { mask = w.mask; text = t }

-- What a word becomes as it is sealed.
abbrev pub sealed_text : (ℕ → ℕ) → BothRegisters → MaskedWord → ℕ
sealed_text f g w = wire_word f g w.mask w.text

-- The registers after it.
abbrev pub after_sealing : (ℕ → ℕ) → (ℕ → ℕ) → BothRegisters → MaskedWord → BothRegisters
after_sealing f A g w = taken f A g w.mask w.text

-- What a word becomes as it is opened.
abbrev pub opened_text : (ℕ → ℕ) → BothRegisters → MaskedWord → ℕ
opened_text f g w = plain_word f g w.mask w.text

-- The registers after it.
abbrev pub after_opening : (ℕ → ℕ) → (ℕ → ℕ) → BothRegisters → MaskedWord → BothRegisters
after_opening f A g w = taken f A g w.mask (plain_word f g w.mask w.text)

-- What the words of a message become, and the registers that they leave, are those of its first word and then of the rest from the registers after it.
pub record Passes (text : BothRegisters → MaskedWord → ℕ) (after : BothRegisters → MaskedWord → BothRegisters) (words : BothRegisters → List MaskedWord → List MaskedWord) (last : BothRegisters → List MaskedWord → BothRegisters) : Type 0 where
  pub no_words : (g : BothRegisters) → words g [] ≡ []
  pub first_word : (g : BothRegisters) (w : MaskedWord) (ws : List MaskedWord) → words g (w ∷ ws) ≡ with_text w (text g w) ∷ words (after g w) ws
  pub last_none : (g : BothRegisters) → last g [] ≡ g
  pub last_first : (g : BothRegisters) (w : MaskedWord) (ws : List MaskedWord) → last g (w ∷ ws) ≡ last (after g w) ws
