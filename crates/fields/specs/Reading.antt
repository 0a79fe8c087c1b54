-- The bytes that a field's text stands for.
use Rattle.std.specs.Prelude.{◌≡◌, ℕ, ◌%◌, ◌<◌, ◌⊎◌, false, List, [], length, codes, slice_index, Ok}
use Rattle.hex.specs.Hex.{decode_of, is_hex_digit}
use Rattle.hex.specs.declared.error.FromHexError.{FromHexError}
use Rattle.hex.specs.declared.error.FromHexError.TheVariants.{InvalidHexCharacter, InvalidStringLength, OddLength, OutOfMemory}
use Rattle.fields.specs.declared.reading.NotBytes.{NotBytes}
use Rattle.fields.specs.declared.reading.NotBytes.TheVariants.{NoDigits, OddDigits, NotADigit, NoMemory}

-- The text stands for these bytes: a lone `-` for none, hex digits in either case for those that they spell, two to a byte.
abbrev pub FieldBytes : List ℕ → List ℕ → Type 0
FieldBytes text bytes = ((text ≡ codes "-") × (bytes ≡ [])) ⊎ ((0 < length text) × (decode_of text ≡ Ok bytes))

-- The text is neither `-` nor hex digits, two to a byte.
abbrev pub Unreadable : List ℕ → Type 0
Unreadable text = (bytes : List ℕ) → FieldBytes text bytes → ⊥

-- Reading the text fails, for this reason: it is neither of these; or there was no memory, which is asked for only where digits come in pairs.
abbrev pub NoBytes : List ℕ → NotBytes → Type 0
NoBytes text NoDigits = Unreadable text × (length text ≡ 0)
NoBytes text OddDigits = Unreadable text × (length text % 2 ≡ 1)
NoBytes text NotADigit = Unreadable text × (length text % 2 ≡ 0) × ((k : ℕ) × (k < length text) × (is_hex_digit (slice_index text k) ≡ false))
NoBytes text NoMemory = (0 < length text) × (length text % 2 ≡ 0)

-- What a refusal of the digits says of the field.
abbrev pub fault_of : FromHexError → NotBytes
fault_of (InvalidHexCharacter c place) = NotADigit
fault_of OddLength = OddDigits
fault_of InvalidStringLength = OddDigits
fault_of OutOfMemory = NoMemory
