-- The fields of a line, and what the text of each stands for.
use Rattle.std.specs.Prelude.{◌≡◌, ℕ, ◌≤◌, List, Ok}
use Rattle.std.specs.Str.Parse.{IsNumeral, digits_value, without_leading_plus}
use Rattle.hex.specs.Hex.{decode_sized}
use Rattle.fields.specs.Reading as reading
use Rattle.requests.specs.declared.field.Flaw.{Flaw}
use Rattle.requests.specs.declared.field.Flaw.TheVariants.{NotBytes, NotSixBytes, NotALength}

-- Reading bytes from the field's text fails, for this reason.
abbrev pub NoBytes : List ℕ → Flaw → Type 0
NoBytes text (NotBytes why) = reading.NoBytes text why
NoBytes text NotSixBytes = ⊥
NoBytes text NotALength = ⊥

-- The field's text stands for the six bytes of an issuer's nonce; or it is no such text, and that is its flaw.
abbrev pub NonceBytes : List ℕ → List ℕ → Type 0
NonceBytes text bytes = decode_sized text 6 ≡ Ok bytes

abbrev pub NoNonce : List ℕ → Flaw → Type 0
NoNonce text flaw = (flaw ≡ NotSixBytes) × ((bytes : List ℕ) → NonceBytes text bytes → ⊥)

-- The field's text stands for this length of a buffer, at most 1,000,000, in decimal; or it is no such text, and that is its flaw.
abbrev pub LengthOf : List ℕ → ℕ → Type 0
LengthOf text n = IsNumeral 10 (without_leading_plus text) × (n ≡ digits_value 10 (without_leading_plus text)) × (n ≤ 1000000)

abbrev pub NoLength : List ℕ → Flaw → Type 0
NoLength text flaw = (flaw ≡ NotALength) × ((n : ℕ) → LengthOf text n → ⊥)
