-- What is printed.
use Rattle.std.specs.Prelude.{ℕ, List, [], ◌∷◌, ◌++◌, codes}
use Rattle.std.specs.Fmt.{decimal}
use Rattle.hex.specs.Hex.{encode_lower}
use Rattle.fields.specs.declared.reading.NotBytes.{NotBytes}
use Rattle.fields.specs.declared.reading.NotBytes.TheVariants.{NoDigits, OddDigits, NotADigit, NoMemory}

-- Bytes in lower-case hex digits, two to a byte; none are a lone `-`.
abbrev pub hex_text : List ℕ → List ℕ
hex_text [] = codes "-"
hex_text (b ∷ bs) = encode_lower (b ∷ bs)

-- Why reading a field's text failed.
abbrev pub not_bytes_text : NotBytes → List ℕ
not_bytes_text NoDigits = codes "no digits, where an empty field is written -"
not_bytes_text OddDigits = codes "an odd number of digits"
not_bytes_text NotADigit = codes "a digit that is not hex"
not_bytes_text NoMemory = codes "no memory to read it"

-- A text with a line's end.
abbrev pub ended : List ℕ → List ℕ
ended text = text ++ 0x0A ∷ []

-- A line of a report on the line of this number.
abbrev pub numbered : ℕ → List ℕ → List ℕ
numbered number text = codes "line " ++ decimal number ++ codes ": " ++ ended text
