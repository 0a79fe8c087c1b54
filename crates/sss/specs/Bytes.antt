-- Bytes, words as their bytes, and both in hexadecimal digits.
use Rattle.std.specs.Prelude.{ℕ, zero, suc, ◌/◌, ◌%◌, ◌<◌, false, List, [], ◌∷◌, ◌++◌, slice_index}
use Rattle.std.specs.Fmt.{digit_glyph}
use Rattle.std.specs.List.{flat_map}

-- Each place of a list holds a byte; past its end a list reads 0.
abbrev pub Octets : List ℕ → Type 0
Octets bytes = (i : ℕ) → slice_index bytes i < 256

-- So many bytes of a number, the low ones first.
abbrev pub low_bytes : ℕ → ℕ → List ℕ
low_bytes zero x = []
low_bytes (suc n) x = x % 256 ∷ low_bytes n (x / 256)

-- The bytes of words: two a word, the low one first.
abbrev pub bytes_of_words : List ℕ → List ℕ
bytes_of_words words = flat_map (low_bytes 2) words

-- A byte, and a word, in lower-case hexadecimal digits.
abbrev pub hex_of_byte : ℕ → List ℕ
hex_of_byte b = digit_glyph false (b / 16) ∷ digit_glyph false (b % 16) ∷ []

abbrev pub hex_of_word : ℕ → List ℕ
hex_of_word w = hex_of_byte (w / 256) ++ hex_of_byte (w % 256)
