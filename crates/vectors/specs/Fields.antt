-- The six fields of a line.
use Rattle.std.specs.Prelude.{◌≡◌, ℕ, ◌+◌, ◌*◌, ◌%◌, ◌<◌, ◌⊎◌, List, [], ◌∷◌, length, ◌≢◌, slice_index}
use Rattle.fields.specs.Cutting.{blanks}
use Rattle.fields.specs.Reading as reading
use Rattle.fields.specs.Reading.{FieldBytes}
use Rattle.fields.specs.declared.reading.NotBytes.TheVariants.{NoMemory}
use Rattle.vectors.specs.declared.flaw.Flaw.{Flaw}
use Rattle.vectors.specs.declared.flaw.Flaw.TheVariants.{NotBytes, OddBytes, NotATag}
use Rattle.vectors.specs.declared.vector.Field.{Field}
use Rattle.vectors.specs.declared.vector.Field.TheVariants.{Key, Nonce, Masks, Plaintext, Wire, Tag}
use Rattle.vectors.specs.declared.vector.Fields.{Fields}
use Rattle.vectors.specs.declared.vector.Malformed.{Malformed}
use Rattle.vectors.specs.declared.vector.Malformed.TheVariants as malformed

-- The field's text cannot be read as bytes, for this reason.
abbrev pub NoBytes : List ℕ → Flaw → Type 0
NoBytes text (NotBytes why) = reading.NoBytes text why
NoBytes text OddBytes = ⊥
NoBytes text (NotATag n) = ⊥

-- The bytes make the words, two bytes to a word, the low one first.
abbrev pub Pairs : List ℕ → List ℕ → Type 0
Pairs bytes words = (length bytes ≡ 2 * length words) × ((k : ℕ) → k < length words → slice_index words k ≡ slice_index bytes (2 * k) + slice_index bytes (2 * k + 1) * 256)

-- The bytes cannot be paired to words, for this reason: their number is odd, or there was no memory.
abbrev pub NotPaired : List ℕ → Flaw → Type 0
NotPaired bytes (NotBytes why) = why ≡ NoMemory
NotPaired bytes OddBytes = length bytes % 2 ≡ 1
NotPaired bytes (NotATag n) = ⊥

-- The field's text stands for these words.
abbrev pub FieldWords : List ℕ → List ℕ → Type 0
FieldWords text words = (bytes : List ℕ) × FieldBytes text bytes × Pairs bytes words

-- The field's text cannot be read as words, for this reason.
abbrev pub NoWords : List ℕ → Flaw → Type 0
NoWords text flaw = NoBytes text flaw ⊎ ((bytes : List ℕ) × FieldBytes text bytes × NotPaired bytes flaw)

-- The field's text stands for the eight words of this tag.
abbrev pub FieldTag : List ℕ → List ℕ → Type 0
FieldTag text tag = FieldWords text tag × (length tag ≡ 8)

-- The field's bytes, of which there are n, are too few or too many for a tag.
abbrev pub WrongTag : List ℕ → ℕ → Type 0
WrongTag text n = (bytes : List ℕ) × FieldBytes text bytes × (n ≡ length bytes) × (n ≢ 16)

-- The field's text cannot be read as a tag, for this reason.
abbrev pub NoTag : List ℕ → Flaw → Type 0
NoTag text (NotBytes why) = reading.NoBytes text why ⊎ (why ≡ NoMemory)
NoTag text OddBytes = ⊥
NoTag text (NotATag n) = WrongTag text n

-- The field's place in the line, counted from 0.
abbrev pub place : Field → ℕ
place Key = 0
place Nonce = 1
place Masks = 2
place Plaintext = 3
place Wire = 4
place Tag = 5

-- This field's text can be read, as bytes, as words or as a tag.
abbrev pub Readable : Field → List ℕ → Type 0
Readable Key text = (bytes : List ℕ) × FieldBytes text bytes
Readable Nonce text = (bytes : List ℕ) × FieldBytes text bytes
Readable Masks text = (words : List ℕ) × FieldWords text words
Readable Plaintext text = (words : List ℕ) × FieldWords text words
Readable Wire text = (words : List ℕ) × FieldWords text words
Readable Tag text = (tag : List ℕ) × FieldTag text tag

-- It cannot, for this reason.
abbrev pub Flawed : Field → List ℕ → Flaw → Type 0
Flawed Key text flaw = NoBytes text flaw
Flawed Nonce text flaw = NoBytes text flaw
Flawed Masks text flaw = NoWords text flaw
Flawed Plaintext text flaw = NoWords text flaw
Flawed Wire text flaw = NoWords text flaw
Flawed Tag text flaw = NoTag text flaw

-- The texts of the six fields, in their order.
abbrev pub texts_of : Fields → List (List ℕ)
texts_of f = f.key.now ∷ f.nonce.now ∷ f.masks.now ∷ f.plaintext.now ∷ f.wire.now ∷ f.tag.now ∷ []

-- The line cut at each blank does not give six texts, or there was no memory to cut it.
abbrev pub NotCut : List ℕ → Malformed → Type 0
NotCut line (malformed.Fields n) = (n ≡ blanks line + 1) × (n ≢ 6)
NotCut line malformed.NoMemory = Unit {0}
NotCut line malformed.NotText = ⊥
NotCut line malformed.Lengths = ⊥
NotCut line (malformed.InField field flaw) = ⊥
