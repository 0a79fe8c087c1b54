-- A line of the input as a message.
use Rattle.std.specs.Prelude.{◌≡◌, ℕ, ◌<◌, ◌⊎◌, List, [], map, length, vec_items, IsUtf8, ◌≢◌, slice_index_or}
use Rattle.fields.specs.Cutting.{Cut}
use Rattle.fields.specs.Reading.{FieldBytes}
use Rattle.sss.specs.Directions.{mask_of, text_of}
use Rattle.vectors.specs.declared.flaw.Flaw.{Flaw}
use Rattle.vectors.specs.declared.vector.Field.{Field}
use Rattle.vectors.specs.declared.vector.Field.TheVariants.{Key, Nonce, Masks, Plaintext, Wire, Tag}
use Rattle.vectors.specs.declared.vector.Malformed.{Malformed}
use Rattle.vectors.specs.declared.vector.Malformed.TheVariants.{NotText, Fields, InField, Lengths, NoMemory}
use Rattle.vectors.specs.declared.vector.Vector.{Vector}
use Rattle.vectors.specs.Fields.{FieldTag, FieldWords, Readable, Flawed, place, NotCut}

-- The text of this field.
abbrev pub text_at : List (List ℕ) → Field → List ℕ
text_at texts field = slice_index_or texts (place field) []

-- The texts of six fields stand for this message.
abbrev pub Reads : List (List ℕ) → Vector → Type 0
Reads texts v =
    FieldBytes (text_at texts Key) (vec_items v.key) × FieldBytes (text_at texts Nonce) (vec_items v.nonce) ×
    FieldWords (text_at texts Masks) (map mask_of (vec_items v.plaintext)) × FieldWords (text_at texts Masks) (map mask_of (vec_items v.wire)) ×
    FieldWords (text_at texts Plaintext) (map text_of (vec_items v.plaintext)) × FieldWords (text_at texts Wire) (map text_of (vec_items v.wire)) ×
    FieldTag (text_at texts Tag) v.tag

-- This field is flawed in this way, or there was no memory for it; each that stands before it can be read.
abbrev pub FlawedFirst : List (List ℕ) → Field → Flaw → Type 0
FlawedFirst texts field flaw =
    ((before : Field) → place before < place field → Readable before (text_at texts before)) × Flawed field (text_at texts field) flaw

-- Each field can be read, but masks, plaintext and wire are not all of one length.
abbrev pub Uneven : List (List ℕ) → Type 0
Uneven texts =
    ((field : Field) → Readable field (text_at texts field)) ×
    (masks : List ℕ) × (plaintext : List ℕ) × (wire : List ℕ) × FieldWords (text_at texts Masks) masks ×
    FieldWords (text_at texts Plaintext) plaintext × FieldWords (text_at texts Wire) wire × (length masks ≡ length plaintext → length masks ≢ length wire)

-- The texts of six fields stand for no message, for this reason; or there was no memory.
abbrev pub NotRead : List (List ℕ) → Malformed → Type 0
NotRead texts (InField field flaw) = FlawedFirst texts field flaw
NotRead texts Lengths = Uneven texts
NotRead texts NoMemory = Unit {0}
NotRead texts NotText = ⊥
NotRead texts (Fields n) = ⊥

-- The line, cut into six fields, stands for this message.
abbrev pub Parses : List ℕ → Vector → Type 0
Parses line v = (texts : List (List ℕ)) × (length texts ≡ 6) × Cut line texts × Reads texts v

-- The line stands for no message, for this reason: it is not text; or it is, and has not six fields, or these stand for none. Or there was no memory.
abbrev pub NotParsed : List ℕ → Malformed → Type 0
NotParsed line e =
    ((e ≡ NotText) × (IsUtf8 line → ⊥)) ⊎
    (IsUtf8 line × (NotCut line e ⊎ ((texts : List (List ℕ)) × (length texts ≡ 6) × Cut line texts × NotRead texts e)))
