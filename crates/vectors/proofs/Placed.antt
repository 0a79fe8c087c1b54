-- What a field's value says once its flaw is the line's.
use Rattle.std.proofs.Common.{◌≡◌, ℕ, List, Vec, vec_items, Ok, Result, MatchResult}
use Rattle.vectors.specs.declared.flaw.Flaw.{Flaw}
use Rattle.vectors.specs.declared.vector.Field.{Field}
use Rattle.vectors.specs.declared.vector.Malformed.TheVariants.{InField}
use Rattle.fields.specs.Reading.{FieldBytes}
use Rattle.vectors.specs.Fields.{NoBytes, FieldWords, NoWords}
use Rattle.fields.specs.Placing.{placed}
use Rattle.fields.proofs.Placed.{ok_of}

-- A field of bytes, and one of words.
pub bytes_of : {Z : Type 0} (f : Field) (text : List ℕ) (r : Result (Vec ℕ Z) Flaw) (v : Vec ℕ Z) → Ok v ≡ placed (InField f) r → MatchResult r (λ v. FieldBytes text (vec_items v)) (NoBytes text) → FieldBytes text (vec_items v)
bytes_of f text r v e h = ok_of (λ v. FieldBytes text (vec_items v)) (NoBytes text) (InField f) r v e h

pub words_of : {Z : Type 0} (f : Field) (text : List ℕ) (r : Result (Vec ℕ Z) Flaw) (v : Vec ℕ Z) → Ok v ≡ placed (InField f) r → MatchResult r (λ v. FieldWords text (vec_items v)) (NoWords text) → FieldWords text (vec_items v)
words_of f text r v e h = ok_of (λ v. FieldWords text (vec_items v)) (NoWords text) (InField f) r v e h
