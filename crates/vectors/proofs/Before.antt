-- Fields one by one, and one that is flawed behind others that can be read.
use Rattle.std.proofs.Common.{ℕ, ◌<◌, List, Result, Err, MatchResult, subst, sym}
use Rattle.vectors.specs.declared.flaw.Flaw.{Flaw}
use Rattle.vectors.specs.declared.vector.Field.{Field}
use Rattle.vectors.specs.declared.vector.Field.TheVariants.{Key, Nonce, Masks, Plaintext, Wire, Tag}
use Rattle.vectors.specs.declared.vector.Malformed.{Malformed}
use Rattle.vectors.specs.declared.vector.Malformed.TheVariants.{InField}
use Rattle.fields.specs.Placing.{placed}
use Rattle.fields.proofs.Placed.{err_of}
use Rattle.vectors.specs.Fields.{Flawed, Readable, place}
use Rattle.vectors.specs.Lines.{NotRead, text_at}

pub each : (P : Field → Type 0) → P Key → P Nonce → P Masks → P Plaintext → P Wire → P Tag → (field : Field) → P field
each P key nonce masks plaintext wire tag Key = key
each P key nonce masks plaintext wire tag Nonce = nonce
each P key nonce masks plaintext wire tag Masks = masks
each P key nonce masks plaintext wire tag Plaintext = plaintext
each P key nonce masks plaintext wire tag Wire = wire
each P key nonce masks plaintext wire tag Tag = tag

module _ (texts : List (List ℕ)) where
  -- The field, where it stands before this one, can be read.
  abbrev pub Ahead : Field → Field → Type 0
  Ahead field before = place before < place field → Readable before (text_at texts before)

  -- Where a field is flawed and each before it can be read, the six stand for no message.
  pub not_read : {T : Type 0} (field : Field) (P : T → Type 0) (read : Result T Flaw) (e : Malformed) → Path (Result T Malformed) (Err e) (placed (InField field) read)
      → MatchResult read P (Flawed field (text_at texts field)) → ((before : Field) → Ahead field before) → NotRead texts e
  not_read field P read e is h before =
      let q = err_of P (Flawed field (text_at texts field)) (InField field) read e is h in
      subst (NotRead texts) (sym q.1) (before, q.2)
