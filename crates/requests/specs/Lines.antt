-- A line of the input as a request.
use Rattle.std.specs.Prelude.{◌≡◌, ◌≢◌, ℕ, ◌+◌, ◌⊎◌, List, [], ◌∷◌, length, codes, slice_index_or, vec_items, IsUtf8}
use Rattle.fields.specs.Cutting.{blanks, Cut}
use Rattle.fields.specs.Reading.{FieldBytes}
use Rattle.requests.specs.declared.field.Field.{Field}
use Rattle.requests.specs.declared.field.Field.TheVariants.{Key, Nonce, Masks, Plaintext, Wire, Tag, Room, TagRoom}
use Rattle.requests.specs.declared.field.Flaw.{Flaw}
use Rattle.requests.specs.declared.request.Fields.{Fields}
use Rattle.requests.specs.declared.request.SealRequest.{SealRequest}
use Rattle.requests.specs.declared.request.OpenRequest.{OpenRequest}
use Rattle.requests.specs.declared.request.Request.{Request}
use Rattle.requests.specs.declared.request.Request.TheVariants.{Seal, Open}
use Rattle.requests.specs.declared.request.Unread.{Unread}
use Rattle.requests.specs.declared.request.Unread.TheVariants as unread
use Rattle.requests.specs.Fields.{NoBytes, NonceBytes, NoNonce, LengthOf, NoLength}

-- The texts of the seven fields, in their order.
abbrev pub texts_of : Fields → List (List ℕ)
texts_of f = f.call.now ∷ f.key.now ∷ f.nonce.now ∷ f.masks.now ∷ f.input.now ∷ f.sixth.now ∷ f.seventh.now ∷ []

-- The text of the field at this place.
abbrev pub text_at : List (List ℕ) → ℕ → List ℕ
text_at texts k = slice_index_or texts k []

-- The line cut at each blank does not give seven texts, or there was no memory to cut it.
abbrev pub NotCut : List ℕ → Unread → Type 0
NotCut line (unread.Fields n) = (n ≡ blanks line + 1) × (n ≢ 7)
NotCut line unread.NoMemory = Unit {0}
NotCut line unread.NotText = ⊥
NotCut line unread.OtherCall = ⊥
NotCut line (unread.InField field flaw) = ⊥

-- The texts of seven fields ask for this message to be sealed.
pub record ReadsSealing (texts : List (List ℕ)) (r : SealRequest) : Type 0 where
  pub key : FieldBytes (text_at texts 1) (vec_items r.key)
  pub nonce : NonceBytes (text_at texts 2) r.nonce
  pub masks : FieldBytes (text_at texts 3) (vec_items r.masks)
  pub plaintext : FieldBytes (text_at texts 4) (vec_items r.plaintext)
  pub room : LengthOf (text_at texts 5) r.room
  pub tag_room : LengthOf (text_at texts 6) r.tag_room

-- The texts of seven fields ask for this message to be opened.
pub record ReadsOpening (texts : List (List ℕ)) (r : OpenRequest) : Type 0 where
  pub key : FieldBytes (text_at texts 1) (vec_items r.key)
  pub nonce : FieldBytes (text_at texts 2) (vec_items r.nonce)
  pub masks : FieldBytes (text_at texts 3) (vec_items r.masks)
  pub wire : FieldBytes (text_at texts 4) (vec_items r.wire)
  pub tag : FieldBytes (text_at texts 5) (vec_items r.tag)
  pub room : LengthOf (text_at texts 6) r.room

-- The text stands for some bytes.
abbrev pub Readable : (List ℕ → List ℕ → Type 0) → List ℕ → Type 0
Readable Stands text = (bytes : List ℕ) × Stands text bytes

-- This field of `seal`, or of `open`, is flawed in this way, or there was no memory for it; those before it are not.
abbrev pub FlawedSealing : List (List ℕ) → Field → Flaw → Type 0
FlawedSealing texts Key flaw = NoBytes (text_at texts 1) flaw
FlawedSealing texts Nonce flaw = Readable FieldBytes (text_at texts 1) × NoNonce (text_at texts 2) flaw
FlawedSealing texts Masks flaw = Readable FieldBytes (text_at texts 1) × Readable NonceBytes (text_at texts 2) × NoBytes (text_at texts 3) flaw
FlawedSealing texts Plaintext flaw =
    Readable FieldBytes (text_at texts 1) × Readable NonceBytes (text_at texts 2) × Readable FieldBytes (text_at texts 3) × NoBytes (text_at texts 4) flaw
FlawedSealing texts Wire flaw = ⊥
FlawedSealing texts Tag flaw = ⊥
FlawedSealing texts Room flaw =
    Readable FieldBytes (text_at texts 1) × Readable NonceBytes (text_at texts 2) × Readable FieldBytes (text_at texts 3) × Readable FieldBytes (text_at texts 4) ×
    NoLength (text_at texts 5) flaw
FlawedSealing texts TagRoom flaw =
    Readable FieldBytes (text_at texts 1) × Readable NonceBytes (text_at texts 2) × Readable FieldBytes (text_at texts 3) × Readable FieldBytes (text_at texts 4) ×
    ((n : ℕ) × LengthOf (text_at texts 5) n) × NoLength (text_at texts 6) flaw

abbrev pub FlawedOpening : List (List ℕ) → Field → Flaw → Type 0
FlawedOpening texts Key flaw = NoBytes (text_at texts 1) flaw
FlawedOpening texts Nonce flaw = Readable FieldBytes (text_at texts 1) × NoBytes (text_at texts 2) flaw
FlawedOpening texts Masks flaw = Readable FieldBytes (text_at texts 1) × Readable FieldBytes (text_at texts 2) × NoBytes (text_at texts 3) flaw
FlawedOpening texts Plaintext flaw = ⊥
FlawedOpening texts Wire flaw =
    Readable FieldBytes (text_at texts 1) × Readable FieldBytes (text_at texts 2) × Readable FieldBytes (text_at texts 3) × NoBytes (text_at texts 4) flaw
FlawedOpening texts Tag flaw =
    Readable FieldBytes (text_at texts 1) × Readable FieldBytes (text_at texts 2) × Readable FieldBytes (text_at texts 3) × Readable FieldBytes (text_at texts 4) ×
    NoBytes (text_at texts 5) flaw
FlawedOpening texts Room flaw =
    Readable FieldBytes (text_at texts 1) × Readable FieldBytes (text_at texts 2) × Readable FieldBytes (text_at texts 3) × Readable FieldBytes (text_at texts 4) ×
    Readable FieldBytes (text_at texts 5) × NoLength (text_at texts 6) flaw
FlawedOpening texts TagRoom flaw = ⊥

-- The fields of `seal`, or of `open`, stand for no message: one is flawed.
abbrev pub NoSealing : List (List ℕ) → Unread → Type 0
NoSealing texts e = (field : Field) × (flaw : Flaw) × (e ≡ unread.InField field flaw) × FlawedSealing texts field flaw

abbrev pub NoOpening : List (List ℕ) → Unread → Type 0
NoOpening texts e = (field : Field) × (flaw : Flaw) × (e ≡ unread.InField field flaw) × FlawedOpening texts field flaw

-- The texts of seven fields ask for this call.
abbrev pub Reads : List (List ℕ) → Request → Type 0
Reads texts (Seal r) = (text_at texts 0 ≡ codes "seal") × ReadsSealing texts r
Reads texts (Open r) = (text_at texts 0 ≡ codes "open") × ReadsOpening texts r

-- The texts of seven fields ask for none: the first is another word, or a field is flawed.
abbrev pub NotRead : List (List ℕ) → Unread → Type 0
NotRead texts e =
    ((e ≡ unread.OtherCall) × (text_at texts 0 ≢ codes "seal") × (text_at texts 0 ≢ codes "open")) ⊎
    (((text_at texts 0 ≡ codes "seal") × NoSealing texts e) ⊎ ((text_at texts 0 ≡ codes "open") × NoOpening texts e))

-- The line, cut into seven fields, asks for this call.
abbrev pub Parses : List ℕ → Request → Type 0
Parses line r = (texts : List (List ℕ)) × (length texts ≡ 7) × Cut line texts × Reads texts r

-- The line is no request, for this reason: it is not text; or it is, and has not seven fields, or these ask for no call. Or there was no memory.
abbrev pub NotParsed : List ℕ → Unread → Type 0
NotParsed line e =
    ((e ≡ unread.NotText) × (IsUtf8 line → ⊥)) ⊎
    (IsUtf8 line × (NotCut line e ⊎ ((texts : List (List ℕ)) × (length texts ≡ 7) × Cut line texts × NotRead texts e)))
