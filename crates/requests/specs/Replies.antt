-- What must come of a request, and of a line.
use Rattle.std.specs.Prelude.{◌≡◌, ℕ, ◌⊎◌, List, replicate, vec_items}
use Rattle.sss.specs.Cipher.{KeyFits, key_table, keyed, product}
use Rattle.sss.specs.declared.fault.Fault.TheVariants as fault
use Rattle.message.specs.Outcomes.{OpenOutcome, SealOutcome, left_by_open, left_by_seal, open_outcome, seal_outcome}
use Rattle.requests.specs.declared.reply.Reply.{Reply}
use Rattle.requests.specs.declared.reply.Reply.TheVariants.{NoKey, Sealing, Opening}
use Rattle.requests.specs.declared.request.SealRequest.{SealRequest}
use Rattle.requests.specs.declared.request.OpenRequest.{OpenRequest}
use Rattle.requests.specs.declared.request.Request.{Request}
use Rattle.requests.specs.declared.request.Request.TheVariants.{Seal, Open}
use Rattle.requests.specs.declared.request.Unread.{Unread}
use Rattle.requests.specs.declared.request.Unread.TheVariants.{NoMemory}
use Rattle.requests.specs.Lines.{Parses, NotParsed}

-- The outcome that is due: with the published cipher for the key of the request, on buffers of A5 for the output and of 5A for the tag.
unfoldable pub due_sealing : SealRequest → SealOutcome
due_sealing r =
    seal_outcome (keyed (key_table (vec_items r.key))) product r.nonce (vec_items r.masks) (vec_items r.plaintext) (replicate r.room 0xA5) (replicate r.tag_room 0x5A)

unfoldable pub due_opening : OpenRequest → OpenOutcome
due_opening r =
    open_outcome (keyed (key_table (vec_items r.key))) product (vec_items r.nonce) (vec_items r.masks) (vec_items r.wire) (replicate r.room 0xA5) (vec_items r.tag)

-- The reply to a request is the outcome that is due, where the key fits; and else the refusal of the key.
abbrev pub SealReply : SealRequest → Reply → Type 0
SealReply r (NoKey f) = (KeyFits (vec_items r.key) → ⊥) × (f ≡ fault.Key)
SealReply r (Sealing answer output tag) =
    KeyFits (vec_items r.key) × (left_by_seal answer (vec_items output) (vec_items tag) ≡ due_sealing r)
SealReply r (Opening answer output) = ⊥

abbrev pub OpenReply : OpenRequest → Reply → Type 0
OpenReply r (NoKey f) = (KeyFits (vec_items r.key) → ⊥) × (f ≡ fault.Key)
OpenReply r (Sealing answer output tag) = ⊥
OpenReply r (Opening answer output) =
    KeyFits (vec_items r.key) × (left_by_open answer (vec_items output) ≡ due_opening r)

abbrev pub ReplyTo : Request → Reply → Type 0
ReplyTo (Seal r) reply = SealReply r reply
ReplyTo (Open r) reply = OpenReply r reply

-- The line is a request, and this is the reply to it; or it is none, for this reason, or there was no memory.
abbrev pub Answers : List ℕ → Reply → Type 0
Answers line reply = (r : Request) × Parses line r × ReplyTo r reply

abbrev pub NotAnswered : List ℕ → Unread → Type 0
NotAnswered line e = NotParsed line e ⊎ (e ≡ NoMemory)
