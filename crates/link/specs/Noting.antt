-- What the log notes of each call: one entry for each, in order, whatever the keyed functions answer. Which calls of the sealer were out of
-- turn or refused is read off the entries before; a begin of the receiver is refused by its nonce alone.
use Rattle.std.specs.Prelude.{◌≡◌, ℕ, ◌+◌, ◌<◌, ◌≤◌, ◌⊎◌, List, [], ◌∷◌, ◌++◌, vec_items, fold, Option, Some, None}
use Rattle.sss.specs.Cipher.{NonceFits}
use Rattle.sss.specs.declared.Fault.TheVariants.{Nonce as UnfitNonce, Full}
use Rattle.link.specs.Issuing.{nonce_bytes}
use Rattle.link.specs.Sealing.{longest_message}
use Rattle.link.specs.declared.issuer.Nonce.{Nonce}
use Rattle.link.specs.declared.reception.Answer.{Answer}
use Rattle.link.specs.declared.reception.Verdict.{Verdict}
use Rattle.link.specs.declared.call.SealerCall.{SealerCall}
use Rattle.link.specs.declared.call.SealerCall.TheVariants as on_sealer
use Rattle.link.specs.declared.call.ReceiverCall.{ReceiverCall}
use Rattle.link.specs.declared.call.ReceiverCall.TheVariants as on_receiver
use Rattle.link.specs.declared.call.Call.{Call}
use Rattle.link.specs.declared.call.Call.TheVariants.{OnSealer, OnReceiver}
use Rattle.link.specs.declared.call.SealerEntry.{SealerEntry}
use Rattle.link.specs.declared.call.SealerEntry.TheVariants as sealer
use Rattle.link.specs.declared.call.ReceiverEntry.{ReceiverEntry}
use Rattle.link.specs.declared.call.ReceiverEntry.TheVariants as receiver
use Rattle.link.specs.declared.call.Entry.{Entry}
use Rattle.link.specs.declared.call.Entry.TheVariants.{OfSealer, OfReceiver}

-- What an entry of the sealer does to the open message, if there is one, by how many words it has: a begin opens one of no words, a word taken
-- is one more, a tag and a giving up close it.
abbrev pub open_noted : Option ℕ → SealerEntry → Option ℕ
open_noted o (sealer.Begun nonce) = Some 0
open_noted None (sealer.Sealed mask plain wire) = None
open_noted (Some n) (sealer.Sealed mask plain wire) = Some (n + 1)
open_noted o (sealer.Refused mask plain fault) = o
open_noted o (sealer.Finished tag) = None
open_noted o sealer.Abandoned = None
open_noted o (sealer.OutOfTurn call) = o

-- The same of an entry of either end; one of the receiver does nothing.
abbrev pub open_then : Option ℕ → Entry → Option ℕ
open_then o (OfSealer e) = open_noted o e
open_then o (OfReceiver e) = o

-- How many words the sealer's open message has after some entries, if one is open.
unfoldable pub open_words : List Entry → Option ℕ
open_words log = fold open_then None log

-- The entry of a call on the sealer. While no message is open only a begin is in turn, and while one is open, everything else. A word is
-- refused where the message has as many already as it may.
abbrev pub NotesSealer : Option ℕ → SealerCall Nonce → SealerEntry → Type 0
NotesSealer None (on_sealer.Begin nonce) e = e ≡ sealer.Begun (nonce_bytes nonce)
NotesSealer None (on_sealer.Word mask plain) e = e ≡ sealer.OutOfTurn (on_sealer.Word mask plain)
NotesSealer None on_sealer.Finish e = e ≡ sealer.OutOfTurn on_sealer.Finish
NotesSealer None on_sealer.Abandon e = e ≡ sealer.OutOfTurn on_sealer.Abandon
NotesSealer (Some n) (on_sealer.Begin nonce) e = e ≡ sealer.OutOfTurn (on_sealer.Begin (nonce_bytes nonce))
NotesSealer (Some n) (on_sealer.Word mask plain) e =
    ((n < longest_message) × (wire : ℕ) × (e ≡ sealer.Sealed mask plain wire)) ⊎ ((longest_message ≤ n) × (e ≡ sealer.Refused mask plain Full))
NotesSealer (Some n) on_sealer.Finish e = (tag : List ℕ) × (e ≡ sealer.Finished tag)
NotesSealer (Some n) on_sealer.Abandon e = e ≡ sealer.Abandoned

-- The entry of a call on the receiver. All are in turn; a begin is refused where its nonce does not fit.
abbrev pub NotesReceiver : ReceiverCall → ReceiverEntry → Type 0
NotesReceiver (on_receiver.Begin nonce) e =
    (NonceFits (vec_items nonce) × (e ≡ receiver.Begun nonce)) ⊎ ((NonceFits (vec_items nonce) → ⊥) × (e ≡ receiver.Refused nonce UnfitNonce))
NotesReceiver (on_receiver.Word mask wire) e = (answer : Answer) × (e ≡ receiver.Received mask wire answer)
NotesReceiver on_receiver.Break e = e ≡ receiver.BrokenOff
NotesReceiver (on_receiver.Finish tag) e = (verdict : Verdict) × (e ≡ receiver.Finished tag verdict)

-- The entry that a call on either end must have in a log that has these entries already.
abbrev pub Notes : List Entry → Call → Entry → Type 0
Notes before (OnSealer x) (OfSealer e) = NotesSealer (open_words before) x e
Notes before (OnSealer x) (OfReceiver e) = ⊥
Notes before (OnReceiver x) (OfSealer e) = ⊥
Notes before (OnReceiver x) (OfReceiver e) = NotesReceiver x e

-- The entries that a list of calls must have in such a log: one for each, in order.
abbrev pub NotesAll : List Entry → List Call → List Entry → Type 0
NotesAll before [] [] = Unit {0}
NotesAll before [] (e ∷ es) = ⊥
NotesAll before (x ∷ xs) [] = ⊥
NotesAll before (x ∷ xs) (e ∷ es) = Notes before x e × NotesAll (before ++ e ∷ []) xs es
