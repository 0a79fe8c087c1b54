-- The two ends of a link by what their calls leave: where each stands, and its registers.
use Rattle.std.specs.Prelude.{◌≡◌, ℕ, ◌+◌, ◌<◌, cond, List, [], ◌∷◌, ◌++◌, vec_items, fold, Option, Some, None, nat_lt}
use Rattle.std.specs.List.{AllByRecursion as Every}
use Rattle.sss.specs.Cipher.{BothRegisters, Word, begun, nonce_fits, plain_word, tag, taken, wire_word, zeroed}
use Rattle.sss.specs.declared.Fault.TheVariants.{Nonce as UnfitNonce, Full}
use Rattle.link.specs.Issuing.{nonce_bytes}
use Rattle.link.specs.Sealing.{longest_message}
use Rattle.link.specs.Receiving.{decided, answer_of, verdict_of, Released, Given}
use Rattle.sss.specs.declared.keyed.KeyedFunction.{Ghosts as Keyed}
use Rattle.sss.specs.declared.coefficient.Coefficient.{Ghosts as Coefficient}
use Rattle.link.specs.Engines.{Worked}
use Rattle.link.specs.declared.engine.Engine.{Engine}
use Rattle.link.specs.declared.issuer.Nonce.{Nonce}
use Rattle.link.specs.declared.call.SealerCall.{SealerCall}
use Rattle.link.specs.declared.call.SealerCall.TheVariants as on_sealer
use Rattle.link.specs.declared.call.ReceiverCall.{ReceiverCall}
use Rattle.link.specs.declared.call.ReceiverCall.TheVariants as on_receiver
use Rattle.link.specs.declared.call.Call.{Call}
use Rattle.link.specs.declared.call.Call.TheVariants.{OnSealer, OnReceiver}
use Rattle.link.specs.declared.call.Entry.{Entry}
use Rattle.link.specs.declared.call.Entry.TheVariants.{OfSealer, OfReceiver}
use Rattle.link.specs.declared.call.SealerEntry.{SealerEntry}
use Rattle.link.specs.declared.call.SealerEntry.TheVariants as sealer
use Rattle.link.specs.declared.call.ReceiverEntry.{ReceiverEntry}
use Rattle.link.specs.declared.call.ReceiverEntry.TheVariants as receiver
use Rattle.link.specs.declared.reception.Reception.{Reception}
use Rattle.link.specs.declared.reception.Reception.TheVariants.{Lost, Whole}
use Rattle.link.specs.declared.reception.Event.TheVariants as event
use Rattle.link.specs.declared.reception.Answer.{Answer}
use Rattle.link.specs.declared.reception.Verdict.{Verdict}
use Rattle.link.specs.declared.receiver.Receiver.{Receiver}
use Rattle.link.specs.declared.ends.Sealer.{Sealer}
use Rattle.link.specs.declared.ends.Sealer.TheVariants.{Ready, Open}

-- A sealer is ready, or has a message open of so many words.
pub data SealerState : Type 0 where
  ready : BothRegisters → SealerState
  in_message : ℕ → BothRegisters → SealerState

-- Its registers, open or not.
abbrev pub registers_of : SealerState → BothRegisters
registers_of (ready g) = g
registers_of (in_message n g) = g

-- A receiver by its state and its registers.
pub record ReceiverState : Type 0 where
  pub reception : Reception
  pub registers : BothRegisters

-- The sealer of the code by its state and registers.
abbrev pub sealing : {K C : Type 0} → Sealer K C → SealerState
sealing (Ready s) = ready s.engine.registers
sealing (Open m) = in_message m.words m.engine.registers

-- The receiver of the code by its state and registers.
abbrev pub receiving : {K C : Type 0} → Receiver K C → ReceiverState
receiving r = record { reception = r.footing.reception; registers = r.engine.registers }

-- How many words the open message of the code's sealer has, if one is open.
abbrev pub open_count : {K C : Type 0} → Sealer K C → Option ℕ
open_count (Ready s) = None
open_count (Open m) = Some m.words

-- The sealer's engine, whichever state it is in.
abbrev pub sealer_engine : {K C : Type 0} → Sealer K C → Engine K C
sealer_engine (Ready s) = s.engine
sealer_engine (Open m) = m.engine

-- A call on the sealer: where it then stands, and what the log notes.
unfoldable pub sealer_made : (ℕ → ℕ) → (ℕ → ℕ) → SealerState → SealerCall Nonce → SealerState × SealerEntry
sealer_made f A (ready g) (on_sealer.Begin n) = (in_message 0 (begun f A (nonce_bytes n)), sealer.Begun (nonce_bytes n))
sealer_made f A (ready g) (on_sealer.Word mask p) = (ready g, sealer.OutOfTurn (on_sealer.Word mask p))
sealer_made f A (ready g) on_sealer.Finish = (ready g, sealer.OutOfTurn on_sealer.Finish)
sealer_made f A (ready g) on_sealer.Abandon = (ready g, sealer.OutOfTurn on_sealer.Abandon)
sealer_made f A (in_message n g) (on_sealer.Begin k) = (in_message n g, sealer.OutOfTurn (on_sealer.Begin (nonce_bytes k)))
sealer_made f A (in_message n g) (on_sealer.Word mask p) =
    cond (nat_lt n longest_message) (in_message (n + 1) (taken f A g mask p), sealer.Sealed mask p (wire_word f g mask p))
    (in_message n g, sealer.Refused mask p Full)
sealer_made f A (in_message n g) on_sealer.Finish = (ready zeroed, sealer.Finished (tag f g))
sealer_made f A (in_message n g) on_sealer.Abandon = (ready zeroed, sealer.Abandoned)

-- What the receiver makes of a begin whose nonce fits, of a word, of a break and of a tag: where it then stands, and the answer if there is one.
abbrev pub nonce_heard : (ℕ → ℕ) → (ℕ → ℕ) → List ℕ → ReceiverState
nonce_heard f A nonce = record { reception = Whole; registers = begun f A nonce }

abbrev pub word_heard : (ℕ → ℕ) → (ℕ → ℕ) → ReceiverState → (mask wire : ℕ) → ReceiverState × Answer
word_heard f A s mask m =
    let p : ℕ = plain_word f s.registers mask m in
    let d = decided s.reception (event.Word mask) in
    (record { reception = d.0; registers = taken f A s.registers mask p }, answer_of d.1 p)

abbrev pub break_heard : ReceiverState → ReceiverState
break_heard s = record { reception = Lost 0; registers = s.registers }

abbrev pub tag_heard : (ℕ → ℕ) → ReceiverState → List ℕ → ReceiverState × Verdict
tag_heard f s t = (record { reception = Lost 0; registers = zeroed }, verdict_of (decided s.reception event.Finish).1 t (tag f s.registers))

-- A call on the receiver: where it then stands, and what the log notes.
unfoldable pub receiver_made : (ℕ → ℕ) → (ℕ → ℕ) → ReceiverState → ReceiverCall → ReceiverState × ReceiverEntry
receiver_made f A s (on_receiver.Begin nonce) =
    cond (nonce_fits (vec_items nonce)) (nonce_heard f A (vec_items nonce), receiver.Begun nonce) (s, receiver.Refused nonce UnfitNonce)
receiver_made f A s (on_receiver.Word mask m) = let h = word_heard f A s mask m in (h.0, receiver.Received mask m h.1)
receiver_made f A s on_receiver.Break = (break_heard s, receiver.BrokenOff)
receiver_made f A s (on_receiver.Finish t) = let h = tag_heard f s t in (h.0, receiver.Finished t h.1)

-- What an entry of the receiver says whatever the keyed function answers: where the receiver then stands, whether a word was handed out, the
-- row of one that was not, and whether a verdict is broken.
abbrev pub Leads : Reception → ReceiverEntry → Reception → Type 0
Leads s (receiver.Begun nonce) s' = s' ≡ Whole
Leads s (receiver.Refused nonce fault) s' = s' ≡ s
Leads s (receiver.Received mask wire answer) s' =
    (s' ≡ (decided s (event.Word mask)).0) × Released (decided s (event.Word mask)).1 answer
Leads s receiver.BrokenOff s' = s' ≡ Lost 0
Leads s (receiver.Finished tag verdict) s' = (s' ≡ Lost 0) × Given (decided s event.Finish).1 verdict

-- Both ends.
pub record Ends : Type 0 where
  pub sealer : SealerState
  pub receiver : ReceiverState

-- Both ends as they are new: the sealer ready, the receiver lost with row 0, all registers zero.
abbrev pub new_ends : Ends
new_ends = record { sealer = ready zeroed; receiver = record { reception = Lost 0; registers = zeroed } }

-- A call on either end: the sealer works with f and A, the receiver with f' and A'.
unfoldable pub made : (f A f' A' : ℕ → ℕ) → Ends → Call → Ends × Entry
made f A f' A' s (OnSealer x) =
    let o = sealer_made f A s.sealer x in
    (record { sealer = o.0; receiver = s.receiver }, OfSealer o.1)
made f A f' A' s (OnReceiver x) =
    let o = receiver_made f' A' s.receiver x in
    (record { sealer = s.sealer; receiver = o.0 }, OfReceiver o.1)

-- One call more: both ends after it, and the log with its entry at the end.
abbrev pub one_call : (f A f' A' : ℕ → ℕ) → Ends × List Entry → Call → Ends × List Entry
one_call f A f' A' h x = let o = made f A f' A' h.0 x in (o.0, h.1 ++ o.1 ∷ [])

-- All calls of a list, in order, from new ends and an empty log.
unfoldable pub history : (f A f' A' : ℕ → ℕ) → List Call → Ends × List Entry
history f A f' A' calls = fold (one_call f A f' A') (new_ends, []) calls

-- The plaintext of a call is a word, as its type says; of its mask nothing is needed.
abbrev pub SealerCallFits : SealerCall Nonce → Type 0
SealerCallFits (on_sealer.Begin n) = Unit {0}
SealerCallFits (on_sealer.Word mask p) = Word p
SealerCallFits on_sealer.Finish = Unit {0}
SealerCallFits on_sealer.Abandon = Unit {0}

-- Nonce bytes are bytes, wire words are words.
abbrev pub ReceiverCallFits : ReceiverCall → Type 0
ReceiverCallFits (on_receiver.Begin nonce) = Every (λ b. b < 256) (vec_items nonce)
ReceiverCallFits (on_receiver.Word mask m) = Word m
ReceiverCallFits on_receiver.Break = Unit {0}
ReceiverCallFits (on_receiver.Finish t) = Unit {0}

-- The same of a call on either end.
abbrev pub CallFits : Call → Type 0
CallFits (OnSealer x) = SealerCallFits x
CallFits (OnReceiver x) = ReceiverCallFits x

-- A call on either end of the code, as far as it follows from the maps on words that its function and its coefficient mean: where the end then
-- stands, and what the log notes.
module _ {K C : Type 0} (F : Keyed K) (L : Coefficient C) where
  abbrev pub SealerMakes : Sealer K C → SealerCall Nonce → SealerEntry → Sealer K C → Type 0
  SealerMakes before call entry after =
      Worked F L (sealer_engine before) (sealer_engine after) (λ f A. (sealing after, entry) ≡ sealer_made f A (sealing before) call)

  abbrev pub ReceiverMakes : Receiver K C → ReceiverCall → ReceiverEntry → Receiver K C → Type 0
  ReceiverMakes before call entry after =
      Worked F L before.engine after.engine (λ f A. (receiving after, entry) ≡ receiver_made f A (receiving before) call)
