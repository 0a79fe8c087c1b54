-- A log read as what is seen at the joint: which received word is which word of which message.
use Rattle.std.specs.Prelude.{ℕ, ◌+◌, ◌-◌, ◌^◌, min, cond, List, [], ◌∷◌, ◌++◌, Some, None, fold, Option, ◌==◌}
use Rattle.link.specs.declared.reception.Answer.{Answer}
use Rattle.link.specs.declared.call.Entry.{Entry}
use Rattle.link.specs.declared.call.Entry.TheVariants.{OfSealer, OfReceiver}
use Rattle.link.specs.declared.call.SealerEntry.{SealerEntry}
use Rattle.link.specs.declared.call.SealerEntry.TheVariants as sealer
use Rattle.link.specs.declared.call.ReceiverEntry.{ReceiverEntry}
use Rattle.link.specs.declared.call.ReceiverEntry.TheVariants as receiver
use Rattle.weld.specs.declared.passage.Event.{Event}
use Rattle.weld.specs.declared.passage.Event.TheVariants.{Begun, Word, Altered, Break, Ended, Abandoned}
use Rattle.weld.specs.declared.passage.Sent.{Sent}

-- A log read so far, which is what a `Reader` of src/passage.rt stands for: how many messages were begun, the place of the next word, the latest
-- word sent as long as nothing came after it, and what was seen.
pub record ReadSoFar : Type 0 where
  pub begun : ℕ
  pub place : ℕ
  pub pending : Option Sent
  pub seen : List Event

-- Nothing is read yet.
abbrev pub unread : ReadSoFar
unread = record { begun = 0; place = 0; pending = None; seen = [] }

-- One thing more is seen.
abbrev pub seeing : Event → ReadSoFar → ReadSoFar
seeing e s = record { begun = s.begun; place = s.place; pending = s.pending; seen = s.seen ++ e ∷ [] }

-- No word is under way.
abbrev pub none_pending : ReadSoFar → ReadSoFar
none_pending s = record { begun = s.begun; place = s.place; pending = None; seen = s.seen }

-- Something else happens before the word under way is received: the word is lost.
abbrev pub settled_by : Option Sent → ReadSoFar → ReadSoFar
settled_by None s = none_pending s
settled_by (Some w) s = seeing (Word w None) (none_pending s)

-- The same of the word that is under way, if there is one.
abbrev pub settled : ReadSoFar → ReadSoFar
settled s = settled_by s.pending s

-- A message is begun.
abbrev pub message_begun : List ℕ → ReadSoFar → ReadSoFar
message_begun nonce s =
    let n : ℕ = min (s.begun + 1) (2 ^ 64 - 1) in
    record { begun = n; place = 0; pending = s.pending; seen = s.seen ++ Begun n nonce ∷ [] }

-- A word is sent: it is under way.
abbrev pub word_sent : (mask plain wire : ℕ) → ReadSoFar → ReadSoFar
word_sent mask plain wire s =
    let w : Sent = record { place = s.place; mask = mask; plain = plain; wire = wire } in
    record { begun = s.begun; place = min (s.place + 1) (2 ^ 16 - 1); pending = Some w; seen = s.seen }

-- A word is received: it is the one under way, with its own wire word or another.
abbrev pub received_by : Option Sent → ℕ → Answer → ReadSoFar → ReadSoFar
received_by None wire answer s = s
received_by (Some w) wire answer s =
    seeing (Word w (Some answer)) (cond (wire == w.wire) (none_pending s) (seeing (Altered w wire) (none_pending s)))

-- The same of the word that is under way.
abbrev pub word_received : ℕ → Answer → ReadSoFar → ReadSoFar
word_received wire answer s = received_by s.pending wire answer s

-- An entry of the sealer more. Refused calls and calls out of turn are in no log that is read to its end.
abbrev pub sealer_noted : ReadSoFar → SealerEntry → ReadSoFar
sealer_noted s (sealer.Begun nonce) = message_begun nonce (settled s)
sealer_noted s (sealer.Sealed mask plain wire) = word_sent mask plain wire (settled s)
sealer_noted s (sealer.Refused mask plain fault) = s
sealer_noted s (sealer.Finished tag) = settled s
sealer_noted s sealer.Abandoned = seeing Abandoned (settled s)
sealer_noted s (sealer.OutOfTurn call) = s

-- An entry of the receiver more.
abbrev pub receiver_noted : ReadSoFar → ReceiverEntry → ReadSoFar
receiver_noted s (receiver.Begun nonce) = s
receiver_noted s (receiver.Refused nonce fault) = s
receiver_noted s (receiver.Received mask wire answer) = word_received wire answer s
receiver_noted s receiver.BrokenOff = seeing Break (settled s)
receiver_noted s (receiver.Finished tag verdict) = seeing (Ended tag verdict) (settled s)

-- An entry of either end.
abbrev pub noted : ReadSoFar → Entry → ReadSoFar
noted s (OfSealer e) = sealer_noted s e
noted s (OfReceiver e) = receiver_noted s e

-- What is seen in a run, by its log.
unfoldable pub seen_in : List Entry → List Event
seen_in log = (settled (fold noted unread log)).seen
