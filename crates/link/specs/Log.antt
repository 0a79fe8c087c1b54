-- What a log says, in the words of the subject: messages and their words, marks, stretches, and the words since a reset. A log has its
-- earliest entry first; the lists of messages and of stretches that are read off it have the latest first.
use Rattle.std.specs.Prelude.{ℕ, List, [], ◌∷◌, ◌++◌, map, Some, None, vec_items, fold, Option}
use Rattle.sss.specs.Cipher.{BothRegisters, zeroed, begun, all_taken, plain_words}
use Rattle.sss.specs.declared.message.MaskedWord.{MaskedWord}
use Rattle.link.specs.declared.reception.Answer.{Answer}
use Rattle.link.specs.declared.call.Entry.{Entry}
use Rattle.link.specs.declared.call.Entry.TheVariants.{OfSealer, OfReceiver}
use Rattle.link.specs.declared.call.SealerEntry.{SealerEntry}
use Rattle.link.specs.declared.call.SealerEntry.TheVariants as sealer
use Rattle.link.specs.declared.call.ReceiverEntry.{ReceiverEntry}
use Rattle.link.specs.declared.call.ReceiverEntry.TheVariants as receiver

-- A word that the sealer took, under any mask: the mask, the plaintext that it was given, and the wire word.
pub record Sent : Type 0 where
  pub mask : ℕ
  pub plain : ℕ
  pub wire : ℕ

-- A message: the bytes of its nonce, and its words, sealed, open and part, in the order in which the sealer took them. A refused word is in no
-- message.
pub record Message : Type 0 where
  pub nonce : List ℕ
  pub words : List Sent

-- The messages with one more word of the latest.
abbrev pub sent_too : Sent → List Message → List Message
sent_too w [] = []
sent_too w (m ∷ ms) = record { nonce = m.nonce; words = m.words ++ w ∷ [] } ∷ ms

-- The messages after one more entry of the sealer: a begin opens one, a word taken is added to it, all else adds nothing.
abbrev pub message_noted : SealerEntry → List Message → List Message
message_noted (sealer.Begun nonce) ms = record { nonce = nonce; words = [] } ∷ ms
message_noted (sealer.Sealed mask plain wire) ms = sent_too (record { mask = mask; plain = plain; wire = wire }) ms
message_noted (sealer.Refused mask plain fault) ms = ms
message_noted (sealer.Finished tag) ms = ms
message_noted sealer.Abandoned ms = ms
message_noted (sealer.OutOfTurn call) ms = ms

-- The messages after one more entry of either end; one of the receiver adds nothing.
abbrev pub messages_then : List Message → Entry → List Message
messages_then ms (OfSealer e) = message_noted e ms
messages_then ms (OfReceiver e) = ms

-- The messages of a log, the latest first: finished, abandoned or still open.
unfoldable pub messages : List Entry → List Message
messages log = fold messages_then [] log

-- A mark: the receiver's being new, a begin that it took with the bytes of its nonce, a break, or a finish.
pub data Mark : Type 0 where
  new : Mark
  begin : List ℕ → Mark
  break : Mark
  finish : Mark

-- A word that was received: its mask, the wire word, and what the receiver answered.
pub record Heard : Type 0 where
  pub mask : ℕ
  pub wire : ℕ
  pub answer : Answer

-- A stretch: the words received after a mark, up to the next mark or the end of the log.
pub record Stretch : Type 0 where
  pub mark : Mark
  pub words : List Heard

-- The stretches with one more word of the latest.
abbrev pub heard_too : Heard → List Stretch → List Stretch
heard_too w [] = []
heard_too w (s ∷ ss) = record { mark = s.mark; words = s.words ++ w ∷ [] } ∷ ss

-- A mark begins a stretch of no words yet.
abbrev pub marked : Mark → List Stretch → List Stretch
marked m ss = record { mark = m; words = [] } ∷ ss

-- The stretches after one more entry of the receiver: a mark begins one, a word is added to it, a refused begin adds nothing.
abbrev pub stretch_noted : ReceiverEntry → List Stretch → List Stretch
stretch_noted (receiver.Begun nonce) ss = marked (begin (vec_items nonce)) ss
stretch_noted (receiver.Refused nonce fault) ss = ss
stretch_noted (receiver.Received mask wire answer) ss = heard_too (record { mask = mask; wire = wire; answer = answer }) ss
stretch_noted receiver.BrokenOff ss = marked break ss
stretch_noted (receiver.Finished tag verdict) ss = marked finish ss

-- The stretches after one more entry of either end; one of the sealer adds nothing.
abbrev pub stretches_then : List Stretch → Entry → List Stretch
stretches_then ss (OfSealer e) = ss
stretches_then ss (OfReceiver e) = stretch_noted e ss

-- The stretches of a log, the latest first; the first of all begins with the receiver's being new.
unfoldable pub stretches : List Entry → List Stretch
stretches log = fold stretches_then (marked new []) log

-- The words of one end since its latest reset: from registers of zero, or from the begin with this nonce. A break is no reset.
pub record Since (W : Type 0) : Type 0 where
  pub start : Option (List ℕ)
  pub words : List W

-- A reset, and no word since.
abbrev pub reset_to : {W : Type 0} → Option (List ℕ) → Since W
reset_to start = record { start = start; words = [] }

-- One word more.
abbrev pub one_more : {W : Type 0} → Since W → W → Since W
one_more s w = record { start = s.start; words = s.words ++ w ∷ [] }

-- The sealer's words since its latest reset, after one more entry of the sealer: begin, finish and abandon reset, a word taken is added.
abbrev pub sent_noted : Since Sent → SealerEntry → Since Sent
sent_noted s (sealer.Begun nonce) = reset_to (Some nonce)
sent_noted s (sealer.Sealed mask plain wire) = one_more s (record { mask = mask; plain = plain; wire = wire })
sent_noted s (sealer.Refused mask plain fault) = s
sent_noted s (sealer.Finished tag) = reset_to None
sent_noted s sealer.Abandoned = reset_to None
sent_noted s (sealer.OutOfTurn call) = s

-- The sealer's words since its latest reset, after one more entry of either end; one of the receiver adds nothing.
abbrev pub sent_then : Since Sent → Entry → Since Sent
sent_then s (OfSealer e) = sent_noted s e
sent_then s (OfReceiver e) = s

-- The sealer's words since its latest reset; being new counts as one.
unfoldable pub sent_since : List Entry → Since Sent
sent_since log = fold sent_then (reset_to None) log

-- The receiver's words since its latest reset, after one more entry of the receiver: a begin that was taken and a finish reset, a word is
-- added, a break does nothing.
abbrev pub heard_noted : Since Heard → ReceiverEntry → Since Heard
heard_noted s (receiver.Begun nonce) = reset_to (Some (vec_items nonce))
heard_noted s (receiver.Refused nonce fault) = s
heard_noted s (receiver.Received mask wire answer) = one_more s (record { mask = mask; wire = wire; answer = answer })
heard_noted s receiver.BrokenOff = s
heard_noted s (receiver.Finished tag verdict) = reset_to None

-- The receiver's words since its latest reset, after one more entry of either end; one of the sealer adds nothing.
abbrev pub heard_then : Since Heard → Entry → Since Heard
heard_then s (OfSealer e) = s
heard_then s (OfReceiver e) = heard_noted s e

-- The receiver's words since its latest reset; being new counts as one.
unfoldable pub heard_since : List Entry → Since Heard
heard_since log = fold heard_then (reset_to None) log

-- A word with its mask, as it was given to the sealer.
abbrev pub plain_of : Sent → MaskedWord
plain_of w = record { mask = w.mask; text = w.plain }

-- A word with its mask, as it was sent.
abbrev pub wire_of : Sent → MaskedWord
wire_of w = record { mask = w.mask; text = w.wire }

-- A word with its mask, as it was received.
abbrev pub heard_wire : Heard → MaskedWord
heard_wire w = record { mask = w.mask; text = w.wire }

-- The registers at a reset: zero, or those that the begin with this nonce leaves.
abbrev pub start_of : (ℕ → ℕ) → (ℕ → ℕ) → Option (List ℕ) → BothRegisters
start_of f A None = zeroed
start_of f A (Some nonce) = begun f A nonce

-- The published cipher's registers after the sealer's words since its latest reset.
unfoldable pub sealer_registers : (ℕ → ℕ) → (ℕ → ℕ) → List Entry → BothRegisters
sealer_registers f A log =
    let s = sent_since log in
    all_taken f A (start_of f A s.start) (map plain_of s.words)

-- The published cipher's registers after the receiver's words since its latest reset.
unfoldable pub receiver_registers : (ℕ → ℕ) → (ℕ → ℕ) → List Entry → BothRegisters
receiver_registers f A log =
    let s = heard_since log in
    let g = start_of f A s.start in
    all_taken f A g (plain_words f A g (map heard_wire s.words))
