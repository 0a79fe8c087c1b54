-- What holds of both ends after any calls: how their registers, messages, stretches and states hang together.
use Rattle.std.proofs.Common.{◌≡◌, ℕ, ◌<◌, List, [], ◌∷◌, ◌++◌, map, Some, None, Option}
use Rattle.std.specs.List.{AllByRecursion as Every}
use Rattle.sss.specs.Cipher.{BothRegisters, Word, begun, plain_word, wire_word}
use Rattle.link.specs.Receiving.{decided, answer_of}
use Rattle.link.specs.Ends.{SealerState, ready, in_message, registers_of, ReceiverState, Ends, new_ends, made, CallFits}
use Rattle.link.specs.Log.{Sent, Message, messages, Mark, new, begin, break, finish, Heard, Stretch, stretches, Since, sent_since, heard_since, wire_of, heard_wire, start_of}
use Rattle.link.specs.declared.reception.Reception.{Reception}
use Rattle.link.specs.declared.reception.Reception.TheVariants.{Whole, Lost}
use Rattle.link.specs.declared.reception.Event.TheVariants as event
use Rattle.link.specs.declared.reception.Answer.{Answer}
use Rattle.link.specs.declared.call.Call.{Call}
use Rattle.link.specs.declared.call.Entry.{Entry}
use Rattle.link.proofs.Received.{Sized, WireWord, received, all_received}

-- Bytes, and the nonce of a reset.
abbrev pub Bytes : List ℕ → Type 0
Bytes bs = Every (λ b. b < 256) bs

abbrev pub StartFits : Option (List ℕ) → Type 0
StartFits None = Unit {0}
StartFits (Some nonce) = Bytes nonce

-- The receiver's state after a word, and its answer.
abbrev pub moved : Reception → ℕ → Reception
moved s mask = (decided s (event.Word mask)).0

abbrev pub told : (ℕ → ℕ) → Reception → BothRegisters → ℕ → ℕ → Answer
told f s g mask m = answer_of (decided s (event.Word mask)).1 (plain_word f g mask m)

-- The receiver's state after a mark, and after some words.
abbrev pub start : Mark → Reception
start new = Lost 0
start (begin nonce) = Whole
start break = Lost 0
start finish = Lost 0

abbrev pub moves : Reception → List Heard → Reception
moves s [] = s
moves s (w ∷ ws) = moves (moved s w.mask) ws

module _ (f A : ℕ → ℕ) where
  -- words that were sealed one after the other from the registers g on
  abbrev pub SealedFrom : BothRegisters → List Sent → Type 0
  SealedFrom g [] = Unit {0}
  SealedFrom g (w ∷ ws) = (w.wire ≡ wire_word f g w.mask w.plain) × Word w.wire × SealedFrom (received f A g w.mask w.wire) ws

  abbrev pub SealedMessage : Message → Type 0
  SealedMessage m = Bytes m.nonce × SealedFrom (begun f A m.nonce) m.words

  -- where a message is open, it is the latest one, and its words are those since the latest reset
  abbrev pub OpenAt : SealerState → List Message → Since Sent → Type 0
  OpenAt (ready g) ms s = Unit {0}
  OpenAt (in_message n g) ms s =
      (m : Message) × (earlier : List Message) × (ms ≡ m ∷ earlier) × (s ≡ record { start = Some m.nonce; words = m.words })

  pub record SealerGood (s : SealerState) (ms : List Message) (since : Since Sent) : Type 0 where
    pub sized : Sized (registers_of s)
    pub sealed : Every SealedMessage ms
    pub start_fits : StartFits since.start
    pub since_sealed : SealedFrom (start_of f A since.start) since.words
    pub reached : registers_of s ≡ all_received f A (start_of f A since.start) (map wire_of since.words)
    pub is_open : OpenAt s ms since

  -- the registers that a stretch starts with
  abbrev pub Starts : Mark → BothRegisters → Type 0
  Starts new g = Unit {0}
  Starts (begin nonce) g = (g ≡ begun f A nonce) × Bytes nonce
  Starts break g = Unit {0}
  Starts finish g = Unit {0}

  -- words and answers of a receiver that was in the state s with the registers g
  abbrev pub Follows : Reception → BothRegisters → List Heard → Type 0
  Follows s g [] = Unit {0}
  Follows s g (w ∷ ws) =
      (w.answer ≡ told f s g w.mask w.wire) × Word w.wire × Follows (moved s w.mask) (received f A g w.mask w.wire) ws

  -- a stretch that is over, and the present one, which led to the state s and the registers g
  abbrev pub Past : Stretch → Type 0
  Past st = (h : BothRegisters) × Sized h × Starts st.mark h × Follows (start st.mark) h st.words

  abbrev pub Present : ReceiverState → Stretch → Type 0
  Present s st =
      (h : BothRegisters) × Sized h × Starts st.mark h × Follows (start st.mark) h st.words ×
      (s.reception ≡ moves (start st.mark) st.words) × (s.registers ≡ all_received f A h (map heard_wire st.words))

  abbrev pub AllStretches : ReceiverState → List Stretch → Type 0
  AllStretches s [] = ⊥
  AllStretches s (st ∷ ss) = Present s st × Every Past ss

  pub record ReceiverGood (s : ReceiverState) (ss : List Stretch) (since : Since Heard) : Type 0 where
    pub sized : Sized s.registers
    pub followed : AllStretches s ss
    pub start_fits : StartFits since.start
    pub words_fit : Every WireWord (map heard_wire since.words)
    pub reached : s.registers ≡ all_received f A (start_of f A since.start) (map heard_wire since.words)

  -- Both ends after any calls, with their log.
  pub record Good (s : Ends) (log : List Entry) : Type 0 where
    pub sealer : SealerGood s.sealer (messages log) (sent_since log)
    pub receiver : ReceiverGood s.receiver (stretches log) (heard_since log)

  pub data Run : Ends → List Entry → Type 0 where
    none : Run new_ends []
    more : {s : Ends} {log : List Entry} → Run s log → (x : Call) → CallFits x → Run (made f A f A s x).0 (log ++ (made f A f A s x).1 ∷ [])
