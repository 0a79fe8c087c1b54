-- THE LAW OF A LOSS. What holds of every run of a sealer and a receiver with one table and one coefficient, whatever calls were made on them
-- and whatever became of the words between them. All but the registers at its end is read off the log: f is the keyed function, A the
-- coefficient.
use Rattle.std.specs.Prelude.{◌≡◌, ℕ, ◌+◌, ◌-◌, ◌≤◌, cond, ◌≢◌, ◌⊎◌, ◌↔◌, List, [], ◌∷◌, ◌++◌, map, length, drop, Contains, Option, Some, None, ◌==◌}
use Rattle.std.specs.List.{AllByRecursion as Every}
use Rattle.sss.specs.Cipher.{BothRegisters, drawn_from, plain_word, sealed_message, opened_message, message_tag, sealed_mask}
use Rattle.sss.specs.declared.message.MaskedWord.{MaskedWord}
use Rattle.link.specs.Receiving.{catches_up}
use Rattle.link.specs.Log.{Sent, Message, messages, begin, Heard, Stretch, stretches, sent_since, heard_since, plain_of, wire_of, heard_wire, sealer_registers, receiver_registers}
use Rattle.link.specs.declared.reception.Reception.{Reception}
use Rattle.link.specs.declared.reception.Reception.TheVariants.{Whole, Caught, Lost}
use Rattle.link.specs.declared.reception.Answer.{Answer}
use Rattle.link.specs.declared.reception.Answer.TheVariants.{Reading, Withheld}
use Rattle.link.specs.declared.reception.Verdict.{Verdict}
use Rattle.link.specs.declared.reception.Verdict.TheVariants.{Agrees, Broken}
use Rattle.link.specs.declared.call.Entry.{Entry}
use Rattle.link.specs.declared.call.Entry.TheVariants.{OfSealer, OfReceiver}
use Rattle.link.specs.declared.call.SealerEntry.TheVariants as sealer
use Rattle.link.specs.declared.call.ReceiverEntry.TheVariants as receiver

-- One log is a beginning of another: what that held at some moment of the run.
abbrev pub Beginning : List Entry → List Entry → Type 0
Beginning log early = (later : List Entry) × (log ≡ early ++ later)

-- SEALED WORDS. A word is sealed if its mask is all ones.
abbrev pub SealedWord : MaskedWord → Type 0
SealedWord w = w.mask ≡ sealed_mask

-- The latest seventeen of some words.
abbrev pub latest_17 : List MaskedWord → List MaskedWord
latest_17 ws = drop (length ws - catches_up) ws

-- There are seventeen words or more, and the latest seventeen are sealed.
pub record SeventeenSealed (ws : List MaskedWord) : Type 0 where
  pub enough : catches_up ≤ length ws
  pub sealed : Every SealedWord (latest_17 ws)

-- What was on the wire of some words, without their masks.
abbrev pub wires : List MaskedWord → List ℕ
wires ws = map (λ w. w.text) ws

-- The words of the sealer since its latest reset, as they were on the wire.
abbrev pub sent_wires : List Entry → List MaskedWord
sent_wires log = map wire_of (sent_since log).words

-- The words of the receiver since its latest reset, as they came.
abbrev pub heard_wires : List Entry → List MaskedWord
heard_wires log = map heard_wire (heard_since log).words

-- TRUE READINGS. A stretch is placed in a message of the sealer: its words, with masks and wire words as sent, are consecutive words of that
-- message; after a begin, which had the message's nonce, they are its first words.
pub record Placed (log : List Entry) (s : Stretch) : Type 0 where
  pub message : Message
  pub of_sealer : Contains (messages log) message
  pub front : List Sent
  pub those : List Sent
  pub back : List Sent
  pub within : message.words ≡ front ++ (those ++ back)
  pub as_sent : map heard_wire s.words ≡ map wire_of those
  pub from_first : (nonce : List ℕ) → s.mark ≡ begin nonce → (nonce ≡ message.nonce) × (front ≡ [])

-- Each word of a stretch, beside the word of the message that it is: where it was handed out, the reading is the plaintext that the sealer
-- was given for that same word.
abbrev pub TrueReadings : List Heard → List Sent → Type 0
TrueReadings [] [] = Unit {0}
TrueReadings [] (y ∷ ys) = ⊥
TrueReadings (x ∷ xs) [] = ⊥
TrueReadings (x ∷ xs) (y ∷ ys) = ((p : ℕ) → x.answer ≡ Reading p → p ≡ y.plain) × TrueReadings xs ys

-- A false reading counts 1: it was handed out, and is not the plaintext of that same word.
abbrev pub false_reading : Answer → ℕ → ℕ
false_reading (Reading q) p = cond (q == p) 0 1
false_reading (Withheld row) p = 0

-- How many readings of some words are false, beside the words of the message that they are.
abbrev pub false_readings : List Heard → List Sent → ℕ
false_readings [] ys = 0
false_readings (x ∷ xs) [] = 0
false_readings (x ∷ xs) (y ∷ ys) = false_reading x.answer y.plain + false_readings xs ys

-- One stretch placed in a message, or left out: an assignment has one of these for each stretch of the run.
abbrev pub Assigned : List Entry → Stretch → Type 0
Assigned log s = Option (Placed log s)

-- The false readings of one stretch; of one that is left out none are counted.
abbrev pub false_in : (log : List Entry) (s : Stretch) → Assigned log s → ℕ
false_in log s None = 0
false_in log s (Some p) = false_readings s.words p.those

-- The false readings of all stretches that are placed, together.
abbrev pub false_in_all : (log : List Entry) (ss : List Stretch) → Every (Assigned log) ss → ℕ
false_in_all log [] a = 0
false_in_all log (s ∷ ss) a = false_in log s a.0 + false_in_all log ss a.1

-- WITHHELD WORDS. A word that came sealed.
abbrev pub SealedHeard : Heard → Type 0
SealedHeard w = SealedWord (heard_wire w)

-- Seventeen sealed words in a row, somewhere among some words.
abbrev pub RowOf17 : List Heard → Type 0
RowOf17 ws = (a : List Heard) × (b : List Heard) × (c : List Heard) × (ws ≡ a ++ (b ++ c)) × (length b ≡ catches_up) × Every SealedHeard b

-- The latest n of some words are sealed, and the one before them, if there is one, is not.
pub record RowIs (n : ℕ) (ws : List Heard) : Type 0 where
  pub before : List Heard
  pub those : List Heard
  pub parts : ws ≡ before ++ those
  pub long : length those ≡ n
  pub sealed : Every SealedHeard those
  pub no_more : (c : List Heard) (y : Heard) → before ≡ c ++ y ∷ [] → ¬ SealedHeard y

-- After the words front of its stretch a word is withheld, and the answer carries the row with which these and the word itself end.
abbrev pub IsWithheld : List Heard → Heard → Type 0
IsWithheld front w = (n : ℕ) × (w.answer ≡ Withheld n) × RowIs n (front ++ w ∷ [])

-- A word is handed out, with some reading.
abbrev pub HandedOut : Heard → Type 0
HandedOut w = (p : ℕ) × (w.answer ≡ Reading p)

-- A stretch that came after another mark than a begin.
abbrev pub AfterOther : Stretch → Type 0
AfterOther s = (nonce : List ℕ) → s.mark ≢ begin nonce

-- Which words of a stretch are withheld: after a begin none; after any other mark a word is withheld exactly where no seventeen sealed words
-- in a row stand before it in the stretch, so the seventeenth is the last.
pub record Withholds (s : Stretch) : Type 0 where
  pub after_begin : (nonce : List ℕ) → s.mark ≡ begin nonce → Every HandedOut s.words
  pub after_other : AfterOther s → (front : List Heard) (w : Heard) (back : List Heard) →
      s.words ≡ front ++ w ∷ back → (IsWithheld front w × ¬ RowOf17 front) ⊎ (HandedOut w × RowOf17 front)

-- Where a receiver stands after the words of a stretch: whole after a begin. After any other mark it is caught where seventeen sealed words in
-- a row stand among them, and else lost with their row.
pub record StandsAfter (s : Stretch) (reception : Reception) : Type 0 where
  pub after_begin : (nonce : List ℕ) → s.mark ≡ begin nonce → reception ≡ Whole
  pub after_other : AfterOther s →
      ((reception ≡ Caught) × RowOf17 s.words) ⊎ ((n : ℕ) × (reception ≡ Lost n) × RowIs n s.words × ¬ RowOf17 s.words)

-- This holds of the latest stretch of a log.
abbrev pub OfLatest : List Entry → (Stretch → Type 0) → Type 0
OfLatest log Holds = (s : Stretch) × (others : List Stretch) × (stretches log ≡ s ∷ others) × Holds s

-- BROKEN MESSAGES. A verdict is "broken" exactly where the stretch that it ends, the latest of the log before it, came after another mark than
-- a begin.
abbrev pub BrokenExactly : List Entry → Type 0
BrokenExactly log = (before later : List Entry) (tag : List ℕ) (verdict : Verdict) → log ≡ before ++ OfReceiver (receiver.Finished tag verdict) ∷ later →
    OfLatest before (λ s. (verdict ≡ Broken) ↔ AfterOther s)

-- ALTERED WORDS. Of the words sent and the words received exactly one differs, all masks are as sent, none is missing or added, and all
-- later words are sealed.
pub record OneAltered (sent heard : List MaskedWord) : Type 0 where
  pub front : List MaskedWord
  pub mask : ℕ
  pub was : ℕ
  pub became : ℕ
  pub later : List MaskedWord
  pub sent_is : sent ≡ front ++ record { mask = mask; text = was } ∷ later
  pub heard_is : heard ≡ front ++ record { mask = mask; text = became } ∷ later
  pub altered : was ≢ became
  pub later_sealed : Every SealedWord later

-- Both ends finished a message: what the log has before the sealer's finish and before the receiver's, the message, and the stretch that the
-- receiver ended. The message is unbroken: that stretch came after a begin with the message's nonce, so no break, no other begin and no other
-- finish came between.
pub record Unbroken (log : List Entry) : Type 0 where
  pub sealer_before : List Entry
  pub sealer_later : List Entry
  pub sent_tag : List ℕ
  pub sealer_finished : log ≡ sealer_before ++ OfSealer (sealer.Finished sent_tag) ∷ sealer_later
  pub message : Message
  pub earlier : List Message
  pub message_is : messages sealer_before ≡ message ∷ earlier
  pub receiver_before : List Entry
  pub receiver_later : List Entry
  pub heard_tag : List ℕ
  pub verdict : Verdict
  pub receiver_finished : log ≡ receiver_before ++ OfReceiver (receiver.Finished heard_tag verdict) ∷ receiver_later
  pub stretch : Stretch
  pub others : List Stretch
  pub stretch_is : stretches receiver_before ≡ stretch ∷ others
  pub begun_with : stretch.mark ≡ begin message.nonce

-- THE PUBLISHED CIPHER. The wire words of a message are those that the published cipher gives for its nonce, masks and plaintexts.
abbrev pub Published : (ℕ → ℕ) → (ℕ → ℕ) → Message → Type 0
Published f A m = map wire_of m.words ≡ sealed_message f A m.nonce (map plain_of m.words)

-- A tag that the sealer drew is the published cipher's for the message that it finished: the latest one that was begun before.
abbrev pub PublishedTag : (ℕ → ℕ) → (ℕ → ℕ) → List Entry → List ℕ → Type 0
PublishedTag f A before tag =
    (m : Message) × (earlier : List Message) × (messages before ≡ m ∷ earlier) × (tag ≡ message_tag f A m.nonce (map plain_of m.words))

-- A stretch carries a tag if it came after a begin, and the tag is the published cipher's for that nonce and the words as they were received.
abbrev pub Carries : (ℕ → ℕ) → (ℕ → ℕ) → Stretch → List ℕ → Type 0
Carries f A s tag =
    (nonce : List ℕ) × (s.mark ≡ begin nonce) × (tag ≡ message_tag f A nonce (opened_message f A nonce (map heard_wire s.words)))

-- The verdict on a tag, by the stretch that it ends: "agrees" exactly where the stretch carries the tag, "broken" exactly where it came after
-- another mark than a begin, and else "differs".
pub record Judged (f A : ℕ → ℕ) (s : Stretch) (tag : List ℕ) (verdict : Verdict) : Type 0 where
  pub agrees : (verdict ≡ Agrees) ↔ Carries f A s tag
  pub broken : (verdict ≡ Broken) ↔ AfterOther s

-- The law, for a log and the registers that the two ends have at its end.
pub record Law (f A : ℕ → ℕ) (log : List Entry) (at_sealer at_receiver : BothRegisters) : Type 0 where
  -- 1. The registers of each end are those that its words since its latest reset define.
  pub of_sealer : at_sealer ≡ sealer_registers f A log
  pub of_receiver : at_receiver ≡ receiver_registers f A log
  -- 2. At any moment of the sealer and at any of the receiver: where the latest seventeen words since the latest reset were sealed at both
  -- ends, the cipher registers are equal exactly when those seventeen wire words are equal in order.
  pub in_step : (sent heard : List Entry) → Beginning log sent → Beginning log heard →
      SeventeenSealed (sent_wires sent) → SeventeenSealed (heard_wires heard) →
      ((sealer_registers f A sent).r ≡ (receiver_registers f A heard).r) ↔
      (wires (latest_17 (sent_wires sent)) ≡ wires (latest_17 (heard_wires heard)))
  -- 3. In a stretch that is placed in a message every reading is true; and however the stretches of the run are placed, or left out, the
  -- number of false readings is zero.
  pub true_readings : (s : Stretch) → Contains (stretches log) s → (p : Placed log s) → TrueReadings s.words p.those
  pub no_false_reading : (a : Every (Assigned log) (stretches log)) → false_in_all log (stretches log) a ≡ 0
  -- 4. Exactly these words are withheld, and each answer that withholds carries its row. This is promised alone, with no premise, too.
  pub withheld : Every Withholds (stretches log)
  -- 5. One altered word shows in the check registers just before closing, and in the registers that the tags are drawn from, however many words
  -- follow it.
  pub altered_check : (u : Unbroken log) → OneAltered (map wire_of u.message.words) (map heard_wire u.stretch.words) →
      (sealer_registers f A u.sealer_before).c ≢ (receiver_registers f A u.receiver_before).c
  pub altered_tag : (u : Unbroken log) → OneAltered (map wire_of u.message.words) (map heard_wire u.stretch.words) →
      drawn_from f (sealer_registers f A u.sealer_before) ≢ drawn_from f (receiver_registers f A u.receiver_before)
  -- 6. Wire words and tags are those of the published cipher, and each reading is what it makes of the wire word after the words received
  -- before.
  pub published : Every (Published f A) (messages log)
  pub published_tags : (before later : List Entry) (tag : List ℕ) → log ≡ before ++ OfSealer (sealer.Finished tag) ∷ later → PublishedTag f A before tag
  pub published_readings : (before later : List Entry) (mask wire p : ℕ) →
      log ≡ before ++ OfReceiver (receiver.Received mask wire (Reading p)) ∷ later → p ≡ plain_word f (receiver_registers f A before) mask wire
  -- A message that is received as it was sent, after a begin with its nonce, is read as it was given; where both ends finish it, the tag that
  -- agrees is the one that was sent. Each verdict is that of the tag and the stretch that it ends.
  pub comes_back : (s : Stretch) → Contains (stretches log) s → (m : Message) → Contains (messages log) m → s.mark ≡ begin m.nonce →
      map heard_wire s.words ≡ map wire_of m.words → map (λ w. w.answer) s.words ≡ map (λ w. Reading w.plain) m.words
  pub tag_agrees : (u : Unbroken log) → map heard_wire u.stretch.words ≡ map wire_of u.message.words →
      (u.verdict ≡ Agrees) ↔ (u.heard_tag ≡ u.sent_tag)
  pub verdicts : (before later : List Entry) (tag : List ℕ) (verdict : Verdict) → log ≡ before ++ OfReceiver (receiver.Finished tag verdict) ∷ later →
      OfLatest before (λ s. Judged f A s tag verdict)
