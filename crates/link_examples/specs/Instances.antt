-- Instances of the law of a loss: for each of its premises a history that meets it, with what the law then says of that history. f is the
-- keyed function, A the coefficient.
use Rattle.std.specs.Prelude.{◌≡◌, ℕ, ◌+◌, ◌≢◌, List, [], ◌∷◌, ◌++◌, map, length, Contains, Some, None}
use Rattle.std.specs.List.{AllByRecursion as Every}
use Rattle.sss.specs.Cipher.{drawn_from}
use Rattle.link.specs.Log.{Heard, Stretch, heard_wire, messages, receiver_registers, sealer_registers, stretches, wire_of}
use Rattle.link.specs.Law.{AfterOther, Assigned, Beginning, HandedOut, IsWithheld, OfLatest, OneAltered, RowOf17, SeventeenSealed, Unbroken, false_in_all, heard_wires, latest_17, sent_wires, wires}
use Rattle.link.specs.declared.reception.Answer.TheVariants.{Reading}
use Rattle.link.specs.declared.reception.Verdict.TheVariants.{Agrees, Broken, Differs}
use Rattle.link.specs.declared.call.Entry.{Entry}
use Rattle.link.specs.declared.call.Entry.TheVariants.{OfReceiver}
use Rattle.link.specs.declared.call.ReceiverEntry.TheVariants as receiver

-- The words of a stretch that is placed; of one that is left out none are counted.
abbrev pub words_in : (log : List Entry) (s : Stretch) → Assigned log s → ℕ
words_in log s None = 0
words_in log s (Some p) = length s.words

-- How many received words an assignment places.
abbrev pub words_placed : (log : List Entry) (ss : List Stretch) → Every (Assigned log) ss → ℕ
words_placed log [] a = 0
words_placed log (s ∷ ss) a = words_in log s a.0 + words_placed log ss a.1

-- TRUE READINGS. An assignment places this many words, and no reading is false.
pub record NoneFalse (log : List Entry) (words : ℕ) : Type 0 where
  pub assignment : Every (Assigned log) (stretches log)
  pub placed : words_placed log (stretches log) assignment ≡ words
  pub none_false : false_in_all log (stretches log) assignment ≡ 0

-- SEVENTEEN SEALED WORDS. A moment of the sealer and one of the receiver; at each the latest seventeen words since the reset are sealed.
pub record Moments (log : List Entry) : Type 0 where
  pub sent : List Entry
  pub heard : List Entry
  pub sent_then : Beginning log sent
  pub heard_then : Beginning log heard
  pub sent_sealed : SeventeenSealed (sent_wires sent)
  pub heard_sealed : SeventeenSealed (heard_wires heard)

-- They are the same wire words, and the cipher registers are equal.
pub record InStep (f A : ℕ → ℕ) (log : List Entry) : Type 0 where
  pub at : Moments log
  pub same_words : wires (latest_17 (sent_wires at.sent)) ≡ wires (latest_17 (heard_wires at.heard))
  pub same_register : (sealer_registers f A at.sent).r ≡ (receiver_registers f A at.heard).r

-- They are other wire words, and the cipher registers differ.
pub record OutOfStep (f A : ℕ → ℕ) (log : List Entry) : Type 0 where
  pub at : Moments log
  pub other_words : wires (latest_17 (sent_wires at.sent)) ≢ wires (latest_17 (heard_wires at.heard))
  pub other_register : (sealer_registers f A at.sent).r ≢ (receiver_registers f A at.heard).r

-- WITHHELD WORDS. After another mark than a begin sixteen words are one short of a row: the seventeenth is withheld, and with it the row is
-- seventeen, so the eighteenth is handed out.
pub record CaughtAgain (log : List Entry) : Type 0 where
  pub stretch : Stretch
  pub of_receiver : Contains (stretches log) stretch
  pub after_other : AfterOther stretch
  pub sixteen : List Heard
  pub seventeenth : Heard
  pub eighteenth : Heard
  pub back : List Heard
  pub parts : stretch.words ≡ sixteen ++ seventeenth ∷ eighteenth ∷ back
  pub one_short : length sixteen ≡ 16
  pub withheld : IsWithheld sixteen seventeenth
  pub row : RowOf17 (sixteen ++ seventeenth ∷ [])
  pub handed_out : HandedOut eighteenth

-- ALTERED WORDS. Of a message that both ends finished one word was altered and all later ones are sealed; the check registers differ, and so
-- do the registers that the tags are drawn from.
pub record AlteredWord (f A : ℕ → ℕ) (log : List Entry) : Type 0 where
  pub unbroken : Unbroken log
  pub one_altered : OneAltered (map wire_of unbroken.message.words) (map heard_wire unbroken.stretch.words)
  pub differs : unbroken.verdict ≡ Differs
  pub other_check : (sealer_registers f A unbroken.sealer_before).c ≢ (receiver_registers f A unbroken.receiver_before).c
  pub other_drawn : drawn_from f (sealer_registers f A unbroken.sealer_before) ≢ drawn_from f (receiver_registers f A unbroken.receiver_before)

-- AS SENT. A message of some words that both ends finished came as it was sent, with its tag: it is read as it was given, and the tag agrees.
pub record CameAsSent (log : List Entry) (words : ℕ) : Type 0 where
  pub unbroken : Unbroken log
  pub long : length unbroken.message.words ≡ words
  pub as_sent : map heard_wire unbroken.stretch.words ≡ map wire_of unbroken.message.words
  pub its_tag : unbroken.heard_tag ≡ unbroken.sent_tag
  pub as_given : map (λ w. w.answer) unbroken.stretch.words ≡ map (λ w. Reading w.plain) unbroken.message.words
  pub agrees : unbroken.verdict ≡ Agrees

-- BROKEN MESSAGES. A tag has the verdict "broken", and ends a stretch that came after another mark than a begin.
pub record BrokenOff (log : List Entry) : Type 0 where
  pub before : List Entry
  pub later : List Entry
  pub tag : List ℕ
  pub verdict : log ≡ before ++ OfReceiver (receiver.Finished tag Broken) ∷ later
  pub after_other : OfLatest before AfterOther

-- ONE HISTORY THAT MEETS EACH PREMISE: of four messages that were sealed, and nine stretches that were received, with 22 words placed.
pub record MeetsEach (f A : ℕ → ℕ) (log : List Entry) : Type 0 where
  pub sealed : length (messages log) ≡ 4
  pub received : length (stretches log) ≡ 9
  pub none_false : NoneFalse log 22
  pub in_step : InStep f A log
  pub out_of_step : OutOfStep f A log
  pub caught_again : CaughtAgain log
  pub altered : AlteredWord f A log
  pub came_as_sent : CameAsSent log 2
  pub broken_off : BrokenOff log
