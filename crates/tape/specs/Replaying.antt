-- What a receiver makes of a tape, line by line.
use Rattle.std.specs.Prelude.{◌≡◌, ℕ, ◌+◌, List, [], ◌∷◌, ◌++◌, length, true, false, cond, ◌⊎◌, Option, None, Some, Ok}
use Rattle.sss.specs.Cipher.{open_mask, sealed_mask}
use Rattle.sss.specs.declared.keyed.KeyedFunction.{Ghosts as Keyed}
use Rattle.sss.specs.declared.coefficient.Coefficient.{Ghosts as Coefficient}
use Rattle.std.specs.Iterator.{Drains}
use Rattle.sss.specs.Asked.{function_of}
use Rattle.link.specs.Engines.{Worked}
use Rattle.link.specs.Ends.{ReceiverState, break_heard, nonce_heard, receiving, tag_heard, word_heard}
use Rattle.link.specs.Receiving.{Given, Released, decided}
use Rattle.link.specs.declared.receiver.Receiver.{Receiver}
use Rattle.link.specs.declared.reception.Answer.{Answer}
use Rattle.link.specs.declared.reception.Event.TheVariants as event
use Rattle.link.specs.declared.reception.Reception.{Reception}
use Rattle.link.specs.declared.reception.Reception.TheVariants.{Lost, Whole}
use Rattle.link.specs.declared.reception.Verdict.{Verdict}
use Rattle.sss.specs.declared.Fault.{Fault}
use Rattle.tape.specs.Items.{command_of, place_of}
use Rattle.tape.specs.Reading.{ReadsNext, left}
use Rattle.tape.specs.declared.replay.Replay.{Replay}
use Rattle.tape.specs.declared.item.Item.{Item}
use Rattle.tape.specs.Format.{Ending, Ends, Reads, bytes_of, fault_of, tape_of}
use Rattle.tape.specs.declared.command.Command.{Command}
use Rattle.tape.specs.declared.command.Command.TheVariants.{Nonce, Sealed, Open, Part, Break, Tag}
use Rattle.tape.specs.declared.line.Line.{Line}
use Rattle.tape.specs.declared.line.Line.TheVariants as line

module _ (f A : ℕ → ℕ) where
  -- A word at a place: where the receiver then stands, and the line.
  abbrev pub word_line : ReceiverState → (place mask wire : ℕ) → ReceiverState × Line
  word_line s place mask wire = let h = word_heard f A s mask wire in (h.0, line.Word place h.1)

  -- A command at a place: where the receiver then stands, and the line.
  abbrev pub heard_line : ReceiverState → ℕ → Command → ReceiverState × Line
  heard_line s place (Nonce nonce) = (nonce_heard f A nonce, line.Nonce place)
  heard_line s place (Sealed wire) = word_line s place sealed_mask wire
  heard_line s place (Open wire) = word_line s place open_mask wire
  heard_line s place (Part mask wire) = word_line s place mask wire
  heard_line s place Break = (break_heard s, line.Break place)
  heard_line s place (Tag words) = let h = tag_heard f s words in (h.0, line.Tag place h.1)

  -- The lines of commands that stand one after another from a place on.
  abbrev pub heard_lines : ReceiverState → ℕ → List Command → List Line
  heard_lines s place [] = []
  heard_lines s place (c ∷ cs) = let h = heard_line s place c in h.1 ∷ heard_lines h.0 (place + length (bytes_of c)) cs

-- The last line, of a tape that reads no further at this place: the refusal, or its end, where the place is its length.
abbrev pub ending_line : ℕ → Option Fault → Line
ending_line place None = line.End place
ending_line place (Some fault) = line.Refused fault

abbrev pub last_line : ℕ → Ending → Line
last_line place e = ending_line place (fault_of place e)

-- THE LINES of a tape that begins at this place, by a receiver that stands so: a line for each command that is read, and the last line.
pub record TapeLines (f A : ℕ → ℕ) (s : ReceiverState) (place : ℕ) (tape : List ℕ) (lines : List Line) : Type 0 where
  pub commands : List Command
  pub ending : Ending
  pub reads : Reads tape commands ending
  pub are : lines ≡ heard_lines f A s place commands ++ last_line (place + length (tape_of commands)) ending ∷ []

-- What the line of a command says whatever the keyed function answers: its place, whether a word is handed out, the row of one that is not, and
-- whether a verdict is broken; and where the receiver then stands.
abbrev pub SaysWord : Reception → (place mask : ℕ) → Line → Reception → Type 0
SaysWord s place mask l s' =
    (answer : Answer) × (l ≡ line.Word place answer) × Released (decided s (event.Word mask)).1 answer × (s' ≡ (decided s (event.Word mask)).0)

abbrev pub Says : Reception → ℕ → Command → Line → Reception → Type 0
Says s place (Nonce nonce) l s' = (l ≡ line.Nonce place) × (s' ≡ Whole)
Says s place (Sealed wire) l s' = SaysWord s place sealed_mask l s'
Says s place (Open wire) l s' = SaysWord s place open_mask l s'
Says s place (Part mask wire) l s' = SaysWord s place mask l s'
Says s place Break l s' = (l ≡ line.Break place) × (s' ≡ Lost 0)
Says s place (Tag words) l s' =
    (verdict : Verdict) × (l ≡ line.Tag place verdict) × Given (decided s event.Finish).1 verdict × (s' ≡ Lost 0)

-- A receiver takes an item, and its line is given. Where its function is sound, receiver and line are those of heard_line, by the maps on words that
-- its function and its coefficient mean; in any case the line says what Says tells.
pub record HearsItem {K C : Type 0} (F : Keyed K) (L : Coefficient C) (before : Receiver K C) (item : Item) (line : Line) (after : Receiver K C) : Type 0 where
  pub worked : Worked F L before.engine after.engine (λ f A. (receiving after, line) ≡ heard_line f A (receiving before) (place_of item) (command_of item))
  pub says : Says before.footing.reception (place_of item) (command_of item) line after.footing.reception

-- The next command of a tape is taken, and its line is given.
pub record TakesCommand {K C : Type 0} (F : Keyed K) (L : Coefficient C) (before : Replay K C) (line : Line) (after : Replay K C) : Type 0 where
  pub item : Item
  pub reads : ReadsNext before.reader (Ok (Some item)) after.reader
  pub hears : HearsItem F L before.receiver item line after.receiver
  pub over : after.over ≡ false

-- The tape reads no further: the last line is given, and no more is to come. Reader and receiver are as they were.
pub record GivesLastLine {K C : Type 0} (before : Replay K C) (line : Line) (after : Replay K C) : Type 0 where
  pub ending : Ending
  pub ends : Ends (left before.reader) ending
  pub is : line ≡ last_line before.reader.place ending
  pub over : after.over ≡ true
  pub reader : after.reader ≡ before.reader
  pub receiver : after.receiver ≡ before.receiver

-- The next line of a replay, and what it leaves; once it is over it gives no more, and nothing changes.
abbrev pub TakesLine : {K C : Type 0} → Keyed K → Coefficient C → Replay K C → Option Line → Replay K C → Type 0
TakesLine F L before None after = (before.over ≡ true) × (after ≡ before)
TakesLine F L before (Some line) after = (before.over ≡ false) × (TakesCommand F L before line after ⊎ GivesLastLine before line after)

-- At most so many lines are still to come: one for each byte that is left, and the last.
abbrev pub lines_left : {K C : Type 0} → Replay K C → ℕ
lines_left r = cond r.over 0 (length (left r.reader) + 1)

-- THE LINES OF A REPLAY. Where its function is sound, all the lines that it gives, until it gives none, are the listing of its tape by its receiver.
abbrev pub GivesLines : {K C : Type 0} → Keyed K → Coefficient C → Replay K C → Type 0
GivesLines F L r =
    F.sound r.receiver.engine.function → (lines : List Line) → Drains (TakesLine F L) r lines →
    TapeLines (function_of F r.receiver.engine.function) (L.image r.receiver.engine.coefficient) (receiving r.receiver) r.reader.place (left r.reader) lines
