-- What a question to a reader answers and leaves.
use Rattle.std.specs.Prelude.{◌≡◌, ℕ, ◌+◌, List, [], ◌∷◌, map, drop, length, Option, Some, None, Result, Ok, Err}
use Rattle.sss.specs.declared.Fault.{Fault}
use Rattle.tape.specs.Format.{Ending, Ends, Reads, at_end, fault_of, places_from}
use Rattle.tape.specs.Items.{IsNext, Refuses, command_of, part_of, place_of}
use Rattle.tape.specs.declared.item.Item.{Item}
use Rattle.tape.specs.declared.reader.Reader.{Reader}

-- What is left of the tape.
abbrev pub left : Reader → List ℕ
left r = drop r.place r.tape.now

-- The next item is read, and the reader is behind it; or nothing is read, and the reader is as it was, so that it answers the same again.
abbrev pub ReadsNext : Reader → Result (Option Item) Fault → Reader → Type 0
ReadsNext before (Ok (Some item)) after =
    IsNext before.place (left before) item (left after) × (after.place ≡ before.place + length (part_of item)) × (after.tape ≡ before.tape)
ReadsNext before (Ok None) after = Ends (left before) at_end × (after ≡ before)
ReadsNext before (Err fault) after = Refuses before.place (left before) fault × (after ≡ before)

-- What a reader answers where it gives no item: that nothing is left, or a refusal.
abbrev pub no_item : Option Fault → Result (Option Item) Fault
no_item None = Ok None
no_item (Some fault) = Err fault

-- A reader is asked again and again: it answers these items, and then that its tape ends so.
abbrev pub Answers : Reader → List Item → Ending → Type 0
Answers r [] e = (u : Reader) × ReadsNext r (no_item (fault_of r.place e)) u
Answers r (i ∷ items) e = (u : Reader) × ReadsNext r (Ok (Some i)) u × Answers u items e

-- THE READER AND THE TAPE.
pub record ReadsTape (r : Reader) : Type 0 where
  -- A reader comes to an end: there are items that it answers, and then an ending.
  pub items : List Item
  pub ending : Ending
  pub answers : Answers r items ending
  -- And whatever it answers is how its tape reads: the items are the commands, each at its place, and then comes the ending.
  pub reads : (items : List Item) (e : Ending) → Answers r items e →
      Reads (left r) (map command_of items) e × (map place_of items ≡ places_from r.place (map command_of items))
