-- What a writer writes, and how it reads.
use Rattle.std.specs.Prelude.{◌≡◌, ℕ, ◌+◌, ◌<◌, ◌≤◌, List, [], ◌∷◌, ◌++◌, length, map, take, drop, Result, Ok, Err}
use Rattle.sss.specs.declared.Fault.{Fault}
use Rattle.sss.specs.declared.Fault.TheVariants.{NoRoom}
use Rattle.tape.specs.Format.{Ending, Fits, at_end, bytes_of, places_from}
use Rattle.tape.specs.Items.{command_of, place_of}
use Rattle.tape.specs.Reading.{Answers}
use Rattle.tape.specs.declared.command.Command.{Command}
use Rattle.tape.specs.declared.item.Item.{Item}
use Rattle.tape.specs.declared.reader.Reader.{Reader}
use Rattle.tape.specs.declared.writer.Writer.{Writer}

-- The tape so far, and what stands in the buffer past it.
abbrev pub written : Writer → List ℕ
written w = take w.place w.tape.now

abbrev pub beyond : Writer → List ℕ
beyond w = drop w.place w.tape.now

-- There is room for the command, its bytes follow what is written, and what stands past them is as it was.
pub record IsWritten (before : Writer) (command : Command) (after : Writer) : Type 0 where
  pub fits : Fits command
  pub room : length (bytes_of command) ≤ length (beyond before)
  pub tape : written after ≡ written before ++ bytes_of command
  pub rest : beyond after ≡ drop (length (bytes_of command)) (beyond before)
  pub place : after.place ≡ before.place + length (bytes_of command)

-- A command is written where there is room for it; else it is refused, and the buffer and the place in it are as they were.
abbrev pub Writes : Writer → Command → Result (Unit {0}) Fault → Writer → Type 0
Writes before command (Ok u) after = IsWritten before command after
Writes before command (Err e) after =
    (length (beyond before) < length (bytes_of command)) × (e ≡ NoRoom before.place) × (after.tape.now ≡ before.tape.now) × (after.place ≡ before.place)

-- Commands are written one after another; a refused one in between changes nothing that this speaks of.
abbrev pub WritesAll : Writer → List Command → Writer → Type 0
WritesAll before [] after = after ≡ before
WritesAll before (c ∷ cs) after = (then : Writer) × IsWritten before c then × WritesAll then cs after

-- WRITING AND READING, of a writer with nothing written yet.
pub record WritesTapes (w : Writer) : Type 0 where
  -- What was written reads as the commands that were written: a reader of it gives them back as items, each at its place, and is then at the end.
  pub back : (commands : List Command) (after : Writer) → WritesAll w commands after →
      (r : Reader) → r.tape.now ≡ written after → r.place ≡ 0 → (items : List Item) (e : Ending) → Answers r items e →
      (map command_of items ≡ commands) × (map place_of items ≡ places_from 0 commands) × (e ≡ at_end)
  -- What was read to its end, written again, is the tape.
  pub again : (r : Reader) → r.place ≡ 0 → (items : List Item) → Answers r items at_end →
      (after : Writer) → WritesAll w (map command_of items) after → written after ≡ r.tape.now
