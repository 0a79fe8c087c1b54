-- Two commands that are written, and how they read: an instance of what is promised of a writer and of a reader.
use Rattle.std.specs.Prelude.{◌≡◌, ℕ, List, [], ◌∷◌, filter_map, map}
use Rattle.std.specs.List.{AllZip}
use Rattle.link.specs.OneEnd.{receiver_call}
use Rattle.link.specs.declared.call.Call.{Call}
use Rattle.tape.specs.Format.{at_end, places_from}
use Rattle.tape.specs.Items.{command_of, place_of}
use Rattle.tape.specs.Reading.{Answers}
use Rattle.tape.specs.Runs.{IsCall}
use Rattle.tape.specs.Writing.{WritesAll, written}
use Rattle.tape.specs.declared.command.Command.{Command}
use Rattle.tape.specs.declared.command.Command.TheVariants.{Break, Sealed}
use Rattle.tape.specs.declared.item.Item.{Item}
use Rattle.tape.specs.declared.reader.Reader.{Reader}
use Rattle.tape.specs.declared.writer.Writer.{Writer}

-- A break and a sealed word.
abbrev pub the_commands : List Command
the_commands = Break ∷ Sealed 0x1234 ∷ []

-- A new writer wrote both, and a reader of what was written answers them, each at its place, and then that its tape is at its end. Calls of a run
-- of the link take them.
pub record ReadBack (bytes : List ℕ) : Type 0 where
  pub new : Writer
  pub after : Writer
  pub writes : WritesAll new the_commands after
  pub reader : Reader
  pub reads_it : reader.tape.now ≡ written after
  pub items : List Item
  pub answers : Answers reader items at_end
  pub commands : map command_of items ≡ the_commands
  pub places : map place_of items ≡ places_from 0 the_commands
  pub whole : written after ≡ bytes
  pub calls : List Call
  pub are_calls : AllZip IsCall the_commands (filter_map receiver_call calls)
