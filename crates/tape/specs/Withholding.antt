-- Which words of a tape are withheld, in the words of the link: a stretch is the words after a mark, up to the next.
use Rattle.std.specs.Prelude.{ℕ, List, [], ◌∷◌}
use Rattle.std.specs.List.{AllByRecursion as Every}
use Rattle.link.specs.Log.{Stretch, begin, break, finish, heard_too, marked, new}
use Rattle.link.specs.Law.{Withholds}
use Rattle.sss.specs.Cipher.{open_mask, sealed_mask}
use Rattle.tape.specs.declared.command.Command.{Command}
use Rattle.tape.specs.declared.command.Command.TheVariants.{Nonce, Sealed, Open, Part, Break, Tag}
use Rattle.tape.specs.declared.line.Line.{Line}
use Rattle.tape.specs.declared.line.Line.TheVariants as line

-- A word with the answer of its line, as the latest of the present stretch. A line that is no word's notes nothing, and no word has one.
abbrev pub word_noted : (mask wire : ℕ) → Line → List Stretch → List Stretch
word_noted mask wire (line.Nonce place) ss = ss
word_noted mask wire (line.Word place answer) ss = heard_too (record { mask = mask; wire = wire; answer = answer }) ss
word_noted mask wire (line.Break place) ss = ss
word_noted mask wire (line.Tag place verdict) ss = ss
word_noted mask wire (line.End length) ss = ss
word_noted mask wire (line.Refused fault) ss = ss

-- The stretches after one more command with its line, the latest first: a nonce, a break and a tag are marks.
abbrev pub command_noted : Command → Line → List Stretch → List Stretch
command_noted (Nonce nonce) l ss = marked (begin nonce) ss
command_noted (Sealed wire) l ss = word_noted sealed_mask wire l ss
command_noted (Open wire) l ss = word_noted open_mask wire l ss
command_noted (Part mask wire) l ss = word_noted mask wire l ss
command_noted Break l ss = marked break ss
command_noted (Tag words) l ss = marked finish ss

-- The stretches after these commands, each with its line.
abbrev pub commands_noted : List Command → List Line → List Stretch → List Stretch
commands_noted [] lines ss = ss
commands_noted (c ∷ cs) [] ss = ss
commands_noted (c ∷ cs) (l ∷ lines) ss = commands_noted cs lines (command_noted c l ss)

-- Exactly the words are withheld that must be, each with its row. The first mark is the receiver's being new.
abbrev pub WithheldOnTape : List Command → List Line → Type 0
WithheldOnTape commands lines = Every Withholds (commands_noted commands lines (marked new []))
