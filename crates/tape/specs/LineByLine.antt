-- What holds of every listing, in the words of the tape.
use Rattle.std.specs.Prelude.{◌≡◌, ℕ, ◌<◌, List, [], ◌∷◌, ◌++◌, length}
use Rattle.std.specs.List.{AllZip, zip}
use Rattle.link.specs.declared.reception.Answer.{Answer}
use Rattle.link.specs.declared.reception.Verdict.{Verdict}
use Rattle.tape.specs.Format.{Ending, places_from, tape_of}
use Rattle.tape.specs.Replaying.{last_line}
use Rattle.tape.specs.Withholding.{WithheldOnTape}
use Rattle.tape.specs.declared.command.Command.{Command}
use Rattle.tape.specs.declared.command.Command.TheVariants as command
use Rattle.tape.specs.declared.line.Line.{Line}
use Rattle.tape.specs.declared.line.Line.TheVariants.{Nonce, Word, Break, Tag}

-- The line of a command at a place: that of a word says a reading or that it is withheld, that of a tag a verdict.
abbrev pub LineFor : ℕ → Command → Line → Type 0
LineFor place (command.Nonce nonce) line = line ≡ Nonce place
LineFor place (command.Sealed wire) line = (answer : Answer) × (line ≡ Word place answer)
LineFor place (command.Open wire) line = (answer : Answer) × (line ≡ Word place answer)
LineFor place (command.Part mask wire) line = (answer : Answer) × (line ≡ Word place answer)
LineFor place command.Break line = line ≡ Break place
LineFor place (command.Tag words) line = (verdict : Verdict) × (line ≡ Tag place verdict)

-- Each number is greater than the one before.
abbrev pub Rises : List ℕ → Type 0
Rises [] = Unit {0}
Rises (x ∷ []) = Unit {0}
Rises (x ∷ y ∷ xs) = (x < y) × Rises (y ∷ xs)

-- The lines of a tape with these commands and this ending.
pub record LineByLine (commands : List Command) (ending : Ending) (lines : List Line) : Type 0 where
  -- Each command has its line, in order and at its place, so each word has exactly one; and there are no more but the last, so that nothing stands
  -- behind an end or a refusal.
  pub front : List Line
  pub each : AllZip (λ x line. LineFor x.0 x.1 line) (zip (places_from 0 commands) commands) front
  pub last : lines ≡ front ++ last_line (length (tape_of commands)) ending ∷ []
  -- Places rise: no two commands are at one place.
  pub rises : Rises (places_from 0 commands)
  -- Exactly those words are withheld that must be, each with its row.
  pub withheld : WithheldOnTape commands lines
