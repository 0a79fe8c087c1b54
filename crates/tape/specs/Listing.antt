-- The listing of an input.
use Rattle.std.specs.Prelude.{◌≡◌, ℕ, ◌<◌, ◌≤◌, List, [], ◌∷◌, ◌++◌, length}
use Rattle.sss.specs.Cipher.{keyed, key_table, product}
use Rattle.sss.specs.declared.Fault.TheVariants.{Key, TooLong}
use Rattle.sss.specs.declared.keyed.KeyedFunction.{Ghosts as Keyed}
use Rattle.sss.specs.declared.coefficient.Coefficient.{Ghosts as Coefficient}
use Rattle.std.specs.Iterator.{Drains}
use Rattle.link.specs.Ends.{new_ends}
use Rattle.tape.specs.Format.{Ending, Reads}
use Rattle.tape.specs.LineByLine.{LineByLine}
use Rattle.tape.specs.declared.command.Command.{Command}
use Rattle.tape.specs.Inputs.{IsTaken, KeyLoads, key_of, longest_input, tape_in}
use Rattle.tape.specs.Lines.{text_of}
use Rattle.tape.specs.Replaying.{TakesLine, TapeLines}
use Rattle.tape.specs.Runs.{ToldByRuns}
use Rattle.tape.specs.declared.line.Line.{Line}
use Rattle.tape.specs.declared.line.Line.TheVariants.{Refused}
use Rattle.tape.specs.declared.replay.Replay.{Replay}

-- The text of all lines that a replay gives stands behind a text.
abbrev pub AppendsLines : {K C : Type 0} → Keyed K → Coefficient C → Replay K C → List ℕ → List ℕ → Type 0
AppendsLines F L r before after = (lines : List Line) × Drains (TakesLine F L) r lines × (after ≡ before ++ text_of lines)

-- The lines of an input: one refusal, first of an input that is too long, then of a key that does not load; or those of the tape, by a new
-- receiver with the key.
pub record InputLines (input : List ℕ) (lines : List Line) : Type 0 where
  pub too_long : longest_input < length input → lines ≡ Refused TooLong ∷ []
  pub unfit_key : length input ≤ longest_input → (KeyLoads input → ⊥) → lines ≡ Refused Key ∷ []
  pub taken : IsTaken input → TapeLines (keyed (key_table (key_of input))) product new_ends.receiver 0 (tape_in input) lines

-- The text of the listing of an input.
pub record ListingText (input text : List ℕ) : Type 0 where
  pub lines : List Line
  pub of_input : InputLines input lines
  pub is : text ≡ text_of lines
  -- There are no other lines of it.
  pub only : (others : List Line) → InputLines input others → others ≡ lines
  -- It goes line by line, for the commands of the tape.
  pub by_line : IsTaken input → (commands : List Command) (ending : Ending) → Reads (tape_in input) commands ending → LineByLine commands ending lines
  -- The lines of the tape are told by the runs of the link.
  pub told : IsTaken input → ToldByRuns (keyed (key_table (key_of input))) product (tape_in input) lines
