-- The input of a listing: a byte N, N key bytes, then a tape.
use Rattle.std.specs.Prelude.{◌≡◌, ℕ, suc, ◌<◌, ◌≤◌, ◌⊎◌, false, List, [], ◌∷◌, length, take, drop, Result, Ok, Err}
use Rattle.sss.specs.Cipher.{KeyFits, Lawful, key_table}
use Rattle.sss.specs.declared.Fault.{Fault}
use Rattle.sss.specs.declared.Fault.TheVariants.{Key, TooLong}
use Rattle.functions.specs.declared.table.Filled.{Filled}
use Rattle.functions.specs.declared.table.Table.{Table as FilledBy}
use Rattle.functions.specs.declared.coefficient.PrintedTable.{PrintedTable}
use Rattle.link.specs.Ends.{new_ends, receiving}
use Rattle.tape.specs.declared.replay.Replay.{Replay}

-- An input has at most so many bytes.
abbrev pub longest_input : ℕ
longest_input = 65536

-- N; a missing N counts as 0.
abbrev pub key_count : List ℕ → ℕ
key_count [] = 0
key_count (n ∷ rest) = n

-- The key, and the tape behind it.
abbrev pub key_of : List ℕ → List ℕ
key_of input = take (key_count input) (drop 1 input)

abbrev pub tape_in : List ℕ → List ℕ
tape_in input = drop (suc (key_count input)) input

-- The key is there as a whole, and has 1 to 16 bytes.
pub record KeyLoads (input : List ℕ) : Type 0 where
  pub whole : key_count input < length input
  pub fits : KeyFits (key_of input)

-- An input that is taken.
pub record IsTaken (input : List ℕ) : Type 0 where
  pub short : length input ≤ longest_input
  pub loads : KeyLoads input

-- A replay that begins, by a new receiver with this key.
pub record AtStart (key tape : List ℕ) (r : Replay (FilledBy Filled) PrintedTable) : Type 0 where
  pub function : r.receiver.engine.function.entries ≡ key_table key
  pub lawful : Lawful r.receiver.engine.function.entries
  pub receiver : receiving r.receiver ≡ new_ends.receiver
  pub on_tape : r.reader.tape.now ≡ tape
  pub place : r.reader.place ≡ 0
  pub over : r.over ≡ false

-- An input is taken, or refused: first where it is too long, then where its key does not load.
abbrev pub OpensInput : List ℕ → Result (Replay (FilledBy Filled) PrintedTable) Fault → Type 0
OpensInput input (Ok r) = IsTaken input × AtStart (key_of input) (tape_in input) r
OpensInput input (Err fault) =
    ((longest_input < length input) × (fault ≡ TooLong)) ⊎ ((length input ≤ longest_input) × (KeyLoads input → ⊥) × (fault ≡ Key))
