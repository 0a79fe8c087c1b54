-- The format of a tape: commands of one byte with operands of fixed width.
use Rattle.std.specs.Prelude.{◌≡◌, ℕ, ◌<◌, ◌+◌, List, [], ◌∷◌, ◌++◌, length, slice_index, Option, None, Some}
use Rattle.std.specs.List.{flat_map, AllByRecursion as Every}
use Rattle.sss.specs.Bytes.{bytes_of_words}
use Rattle.sss.specs.Cipher.{Word}
use Rattle.sss.specs.declared.Fault.{Fault}
use Rattle.sss.specs.declared.Fault.TheVariants.{UnknownCommand, CutOff}
use Rattle.tape.specs.declared.command.Command.{Command}
use Rattle.tape.specs.declared.command.Command.TheVariants.{Nonce, Sealed, Open, Part, Break, Tag}

-- The bytes of a command: its command byte and its operands.
abbrev pub bytes_of : Command → List ℕ
bytes_of (Nonce nonce) = 0x4E ∷ nonce
bytes_of (Sealed wire) = 0x53 ∷ bytes_of_words (wire ∷ [])
bytes_of (Open wire) = 0x4F ∷ bytes_of_words (wire ∷ [])
bytes_of (Part mask wire) = 0x50 ∷ bytes_of_words (mask ∷ wire ∷ [])
bytes_of Break = 0x42 ∷ []
bytes_of (Tag words) = 0x54 ∷ bytes_of_words words

-- What the type of a command says: a nonce has six bytes, a tag has eight words, and each of these is a byte or a word.
abbrev pub Fits : Command → Type 0
Fits (Nonce nonce) = (length nonce ≡ 6) × Every (λ b. b < 256) nonce
Fits (Sealed wire) = Word wire
Fits (Open wire) = Word wire
Fits (Part mask wire) = Word mask × Word wire
Fits Break = Unit {0}
Fits (Tag words) = (length words ≡ 8) × Every Word words

-- A TAPE is the bytes of its commands in order.
abbrev pub tape_of : List Command → List ℕ
tape_of commands = flat_map bytes_of commands

-- The places of commands that stand one after another from a place on.
abbrev pub places_from : ℕ → List Command → List ℕ
places_from place [] = []
places_from place (c ∷ cs) = place ∷ places_from (place + length (bytes_of c)) cs

-- A byte that some command begins with.
abbrev pub IsCommandByte : ℕ → Type 0
IsCommandByte b = (c : Command) × (slice_index (bytes_of c) 0 ≡ b)

-- Why a tape reads no further.
pub data Ending : Type 0 where
  at_end : Ending
  unknown : Ending
  cut_off : Ending

-- A tape of which these bytes are left reads no further, and why: nothing is left; or the next byte is no command's; or it is that of a command
-- that is longer than what is left.
abbrev pub Ends : List ℕ → Ending → Type 0
Ends left at_end = left ≡ []
Ends left unknown = (0 < length left) × (IsCommandByte (slice_index left 0) → ⊥)
Ends left cut_off =
    (0 < length left) × (c : Command) × Fits c × (slice_index (bytes_of c) 0 ≡ slice_index left 0) × (length left < length (bytes_of c))

-- The refusal of an ending, if it is one, at the place where the tape reads no further.
abbrev pub fault_of : ℕ → Ending → Option Fault
fault_of place at_end = None
fault_of place unknown = Some (UnknownCommand place)
fault_of place cut_off = Some (CutOff place)

-- HOW A TAPE READS: the commands that stand on it one after another from its start, and why it then reads no further.
pub record Reads (tape : List ℕ) (commands : List Command) (ending : Ending) : Type 0 where
  pub fit : Every Fits commands
  pub rest : List ℕ
  pub whole : tape ≡ tape_of commands ++ rest
  pub ends : Ends rest ending

-- Every string of bytes is read in exactly one way.
pub record OneReading (tape : List ℕ) : Type 0 where
  pub commands : List Command
  pub ending : Ending
  pub reads : Reads tape commands ending
  pub only : (cs : List Command) (e : Ending) → Reads tape cs e → (cs ≡ commands) × (e ≡ ending)
