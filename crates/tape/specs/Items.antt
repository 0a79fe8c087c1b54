-- What an item says: the command that it is, read off its part of the tape.
use Rattle.std.specs.Prelude.{◌≡◌, ℕ, List, ◌++◌, drop, slice_index, Option, Some, None, Result, Ok, Err}
use Rattle.sss.specs.Cipher.{open_mask, sealed_mask, words_of}
use Rattle.sss.specs.declared.Fault.{Fault}
use Rattle.tape.specs.Format.{Ending, Ends, Fits, at_end, bytes_of, fault_of}
use Rattle.tape.specs.declared.command.Command.{Command}
use Rattle.tape.specs.declared.command.Command.TheVariants as command
use Rattle.tape.specs.declared.item.Item.{Item}
use Rattle.tape.specs.declared.item.Item.TheVariants.{Nonce, Word, Break, Tag}
use Rattle.tape.specs.declared.item.WordItem.{WordItem}
use Rattle.tape.specs.declared.item.WordItem.TheVariants.{Sealed, Open, Part}

-- The operands of a command as words.
abbrev pub operands : List ℕ → List ℕ
operands part = words_of (drop 1 part)

-- The mask and the wire word of a word: the command byte says the mask of a sealed and of an open word.
abbrev pub mask_of : WordItem → ℕ
mask_of (Sealed w) = sealed_mask
mask_of (Open w) = open_mask
mask_of (Part w) = slice_index (operands w.bytes.now) 0

abbrev pub wire_of : WordItem → ℕ
wire_of (Sealed w) = slice_index (operands w.bytes.now) 0
wire_of (Open w) = slice_index (operands w.bytes.now) 0
wire_of (Part w) = slice_index (operands w.bytes.now) 1

-- The command that an item is.
abbrev pub command_of : Item → Command
command_of (Nonce n) = command.Nonce (drop 1 n.bytes.now)
command_of (Word (Sealed w)) = command.Sealed (wire_of (Sealed w))
command_of (Word (Open w)) = command.Open (wire_of (Open w))
command_of (Word (Part w)) = command.Part (mask_of (Part w)) (wire_of (Part w))
command_of (Break b) = command.Break
command_of (Tag t) = command.Tag (operands t.bytes.now)

-- The part of the tape that an item is, command byte and operands.
abbrev pub word_part : WordItem → List ℕ
word_part (Sealed w) = w.bytes.now
word_part (Open w) = w.bytes.now
word_part (Part w) = w.bytes.now

abbrev pub part_of : Item → List ℕ
part_of (Nonce n) = n.bytes.now
part_of (Word w) = word_part w
part_of (Break b) = b.bytes.now
part_of (Tag t) = t.bytes.now

-- The place of an item: the offset of its command byte.
abbrev pub word_place : WordItem → ℕ
word_place (Sealed w) = w.place
word_place (Open w) = w.place
word_place (Part w) = w.place

abbrev pub place_of : Item → ℕ
place_of (Nonce n) = n.place
place_of (Word w) = word_place w
place_of (Break b) = b.place
place_of (Tag t) = t.place

-- An item is found at a place where these bytes are left of a tape: its part is the front of them, and its place is that place.
pub record IsNext (at : ℕ) (left : List ℕ) (item : Item) (rest : List ℕ) : Type 0 where
  pub place : place_of item ≡ at
  pub part : left ≡ part_of item ++ rest
  pub bytes : part_of item ≡ bytes_of (command_of item)
  pub fits : Fits (command_of item)

-- A place where these bytes are left of a tape is refused, and why.
abbrev pub Refuses : ℕ → List ℕ → Fault → Type 0
Refuses place left fault = (e : Ending) × Ends left e × (Some fault ≡ fault_of place e)

-- The item that stands at a place where these bytes are left of a tape, or why none does.
abbrev pub FindsItem : ℕ → List ℕ → Result (Option Item) Fault → Type 0
FindsItem place left (Ok (Some item)) = (rest : List ℕ) × IsNext place left item rest
FindsItem place left (Ok None) = Ends left at_end
FindsItem place left (Err fault) = Refuses place left fault
