-- The item at a place of a tape, found or not.
use Rattle.std.proofs.Common.{◌≡◌, ℕ, ◌<◌, List, ◌++◌, length, get_or, replicate, take, drop, cond, ◌==◌, Some, refl, sym, ap, ◌∙◌, arith, take-append-drop}
use Rattle.sss.specs.declared.Fault.{Fault}
use Rattle.sss.specs.declared.Fault.TheVariants.{CutOff}
use Rattle.sss.proofs.Bytes.{length-bytes_of_words}
use Rattle.tape.specs.Format.{Ending, Ends, Fits, bytes_of, cut_off, fault_of}
use Rattle.tape.specs.Items.{IsNext, part_of, place_of}
use Rattle.tape.specs.declared.command.Command.{Command}
use Rattle.tape.specs.declared.command.Command.TheVariants.{Nonce, Sealed, Open, Part, Break, Tag}
use Rattle.tape.specs.declared.item.Item.{Item}
use Rattle.tape.proofs.Spelled.{fits, spelled}

-- How many bytes a command has, by its command byte.
abbrev pub size : ℕ → ℕ
size b = cond (b == 0x4E) 7 (cond (b == 0x53) 3 (cond (b == 0x4F) 3 (cond (b == 0x50) 5 (cond (b == 0x42) 1 17))))

pub sized : (c : Command) → Fits c → length (bytes_of c) ≡ size (get_or (bytes_of c) 0 0)
sized (Nonce nonce) h = omega (arith, h.0)
sized (Sealed w) h = refl
sized (Open w) h = refl
sized (Part m w) h = refl
sized Break h = refl
sized (Tag ws) h = let e = length-bytes_of_words ws in omega (arith, h.0)

-- The first byte of a command is its command byte, whatever follows.
pub first_byte : (c : Command) (rest : List ℕ) → get_or (bytes_of c ++ rest) 0 0 ≡ get_or (bytes_of c) 0 0
first_byte (Nonce nonce) rest = refl
first_byte (Sealed w) rest = refl
first_byte (Open w) rest = refl
first_byte (Part m w) rest = refl
first_byte Break rest = refl
first_byte (Tag ws) rest = refl

-- A command of each command byte.
abbrev pub sample : ℕ → Command
sample b =
    cond (b == 0x4E) (Nonce (replicate 6 0))
    (cond (b == 0x53) (Sealed 0) (cond (b == 0x4F) (Open 0) (cond (b == 0x50) (Part 0 0) (cond (b == 0x42) Break (Tag (replicate 8 0))))))

-- A command whose operands are cut off.
pub short : (place : ℕ) (rest : List ℕ) (f : Fault) (c : Command) → Fits c → f ≡ CutOff place → length rest < length (bytes_of c) →
    get_or rest 0 0 ≡ get_or (bytes_of c) 0 0 → 0 < length rest → (e : Ending) × Ends rest e × (Some f ≡ fault_of place e)
short place rest f c fits is less head some = (cut_off, (some, c, fits, sym head, less), ap Some is)

-- The front of what is left, as an item.
pub found : (place n : ℕ) (rest : List ℕ) (i : Item) → place_of i ≡ place → part_of i ≡ take n rest → (left : List ℕ) × IsNext place rest i left
found place n rest i at front = (
  drop n rest,
  record { place = at; part = sym (take-append-drop n rest) ∙ ap (λ (xs : List ℕ). xs ++ drop n rest) (sym front); bytes = spelled i; fits = fits i },
)
