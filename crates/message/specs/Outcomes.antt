-- THE OUTCOME of a call on a whole message: what it answers, and its buffers afterwards, as functions of what it was given.
use Rattle.std.specs.Prelude.{◌≡◌, ◌⊎◌, ℕ, cond, List, length, replicate, Option, None, Some, Ok, Err, Result}
use Rattle.std.specs.Str.{bytes_eq}
use Rattle.sss.specs.declared.fault.Fault.{Fault}
use Rattle.sss.specs.declared.fault.Fault.TheVariants.{TagDiffers}
use Rattle.message.specs.Buffers.{due_tag, plain_bytes, sealed_tag, wire_bytes, written_over}
use Rattle.message.specs.Checks.{open_fault, seal_fault}

-- What a call answers.
abbrev pub CallAnswer : Type 0
CallAnswer = Result (Unit {0}) Fault

-- The answer, and the output afterwards; of seal the tag's buffer too.
pub record SealOutcome : Type 0 where
  pub answer : CallAnswer
  pub output : List ℕ
  pub tag : List ℕ

pub record OpenOutcome : Type 0 where
  pub answer : CallAnswer
  pub output : List ℕ

abbrev pub left_by_seal : CallAnswer → (output tag : List ℕ) → SealOutcome
left_by_seal answer output tag = record { answer = answer; output = output; tag = tag }

abbrev pub left_by_open : CallAnswer → (output : List ℕ) → OpenOutcome
left_by_open answer output = record { answer = answer; output = output }

-- What comes of a call whose checks found a fault, and of one whose checks found none.
abbrev pub refused_or : {T : Type 0} → Option Fault → (Fault → T) → T → T
refused_or (Some fault) refused done = refused fault
refused_or None refused done = done

-- Seal: refused, everything is as found. Else the bytes on the wire stand at the front of the output, and the tag's buffer holds the tag.
unfoldable pub seal_outcome : (f A : ℕ → ℕ) → (nonce masks input output tag : List ℕ) → SealOutcome
seal_outcome f A nonce masks input output tag =
    refused_or (seal_fault masks input output tag) (λ fault. left_by_seal (Err fault) output tag)
    (left_by_seal (Ok tt) (written_over (wire_bytes f A nonce masks input) output) (sealed_tag f A nonce masks input))

-- What the tag decides where no check refuses: where it is the one due, the plaintext stands at the front of the output; any other is refused, and
-- the output is zero over the input's length.
unfoldable pub tag_outcome : (f A : ℕ → ℕ) → (nonce masks input output tag : List ℕ) → OpenOutcome
tag_outcome f A nonce masks input output tag =
    cond (bytes_eq tag (due_tag f A nonce masks input)) (left_by_open (Ok tt) (written_over (plain_bytes f A nonce masks input) output))
    (left_by_open (Err TagDiffers) (written_over (replicate (length input) 0) output))

-- Open: refused by a check, everything is as found. Else the tag decides.
unfoldable pub open_outcome : (f A : ℕ → ℕ) → (nonce masks input output tag : List ℕ) → OpenOutcome
open_outcome f A nonce masks input output tag =
    refused_or (open_fault nonce masks input output tag) (λ fault. left_by_open (Err fault) output) (tag_outcome f A nonce masks input output tag)

-- WHATEVER THE KEYED FUNCTION ANSWERS, sound or not: seal refuses exactly where a check fails, with its fault, and then nothing is changed.
abbrev pub SealsOrRefuses : Option Fault → CallAnswer → (Unchanged : Type 0) → Type 0
SealsOrRefuses fault (Ok x) Unchanged = fault ≡ None
SealsOrRefuses fault (Err e) Unchanged = (fault ≡ Some e) × Unchanged

-- Open refuses where a check fails, with its fault, and then nothing is changed; where all hold, it can refuse only the tag, and then what was
-- opened is wiped.
abbrev pub OpensOrRefuses : Option Fault → CallAnswer → (Unchanged Wiped : Type 0) → Type 0
OpensOrRefuses fault (Ok x) Unchanged Wiped = fault ≡ None
OpensOrRefuses fault (Err e) Unchanged Wiped = ((fault ≡ Some e) × Unchanged) ⊎ ((fault ≡ None) × (e ≡ TagDiffers) × Wiped)
