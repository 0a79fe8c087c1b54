-- What a call from C comes to.
use Rattle.std.specs.Prelude.{◌≡◌, ℕ, List, Ok, Err}
use Rattle.sss.specs.Cipher.{KeyFits, Lawful, key_table, keyed}
use Rattle.sss.specs.Faults.{number_of}
use Rattle.sss.specs.declared.fault.Fault.{Fault}
use Rattle.sss.specs.declared.fault.Fault.TheVariants.{Key, Table}
use Rattle.message.specs.Outcomes.{CallAnswer}

-- The number that a call answers: 0, or that of the refusal.
abbrev pub number_answered : CallAnswer → ℕ
number_answered (Ok u) = 0
number_answered (Err fault) = number_of fault

-- The number that a call answers, and what it leaves in the memory that it may write.
pub record Outcome (M : Type 0) : Type 0 where
  pub number : ℕ
  pub memory : M

abbrev pub outcome : {M : Type 0} → ℕ → M → Outcome M
outcome number left = record { number = number; memory = left }

abbrev pub answered : {M : Type 0} → CallAnswer → M → Outcome M
answered answer left = outcome (number_answered answer) left

-- Done, the call answers 0. Refused, it answers the number of the refusal, and all is as it was found.
abbrev pub done : {M : Type 0} → M → Outcome M
done left = outcome 0 left

abbrev pub refused : {M : Type 0} → Fault → M → Outcome M
refused fault found = outcome (number_of fault) found

-- A call on what can be unfit. Where it fits, the outcome is the one due; where it does not, the call is refused.
pub record WhereFits {M : Type 0} (Fits : Type 0) (fault : Fault) (found : M) (due : Outcome M) (number : ℕ) (left : M) : Type 0 where
  pub fits : Fits → outcome number left ≡ due
  pub unfit : (Fits → ⊥) → outcome number left ≡ refused fault found

-- By a key of 1 to 16 bytes, and by a table that keeps the law: the outcome that is due with the keyed function that it means. The key or the table is
-- looked at before all else.
abbrev pub ByKey : {M : Type 0} → (key : List ℕ) → (due : (ℕ → ℕ) → M → Outcome M) → (found : M) → (number : ℕ) → (left : M) → Type 0
ByKey key due found number left = WhereFits (KeyFits key) Key found (due (keyed (key_table key)) found) number left

abbrev pub ByTable : {M : Type 0} → (words : List ℕ) → (due : (ℕ → ℕ) → M → Outcome M) → (found : M) → (number : ℕ) → (left : M) → Type 0
ByTable words due found number left = WhereFits (Lawful words) Table found (due (keyed words) found) number left
