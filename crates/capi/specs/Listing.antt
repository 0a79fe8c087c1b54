-- What listing a tape comes to.
use Rattle.std.specs.Prelude.{◌≡◌, ℕ, List, Option, None, Some}
use Rattle.sss.specs.Faults.{number_of}
use Rattle.sss.specs.declared.fault.Fault.TheVariants.{Output as TooShort}
use Rattle.tape.specs.Lent.{ListsInto}

-- By what listing into a buffer answers, the length of a text that fits or none: the number of the call, and the length that is reported.
abbrev pub number_listed : Option ℕ → ℕ
number_listed (Some long) = 0
number_listed None = number_of TooShort

abbrev pub length_reported : Option ℕ → (found : ℕ) → ℕ
length_reported (Some long) found = long
length_reported None found = found

-- The buffer is that of listing into it. Where the text fits, the call answers 0 and reports its length; elsewhere it is refused, and the length stays as
-- it was found.
pub record Lists (input buffer : List ℕ) (long number : ℕ) (buffer' : List ℕ) (long' : ℕ) : Type 0 where
  pub listed : Option ℕ
  pub into : ListsInto input buffer listed buffer'
  pub number_is : number ≡ number_listed listed
  pub long_is : long' ≡ length_reported listed long
