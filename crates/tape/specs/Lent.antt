-- Text in a lent buffer.
use Rattle.std.specs.Prelude.{◌≡◌, ℕ, ◌+◌, ◌*◌, ◌<◌, ◌≤◌, List, ◌++◌, length, take, drop, replicate, Option, None, Some}
use Rattle.sss.specs.declared.keyed.KeyedFunction.{Ghosts as Keyed}
use Rattle.sss.specs.declared.coefficient.Coefficient.{Ghosts as Coefficient}
use Rattle.std.specs.Iterator.{Drains}
use Rattle.tape.specs.Lines.{text_of}
use Rattle.tape.specs.Listing.{ListingText}
use Rattle.tape.specs.Replaying.{TakesLine}
use Rattle.tape.specs.declared.line.Line.{Line}
use Rattle.tape.specs.declared.replay.Replay.{Replay}

-- A piece of text stands in a buffer from one place to another, and the buffer is as it was before the one and from the other on.
pub record IsPut (before : List ℕ) (start : ℕ) (piece : List ℕ) (end : ℕ) (after : List ℕ) : Type 0 where
  pub place : end ≡ start + length piece
  pub fits : end ≤ length before
  pub buffer : after ≡ take start before ++ piece ++ drop end before

-- A piece of text is put into a buffer, or there is too little room for it, and then nothing is said of the buffer but its length.
abbrev pub Puts : List ℕ → ℕ → List ℕ → Option ℕ → List ℕ → Type 0
Puts before start piece (Some end) after = IsPut before start piece end after
Puts before start piece None after = (length after ≡ length before) × (length before < start + length piece)

-- The text of all lines that a replay gives is put at the start of a buffer.
abbrev pub PutsLines : {K C : Type 0} → Keyed K → Coefficient C → Replay K C → List ℕ → Option ℕ → List ℕ → Type 0
PutsLines F L r before end after = (lines : List Line) × Drains (TakesLine F L) r lines × Puts before 0 (text_of lines) end after

-- The text of the listing of an input is put at the start of a buffer.
abbrev pub PutsListing : List ℕ → List ℕ → Option ℕ → List ℕ → Type 0
PutsListing input before end after = (text : List ℕ) × ListingText input text × Puts before 0 text end after

-- THE LISTING OF AN INPUT IN A LENT BUFFER. Where its text fits it stands at the buffer's start, the rest of the buffer is as it was, and the answer is
-- how long it is. Where it does not fit there is no answer, and the buffer is zero.
pub record ListsInto (input before : List ℕ) (answer : Option ℕ) (after : List ℕ) : Type 0 where
  pub text : List ℕ
  pub lists : ListingText input text
  -- There is no other text of it.
  pub only : (other : List ℕ) → ListingText input other → other ≡ text
  pub fits : length text ≤ length before → (answer ≡ Some (length text)) × (after ≡ text ++ drop (length text) before)
  pub no_room : length before < length text → (answer ≡ None) × (after ≡ replicate (length before) 0)
  -- As much room as this always does: 12 bytes for each byte of the input, and 24 more.
  pub room : length text ≤ 12 * length input + 24
