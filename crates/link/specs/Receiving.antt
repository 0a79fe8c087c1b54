-- What a receiver hands out and what it withholds.
use Rattle.std.specs.Prelude.{◌≡◌, ℕ, ◌+◌, cond, List, ◌++◌, ◌==◌, codes}
use Rattle.std.specs.Fmt.{decimal}
use Rattle.std.specs.Str.{bytes_eq}
use Rattle.sss.specs.Bytes.{hex_of_word}
use Rattle.sss.specs.Cipher.{sealed_mask}
use Rattle.link.specs.declared.reception.Reception.{Reception}
use Rattle.link.specs.declared.reception.Reception.TheVariants.{Whole, Caught, Lost}
use Rattle.link.specs.declared.reception.Event.{Event}
use Rattle.link.specs.declared.reception.Event.TheVariants.{Begin, Word, Break, Finish}
use Rattle.link.specs.declared.reception.Release.{Release}
use Rattle.link.specs.declared.reception.Release.TheVariants.{HandOut, Withhold}
use Rattle.link.specs.declared.reception.Answer.{Answer}
use Rattle.link.specs.declared.reception.Answer.TheVariants.{Reading, Withheld}
use Rattle.link.specs.declared.reception.Verdict.{Verdict}
use Rattle.link.specs.declared.reception.Verdict.TheVariants.{Agrees, Differs, Broken}

-- The row of a lost receiver; any other has none, which counts as 0.
abbrev pub row_of : Reception → ℕ
row_of Whole = 0
row_of Caught = 0
row_of (Lost n) = n

-- The row after a word: a sealed word adds 1, any other word sets it to 0.
unfoldable pub row_after : ℕ → ℕ → ℕ
row_after n mask = cond (mask == sealed_mask) (n + 1) 0

-- A lost receiver that has taken so many sealed words in a row hands out again.
abbrev pub catches_up : ℕ
catches_up = 17

-- A receiver with this row.
unfoldable pub with_row : ℕ → Reception
with_row n = cond (n == catches_up) Caught (Lost n)

-- Where a receiver stands after a call, and what becomes of the reading or the verdict. Begin makes it whole, break and finish make it lost
-- with row 0. Words are handed out by a whole and a caught receiver and withheld by a lost one; a verdict is given by a whole one alone.
-- What stands beside a begin and a break is not used, nor is the row beside a finish.
abbrev pub decided : Reception → Event → Reception × Release
decided s Begin = (Whole, HandOut)
decided s Break = (Lost 0, Withhold 0)
decided Whole Finish = (Lost 0, HandOut)
decided Caught Finish = (Lost 0, Withhold 0)
decided (Lost n) Finish = (Lost 0, Withhold 0)
decided Whole (Word mask) = (Whole, HandOut)
decided Caught (Word mask) = (Caught, HandOut)
decided (Lost n) (Word mask) = (with_row (row_after n mask), Withhold (row_after n mask))

-- The answer to a word that reads p.
abbrev pub answer_of : Release → ℕ → Answer
answer_of HandOut p = Reading p
answer_of (Withhold n) p = Withheld n

-- What can be said of an answer, whatever the keyed function answers: whether it was handed out, and the row.
abbrev pub Released : Release → Answer → Type 0
Released HandOut (Reading p) = Unit {0}
Released HandOut (Withheld n) = ⊥
Released (Withhold n) (Reading p) = ⊥
Released (Withhold n) (Withheld m) = m ≡ n

-- The verdict on a tag that was received where another was drawn.
abbrev pub verdict_of : Release → List ℕ → List ℕ → Verdict
verdict_of HandOut received drawn = cond (bytes_eq received drawn) Agrees Differs
verdict_of (Withhold n) received drawn = Broken

-- What can be said of a verdict, whatever the keyed function answers: whether it is broken.
abbrev pub Given : Release → Verdict → Type 0
Given HandOut Agrees = Unit {0}
Given HandOut Differs = Unit {0}
Given HandOut Broken = ⊥
Given (Withhold n) Agrees = ⊥
Given (Withhold n) Differs = ⊥
Given (Withhold n) Broken = Unit {0}

-- An answer and a verdict as they are printed.
abbrev pub answer_text : Answer → List ℕ
answer_text (Reading plain) = codes "reading " ++ hex_of_word plain
answer_text (Withheld row) = codes "withheld " ++ decimal row

abbrev pub verdict_text : Verdict → List ℕ
verdict_text Agrees = codes "agrees"
verdict_text Differs = codes "differs"
verdict_text Broken = codes "broken"
