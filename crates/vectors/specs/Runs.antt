-- What a run of the program prints.
use Rattle.std.specs.Prelude.{◌≡◌, ℕ, ◌⊎◌, List, [], ◌∷◌, ◌++◌, Option, true}
use Rattle.std.specs.Io.BufRead.{drop_through, first_piece}
use Rattle.std.specs.Io.KnownBytes.{Appends}
use Rattle.std.specs.List.{FoldsTo, concat}
use Rattle.vectors.specs.declared.report.Tally.{Tally}
use Rattle.vectors.specs.Reports.{Told, figures_text, summary_text}
use Rattle.vectors.specs.Tallies.{fresh, raised}

-- What is left of the input, how many lines were told, and the counts.
pub record Progress : Type 0 where
  pub left : List ℕ
  pub number : ℕ
  pub tally : Tally

-- No more is told: nothing is left, or one empty line.
abbrev pub AtEnd : List ℕ → Type 0
AtEnd left = (left ≡ []) ⊎ (left ≡ 0x0A ∷ [])

-- The next line is what stands before the next line's end, or all that is left; its text is told under the next number, and what stands after it is
-- left.
abbrev pub NextLine : Progress → List ℕ → Progress → Type 0
NextLine before text after =
    (AtEnd before.left → ⊥) × (after.left ≡ drop_through 0x0A before.left) × (after.number ≡ raised before.number 1) ×
    Told after.number (first_piece 0x0A before.left) before.tally after.tally text

-- For an input the first line of the report is printed, then the texts of the input's lines, one after another until no more is told, and then the end
-- of the report.
abbrev pub PrintsReport : Option (List ℕ) → Option (List ℕ) → List ℕ → Type 0
PrintsReport printed printed' input =
    (texts : List (List ℕ)) × (last : Progress) × FoldsTo NextLine (record { left = input; number = 0; tally = fresh }) texts last × AtEnd last.left ×
    Appends printed printed' (figures_text true ++ concat texts ++ summary_text last.tally)
