-- How a line of the input is counted.
use Rattle.std.specs.Prelude.{◌≡◌, ℕ, Bool, ◌⊎◌, List, vec_len, Decides}
use Rattle.vectors.specs.declared.compare.Stopped.{Stopped}
use Rattle.vectors.specs.declared.report.Tally.{Tally}
use Rattle.vectors.specs.declared.vector.Vector.{Vector}
use Rattle.vectors.specs.Lines.{Parses}
use Rattle.vectors.specs.Refusals.{Fit, StopsFor}
use Rattle.vectors.specs.Tallies.{after_malformed, after_refused, after_compared}
use Rattle.vectors.specs.Ways.{Published}

-- A message that fits counts as agreeing exactly where it is as the published cipher has it, and else as differing; or it was not compared, and why.
abbrev pub Counted : Vector → Tally → Tally → Type 0
Counted v before after =
    (Fit v × (agrees : Bool) × Decides agrees (Published v) × (after ≡ after_compared (vec_len v.wire) agrees before)) ⊎
    ((why : Stopped) × StopsFor v why × (after ≡ after_refused (vec_len v.wire) before))

-- A line is a message that counts, or one more line that could not be read.
abbrev pub Taken : List ℕ → Tally → Tally → Type 0
Taken line before after = ((v : Vector) × Parses line v × Counted v before after) ⊎ (after ≡ after_malformed before)
