-- What the program reports, and what it prints of that.
use Rattle.std.specs.Prelude.{◌≡◌, ℕ, List, length, vec_items, Option}
use Rattle.std.specs.Io.KnownBytes.{Appends}
use Rattle.fields.specs.Texts.{ended}
use Rattle.link.specs.Issuing.{nonce_bytes}
use Rattle.weld.specs.Alone.{SealedAlone}
use Rattle.weld.specs.Crossings.{Crosses}
use Rattle.weld.specs.Lines.{TellAll}
use Rattle.weld.specs.Passages.{seen_in}
use Rattle.weld.specs.Runs.{KeepsLaw}
use Rattle.weld.specs.Scenario.{the_key, the_run, thickness_at}
use Rattle.weld.specs.Tallies.{counted}
use Rattle.weld.specs.Texts.{report_text}
use Rattle.weld.specs.declared.Findings.{Findings}
use Rattle.weld.specs.declared.scenario.Plan.{Plan}

-- The law of a loss holds of the run, and the run is that of these messages, numbered from 0. The lines tell and the counts are those of what
-- is seen in its log, and the message of one word has the nonce that comes behind those of the run's messages.
pub record CountsItsRun (plans : List Plan) (f : Findings) : Type 0 where
  pub law : KeepsLaw the_key f.link
  pub crosses : Crosses plans the_run 0 f.link
  pub told : TellAll (seen_in (vec_items f.link.log)) (vec_items f.lines)
  pub counts : f.tally ≡ counted (seen_in (vec_items f.link.log))
  pub alone : SealedAlone the_key (nonce_bytes (record { run = the_run; message = length plans })) (thickness_at 0) f.spot

-- What is printed is the report of such findings, and nothing else.
abbrev pub PrintsItsRun : List Plan → Option (List ℕ) → Option (List ℕ) → Type 0
PrintsItsRun plans printed printed' = (f : Findings) × CountsItsRun plans f × Appends printed printed' (ended (report_text f))
