-- What a word of an open message answers and leaves.
use Rattle.std.specs.Prelude.{◌≡◌, ℕ, ◌+◌, ◌<◌, ◌≤◌, Ok, Err, Result}
use Rattle.sss.specs.declared.Fault.{Fault}
use Rattle.sss.specs.declared.Fault.TheVariants.{Full}
use Rattle.sss.specs.declared.keyed.KeyedFunction.{Ghosts as Keyed}
use Rattle.sss.specs.declared.coefficient.Coefficient.{Ghosts as Coefficient}
use Rattle.link.specs.Engines.{SealsWord}
use Rattle.link.specs.declared.sealer.OpenMessage.{OpenMessage}

-- A message has at most so many words.
abbrev pub longest_message : ℕ
longest_message = 65536

-- The word is counted, its wire word is the published one, and so are the registers after it.
pub record Sealed {K C : Type 0} (F : Keyed K) (L : Coefficient C) (before : OpenMessage K C) (mask plain wire : ℕ) (after : OpenMessage K C) : Type 0 where
  pub room : before.words < longest_message
  pub words : after.words ≡ before.words + 1
  pub worked : SealsWord F L before.engine mask plain wire after.engine

-- The call for one word more than a message has at most is refused, and the message is as it was.
abbrev pub Seals : {K C : Type 0} → Keyed K → Coefficient C → OpenMessage K C → ℕ → ℕ → Result ℕ Fault → OpenMessage K C → Type 0
Seals F L before mask plain (Ok wire) after = Sealed F L before mask plain wire after
Seals F L before mask plain (Err e) after = (longest_message ≤ before.words) × (e ≡ Full) × (after ≡ before)
