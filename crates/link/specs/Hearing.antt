-- What the receiver's calls answer and leave.
use Rattle.std.specs.Prelude.{◌≡◌, ℕ, ◌<◌, ◌≤◌, List, Option, Some, None, Result}
use Rattle.sss.specs.Cipher.{BothRegisters, begun, plain_word, tag, taken, zeroed}
use Rattle.sss.specs.Outcomes.{TakesNonce}
use Rattle.sss.specs.declared.Fault.{Fault}
use Rattle.sss.specs.declared.keyed.KeyedFunction.{Ghosts as Keyed}
use Rattle.sss.specs.declared.coefficient.Coefficient.{Ghosts as Coefficient}
use Rattle.link.specs.Engines.{Worked}
use Rattle.link.specs.Receiving.{Given, Released, answer_of, catches_up, decided, row_of, verdict_of}
use Rattle.link.specs.declared.receiver.Receiver.{Receiver}
use Rattle.link.specs.declared.reception.Answer.{Answer}
use Rattle.link.specs.declared.reception.Event.TheVariants.{Finish, Word}
use Rattle.link.specs.declared.reception.Reception.{Reception}
use Rattle.link.specs.declared.reception.Reception.TheVariants.{Lost, Whole}
use Rattle.link.specs.declared.reception.Verdict.{Verdict}

-- A receiver that stands there: with this function, this coefficient, these registers and this state. A lost one's row has not caught up.
pub record Standing {K C : Type 0} (function : K) (coefficient : C) (registers : BothRegisters) (reception : Reception) (r : Receiver K C) : Type 0 where
  pub function_is : r.engine.function ≡ function
  pub coefficient_is : r.engine.coefficient ≡ coefficient
  pub registers_are : r.engine.registers ≡ registers
  pub reception_is : r.footing.reception ≡ reception
  pub row : row_of reception < catches_up

-- A receiver that goes on where another stood. Lost with a row that has caught up none stands.
abbrev pub Resumes : {K C : Type 0} → K → C → BothRegisters → Reception → Option (Receiver K C) → Type 0
Resumes function coefficient registers reception (Some r) = Standing function coefficient registers reception r
Resumes function coefficient registers reception None = catches_up ≤ row_of reception

-- A begin that is taken: the receiver is whole, with the registers of the nonce.
pub record Begun {K C : Type 0} (F : Keyed K) (L : Coefficient C) (before : Receiver K C) (nonce : List ℕ) (after : Receiver K C) : Type 0 where
  pub reception : after.footing.reception ≡ Whole
  pub worked : Worked F L before.engine after.engine (λ f A. after.engine.registers ≡ begun f A nonce)

-- Nothing is changed.
pub record Unchanged {K C : Type 0} (before after : Receiver K C) : Type 0 where
  pub engine : after.engine ≡ before.engine
  pub footing : after.footing ≡ before.footing

-- A nonce that does not fit is refused, and nothing is changed.
abbrev pub Begins : {K C : Type 0} → Keyed K → Coefficient C → Receiver K C → List ℕ → Result (Unit {0}) Fault → Receiver K C → Type 0
Begins F L before nonce r after = TakesNonce nonce (λ _. Begun F L before nonce after) (Unchanged before after) r

-- A word is taken into both registers as the published cipher does it, whatever the state. State and mask decide where the receiver then
-- stands and whether its reading is handed out or withheld, and with which row: that holds whatever the keyed function answers.
pub record TakesWord {K C : Type 0} (F : Keyed K) (L : Coefficient C) (before : Receiver K C) (mask wire : ℕ) (answer : Answer) (after : Receiver K C) : Type 0 where
  pub worked : Worked F L before.engine after.engine (λ f A.
      (answer ≡ answer_of (decided before.footing.reception (Word mask)).1 (plain_word f before.engine.registers mask wire)) ×
      (after.engine.registers ≡ taken f A before.engine.registers mask (plain_word f before.engine.registers mask wire)))
  pub released : Released (decided before.footing.reception (Word mask)).1 answer
  pub reception : after.footing.reception ≡ (decided before.footing.reception (Word mask)).0

-- A finish: the verdict on the tag received where the published one is drawn, and whether it is broken, whatever the keyed function answers.
-- The receiver is then lost with row 0, its registers zero.
pub record Finishes {K C : Type 0} (F : Keyed K) (L : Coefficient C) (before : Receiver K C) (received : List ℕ) (verdict : Verdict) (after : Receiver K C) : Type 0 where
  pub worked : Worked F L before.engine after.engine (λ f _.
      verdict ≡ verdict_of (decided before.footing.reception Finish).1 received (tag f before.engine.registers))
  pub given : Given (decided before.footing.reception Finish).1 verdict
  pub reception : after.footing.reception ≡ Lost 0
  pub registers : after.engine.registers ≡ zeroed
