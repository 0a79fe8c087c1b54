-- What the engine of an end leaves.
use Rattle.std.specs.Prelude.{◌≡◌, ℕ, List, Result}
use Rattle.sss.specs.Asked.{Asked}
use Rattle.sss.specs.Cipher.{begun, plain_word, taken, wire_word}
use Rattle.sss.specs.Outcomes.{TakesNonce}
use Rattle.sss.specs.declared.Fault.{Fault}
use Rattle.sss.specs.declared.keyed.KeyedFunction.{Ghosts as Keyed}
use Rattle.sss.specs.declared.coefficient.Coefficient.{Ghosts as Coefficient}
use Rattle.link.specs.declared.engine.Engine.{Engine}

-- An engine that worked: where its keyed function is sound the promise holds of the two maps on words that its function and its coefficient mean.
-- Both mean afterwards what they meant, and the function is sound if it was.
pub record Worked {K C : Type 0} (F : Keyed K) (L : Coefficient C) (before after : Engine K C) (Promise : (ℕ → ℕ) → (ℕ → ℕ) → Type 0) : Type 0 where
  pub asked : Asked F before.function after.function (λ f. Promise f (L.image before.coefficient))
  pub coefficient : after.coefficient ≡ before.coefficient

module _ {K C : Type 0} (F : Keyed K) (L : Coefficient C) where
  -- A begin: the registers are those that the nonce leaves. A nonce that does not fit is refused, and nothing is changed.
  abbrev pub BeginsMessage : Engine K C → List ℕ → Result (Unit {0}) Fault → Engine K C → Type 0
  BeginsMessage before nonce r after =
      TakesNonce nonce (λ _. Worked F L before after (λ f A. after.registers ≡ begun f A nonce)) (after ≡ before) r

  -- A plaintext word sealed: its wire word and both registers after it are the published ones.
  abbrev pub SealsWord : Engine K C → (mask plain wire : ℕ) → Engine K C → Type 0
  SealsWord before mask plain wire after =
      Worked F L before after (λ f A.
      (wire ≡ wire_word f before.registers mask plain) × (after.registers ≡ taken f A before.registers mask plain))

  -- A wire word opened: its plaintext word and both registers after it are the published ones.
  abbrev pub OpensWord : Engine K C → (mask wire plain : ℕ) → Engine K C → Type 0
  OpensWord before mask wire plain after =
      Worked F L before after (λ f A.
      (plain ≡ plain_word f before.registers mask wire) ×
      (after.registers ≡ taken f A before.registers mask (plain_word f before.registers mask wire)))
