-- Calls that an engine works for.
use Rattle.std.proofs.Common.{◌≡◌, ℕ, sym, subst}
use Rattle.sss.specs.Asked.{Asked}
use Rattle.sss.proofs.Asked.{asked_so, not_asked}
use Rattle.sss.specs.declared.keyed.KeyedFunction.{Ghosts as Keyed}
use Rattle.sss.specs.declared.coefficient.Coefficient.{Ghosts as Coefficient}
use Rattle.link.specs.Engines.{Worked}
use Rattle.link.specs.declared.engine.Engine.{Engine}

module _ {K C : Type 0} {F : Keyed K} {L : Coefficient C} where
  -- What follows from the promise.
  pub worked_so : {e e' : Engine K C} {P Q : (ℕ → ℕ) → (ℕ → ℕ) → Type 0} → Worked F L e e' P → ((f A : ℕ → ℕ) → P f A → Q f A) → Worked F L e e' Q
  worked_so {e = e} p so = record { asked = asked_so p.asked (λ f q. so f (L.image e.coefficient) q); coefficient = p.coefficient }

  -- An engine that was asked nothing, whatever became of its registers.
  pub not_worked : {e e' : Engine K C} {P : (ℕ → ℕ) → (ℕ → ℕ) → Type 0} → e'.function ≡ e.function → e'.coefficient ≡ e.coefficient →
      ((f A : ℕ → ℕ) → P f A) → Worked F L e e' P
  not_worked {e = e} {P = P} function coefficient p =
      record {
        asked = subst (λ (k : K). Asked F e.function k (λ f. P f (L.image e.coefficient))) (sym function) (not_asked (p _ _));
        coefficient = coefficient;
      }
