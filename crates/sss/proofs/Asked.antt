-- Calls that ask a keyed function, one after the other.
use Rattle.std.proofs.Common.{◌≡◌, ℕ, List, refl, ◌∙◌, subst}
use Rattle.sss.specs.Asked.{Asked, Keeps}
use Rattle.sss.specs.Cipher.{keyed}
use Rattle.sss.specs.declared.keyed.KeyedFunction.{Ghosts as Keyed}

-- Two calls keep what each keeps.
pub keeps_on : {K : Type 0} (F : Keyed K) {k k' k'' : K} → Keeps F k k' → Keeps F k' k'' → Keeps F k k''
keeps_on F p q = record { meaning = q.meaning ∙ p.meaning; sound = λ s. q.sound (p.sound s) }

module _ {K : Type 0} {F : Keyed K} where
  -- No call, and what holds without one.
  pub not_asked : {k : K} {P : (ℕ → ℕ) → Type 0} → P (keyed (F.table k)) → Asked F k k P
  not_asked p = record { promise = λ s. p; kept = record { meaning = refl; sound = λ s. s } }

  -- One question.
  pub asked_word : {k k' : K} {a b : ℕ} → (F.sound k → b ≡ keyed (F.table k) a) → Keeps F k k' → Asked F k k' (λ f. b ≡ f a)
  asked_word value kept = record { promise = value; kept = kept }

  -- What follows from the promise.
  pub asked_so : {k k' : K} {P Q : (ℕ → ℕ) → Type 0} → Asked F k k' P → ((f : ℕ → ℕ) → P f → Q f) → Asked F k k' Q
  asked_so {k = k} p so = record { promise = λ s. so (keyed (F.table k)) (p.promise s); kept = p.kept }

  -- Two calls: both promises are of one map.
  pub asked_then : {k k' k'' : K} {P Q R : (ℕ → ℕ) → Type 0} → Asked F k k' P → Asked F k' k'' Q →
      ((f : ℕ → ℕ) → P f → Q f → R f) → Asked F k k'' R
  asked_then {k = k} {Q = Q} p q so =
      record {
        promise = λ s. so (keyed (F.table k)) (p.promise s) (subst (λ (S : List ℕ). Q (keyed S)) p.kept.meaning (q.promise (p.kept.sound s)));
        kept = keeps_on F p.kept q.kept;
      }

  -- What holds of a sound function whatever was asked.
  pub asked_also : {k k' : K} {P Q : (ℕ → ℕ) → Type 0} → Asked F k k' P → (F.sound k → Q (keyed (F.table k))) → Asked F k k' (λ f. P f × Q f)
  asked_also p q = record { promise = λ s. (p.promise s, q s); kept = p.kept }
