-- What a call that takes a nonce answers and leaves.
use Rattle.std.specs.Prelude.{◌≡◌, ℕ, List, Ok, Err, Result}
use Rattle.sss.specs.Cipher.{NonceFits}
use Rattle.sss.specs.declared.fault.Fault.{Fault}
use Rattle.sss.specs.declared.fault.Fault.TheVariants.{Nonce}

-- Where the nonce fits the call keeps its promise of the answer; any other nonce is refused, and then nothing is changed.
abbrev pub TakesNonce : {T : Type 0} → List ℕ → (T → Type 0) → Type 0 → Result T Fault → Type 0
TakesNonce nonce Promise Unchanged (Ok x) = NonceFits nonce × Promise x
TakesNonce nonce Promise Unchanged (Err e) = (NonceFits nonce → ⊥) × (e ≡ Nonce) × Unchanged
