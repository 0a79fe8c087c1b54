-- What the promises ask for can be met: an instance of each.
use Rattle.std.proofs.Common.{◌≡◌, ◌≢◌, ℕ, [], ◌∷◌, replicate, refl, arith}
use Rattle.sss.specs.Cipher.{KeyFits}
use Rattle.message.specs.Checks.{seal_fault}
use Rattle.message.specs.Outcomes.{seal_outcome}
use Rattle.capi.specs.Calls.{done}
use Rattle.capi.specs.Receivers.{SetUp, new_receiver}
use Rattle.capi.specs.Whole.{SealingMemory, sealing_due, sealing_memory}

-- A key of one byte fits, and one of none does not.
fits : KeyFits (0 ∷ [])
fits = (omega arith, omega arith)

unfit : KeyFits [] → ⊥
unfit h = absurd (omega (arith, h.0))

-- A new receiver is set up, and lost.
set_up : SetUp (new_receiver (0 ∷ []))
set_up = (omega arith, omega arith)

lost : ((new_receiver (0 ∷ [])).state ≢ 17) × ((new_receiver (0 ∷ [])).state ≢ 18)
lost = (λ e. absurd (omega (arith, e)), λ e. absurd (omega (arith, e)))

-- A message of one word, sealed by a fresh run into buffers of zeros with whatever keyed function: what is asked of a call that opens it again.
found : SealingMemory
found = sealing_memory (record { run = 1; next = 0 }) (replicate 2 0) (replicate 16 0) (record { bytes = replicate 6 0 })

sealed : (f : ℕ → ℕ) → (left : SealingMemory) × (done left ≡ sealing_due f (0xFF ∷ 0xFF ∷ []) (0x34 ∷ 0x12 ∷ []) found)
unfolding sealing_due seal_outcome seal_fault found
sealed f = ((sealing_due f (0xFF ∷ 0xFF ∷ []) (0x34 ∷ 0x12 ∷ []) found).memory, refl)
