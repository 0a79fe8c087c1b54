-- What the calls on whole messages come to, with a keyed function that means f.
use Rattle.std.specs.Prelude.{◌≡◌, ℕ, ◌≤◌, cond, List, length, take, nat_lt}
use Rattle.sss.specs.Bytes.{Octets}
use Rattle.sss.specs.Cipher.{product}
use Rattle.sss.specs.declared.fault.Fault.TheVariants.{Exhausted}
use Rattle.message.specs.Buffers.{written_over}
use Rattle.message.specs.Outcomes.{OpenOutcome, SealOutcome, open_outcome, seal_outcome}
use Rattle.capi.specs.Calls.{Outcome, answered, done, refused}
use Rattle.capi.specs.Issuers.{counted, next_nonce}
use Rattle.capi.specs.declared.issuer.FutsambolyIssuer.{FutsambolyIssuer}
use Rattle.capi.specs.declared.issuer.FutsambolyNonce.{FutsambolyNonce}

-- The memory that a call may write to seal a message.
pub record SealingMemory : Type 0 where
  pub issuer : FutsambolyIssuer
  pub output : List ℕ
  pub tag : List ℕ
  pub nonce : FutsambolyNonce

abbrev pub sealing_memory : FutsambolyIssuer → (output tag : List ℕ) → FutsambolyNonce → SealingMemory
sealing_memory issuer output tag nonce = record { issuer = issuer; output = output; tag = tag; nonce = nonce }

-- To seal: where all message numbers are issued it is refused. Else the next one is drawn, and counted whatever comes of the message; answer, output
-- and tag are those of sealing with its nonce.
unfoldable pub sealing_due : (f : ℕ → ℕ) (masks input : List ℕ) → SealingMemory → Outcome SealingMemory
sealing_due f masks input found =
    let nonce : List ℕ = next_nonce found.issuer in
    let sealed : SealOutcome = seal_outcome f product nonce masks input found.output found.tag in
    cond (nat_lt found.issuer.next 65536)
    (answered sealed.answer (sealing_memory (counted found.issuer) sealed.output sealed.tag (record { bytes = nonce })))
    (refused Exhausted found)

-- To open: answer and output are those of opening.
unfoldable pub opening_due : (f : ℕ → ℕ) (nonce masks input tag output : List ℕ) → Outcome (List ℕ)
opening_due f nonce masks input tag output =
    let opened : OpenOutcome = open_outcome f product nonce masks input output tag in
    answered opened.answer opened.output

-- OPEN AFTER SEAL. What a call left that sealed a plaintext, whatever its memory held before, opens with the same keyed function, nonce and masks to
-- that plaintext, in any output with room for it.
abbrev pub OpensAgain : (f : ℕ → ℕ) (nonce masks input tag output : List ℕ) → (number : ℕ) → (output' : List ℕ) → Type 0
OpensAgain f nonce masks input tag output number output' =
    (plain : List ℕ) (found left : SealingMemory) → Octets plain → done left ≡ sealing_due f masks plain found →
    nonce ≡ left.nonce.bytes → input ≡ take (length plain) left.output → tag ≡ left.tag → length plain ≤ length output →
    (number ≡ 0) × (output' ≡ written_over plain output)
