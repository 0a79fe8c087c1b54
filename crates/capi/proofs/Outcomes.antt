-- What the outcome of a whole message is, refused and done.
use Rattle.std.proofs.Common.{◌≡◌, ℕ, List, Ok, Err, sym, ap, ◌∙◌}
use Rattle.std.proofs.lemmas.Bool.{cond-true, cond-false, le-ltb, lt-ltb}
use Rattle.sss.specs.Cipher.{product}
use Rattle.sss.specs.declared.fault.Fault.{Fault}
use Rattle.link.specs.Issuing.{nonce_bytes}
use Rattle.link.specs.declared.issuer.Nonce.{Nonce}
use Rattle.message.specs.Outcomes.{CallAnswer, OpenOutcome, left_by_open, left_by_seal, open_outcome, seal_outcome}
use Rattle.capi.specs.Calls.{answered}
use Rattle.capi.specs.Issuers.{Draws, next_nonce}
use Rattle.capi.specs.Whole.{opening_due, sealing_due, sealing_memory}
use Rattle.capi.specs.declared.issuer.FutsambolyIssuer.{FutsambolyIssuer}
use Rattle.capi.specs.declared.issuer.FutsambolyNonce.{FutsambolyNonce}

module _ (f : ℕ → ℕ) (masks input output tag : List ℕ) (issuer issuer' : FutsambolyIssuer) (nonce nonce' : FutsambolyNonce) where
  -- Where no message number is left.
  pub sealing_refused : (answer : CallAnswer) (fault : Fault) → answer ≡ Err fault → Draws issuer nonce (Err fault) issuer' nonce' →
      answered answer (sealing_memory issuer' output tag nonce') ≡ sealing_due f masks input (sealing_memory issuer output tag nonce)
  unfolding sealing_due
  sealing_refused answer fault is drawn =
      (λ i. answered ((is ∙ ap Err drawn.1) i) (sealing_memory (drawn.3 i) output tag (drawn.2 i))) ∙
      sym (cond-false _ _ _ (le-ltb issuer.next 65536 drawn.0))

  -- Where a nonce is drawn.
  pub sealing_done : (n : Nonce) (answer : CallAnswer) (output' tag' : List ℕ) → Draws issuer nonce (Ok n) issuer' nonce' →
      left_by_seal answer output' tag' ≡ seal_outcome f product (nonce_bytes n) masks input output tag →
      answered answer (sealing_memory issuer' output' tag' nonce') ≡ sealing_due f masks input (sealing_memory issuer output tag nonce)
  unfolding sealing_due
  sealing_done n answer output' tag' drawn is =
      let sealed : left_by_seal answer output' tag' ≡ seal_outcome f product (next_nonce issuer) masks input output tag =
      is ∙ ap (λ (bytes : List ℕ). seal_outcome f product bytes masks input output tag) drawn.1 in
      (λ i. answered (sealed i).answer (sealing_memory (drawn.3 i) (sealed i).output (sealed i).tag (drawn.2 i))) ∙
      sym (cond-true _ _ _ (lt-ltb issuer.next 65536 drawn.0))

-- Opening.
pub opening_done : (f : ℕ → ℕ) (nonce masks input tag output : List ℕ) (answer : CallAnswer) (output' : List ℕ) →
    left_by_open answer output' ≡ open_outcome f product nonce masks input output tag → answered answer output' ≡ opening_due f nonce masks input tag output
unfolding opening_due
opening_done f nonce masks input tag output answer output' is = ap (λ (o : OpenOutcome). answered o.answer o.output) is
