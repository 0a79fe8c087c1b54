-- What follows from the promise of a call that takes a nonce, and from a nonce that fits or does not.
use Rattle.std.proofs.Common.{◌≡◌, ℕ, ◌%◌, true, false, eqb, leb, List, length, Ok, Err, Result, inl, inr}
use Rattle.std.proofs.lemmas.Bool.{le-leb, leb-true, eq-eqb, eqb-true, cases_Bool, and_from, and_parts}
use Rattle.sss.specs.Cipher.{NonceFits, nonce_fits}
use Rattle.sss.specs.Outcomes.{TakesNonce}
use Rattle.sss.specs.declared.fault.Fault.{Fault}

pub takes_nonce_so : {T : Type 0} (nonce : List ℕ) (P Q : T → Type 0) (U : Type 0) (r : Result T Fault) → TakesNonce nonce P U r →
    ((x : T) → P x → Q x) → TakesNonce nonce Q U r
takes_nonce_so nonce P Q U (Ok x) p so = (p.0, so x p.1)
takes_nonce_so nonce P Q U (Err e) p so = p

-- What the test says of a nonce.
pub nonce_fits_true : (bytes : List ℕ) → NonceFits bytes → nonce_fits bytes ≡ true
nonce_fits_true bytes fits = and_from _ _ (eq-eqb (length bytes % 2) 0 fits.0) (le-leb (length bytes) 32 fits.1)

pub nonce_fits_false : (bytes : List ℕ) → (NonceFits bytes → ⊥) → nonce_fits bytes ≡ false
nonce_fits_false bytes unfit =
    elim (cases_Bool (nonce_fits bytes)) [
      | inl yes' ↦
          let parts = and_parts (eqb (length bytes % 2) 0) (leb (length bytes) 32) yes' in
          absurd (unfit (eqb-true (length bytes % 2) 0 parts.0, leb-true (length bytes) 32 parts.1))
      | inr no' ↦ no'
    ]
