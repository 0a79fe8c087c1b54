-- The issuer of a run in C's memory.
use Rattle.std.specs.Prelude.{◌≡◌, ℕ, ◌+◌, ◌<◌, ◌≤◌, List, Ok, Err, Result}
use Rattle.sss.specs.declared.fault.Fault.{Fault}
use Rattle.sss.specs.declared.fault.Fault.TheVariants.{Exhausted}
use Rattle.link.specs.Issuing.{nonce_bytes}
use Rattle.link.specs.declared.issuer.Nonce.{Nonce}
use Rattle.capi.specs.declared.issuer.FutsambolyIssuer.{FutsambolyIssuer}
use Rattle.capi.specs.declared.issuer.FutsambolyNonce.{FutsambolyNonce}

-- The bytes of the nonce that an issuer gives next, and the issuer once it is given.
abbrev pub next_nonce : FutsambolyIssuer → List ℕ
next_nonce issuer = nonce_bytes (record { run = issuer.run; message = issuer.next })

abbrev pub counted : FutsambolyIssuer → FutsambolyIssuer
counted issuer = record { run = issuer.run; next = issuer.next + 1 }

-- A draw gives the next nonce, puts its bytes down and counts it. Where all 65,536 are issued it refuses, and nothing is changed.
abbrev pub Draws : FutsambolyIssuer → FutsambolyNonce → Result Nonce Fault → FutsambolyIssuer → FutsambolyNonce → Type 0
Draws issuer nonce (Ok drawn) issuer' nonce' =
    (issuer.next < 65536) × (nonce_bytes drawn ≡ next_nonce issuer) × (nonce' ≡ record { bytes = next_nonce issuer }) × (issuer' ≡ counted issuer)
Draws issuer nonce (Err fault) issuer' nonce' =
    (65536 ≤ issuer.next) × (fault ≡ Exhausted) × (nonce' ≡ nonce) × (issuer' ≡ issuer)
