-- Message numbers and nonces.
use Rattle.std.specs.Prelude.{◌≡◌, ℕ, ◌+◌, ◌<◌, ◌≤◌, List, ◌++◌, Ok, Err, Result}
use Rattle.sss.specs.Bytes.{low_bytes}
use Rattle.sss.specs.declared.Fault.{Fault}
use Rattle.sss.specs.declared.Fault.TheVariants.{Exhausted}
use Rattle.link.specs.declared.issuer.Issuer.{Issuer}
use Rattle.link.specs.declared.issuer.Nonce.{Nonce}

-- A draw gives the run number and the next message number, which is then issued. Where all 65,536 are issued it refuses, and nothing is
-- changed.
abbrev pub Draws : Issuer → Result Nonce Fault → Issuer → Type 0
Draws before (Ok n) after =
    (before.issued < 65536) × (n.run ≡ before.run) × (n.message ≡ before.issued) × (after.run ≡ before.run) × (after.issued ≡ before.issued + 1)
Draws before (Err e) after = (65536 ≤ before.issued) × (e ≡ Exhausted) × (after ≡ before)

-- A nonce's six bytes: the run number, then the message number.
unfoldable pub nonce_bytes : Nonce → List ℕ
nonce_bytes n = low_bytes 4 n.run ++ low_bytes 2 n.message
