-- Which messages are compared, and why one is not.
use Rattle.std.specs.Prelude.{◌≡◌, ◌⊎◌, ⊤, MatchResult, Result, vec_items}
use Rattle.sss.specs.Cipher.{KeyFits, NonceFits}
use Rattle.sss.specs.declared.fault.Fault.TheVariants.{Key, Nonce}
use Rattle.vectors.specs.declared.compare.Stopped.{Stopped}
use Rattle.vectors.specs.declared.compare.Stopped.TheVariants.{Refused, NoMemory}
use Rattle.vectors.specs.declared.vector.Vector.{Vector}

-- The message's key fits the cipher, its nonce does, and both do.
abbrev pub FitKey : Vector → Type 0
FitKey v = KeyFits (vec_items v.key)

abbrev pub FitNonce : Vector → Type 0
FitNonce v = NonceFits (vec_items v.nonce)

abbrev pub Fit : Vector → Type 0
Fit v = FitKey v × FitNonce v

-- Why one way stops: the nonce does not fit, or there is no memory.
abbrev pub WayStops : Vector → Stopped → Type 0
WayStops v (Refused fault) = (FitNonce v → ⊥) × (fault ≡ Nonce)
WayStops v NoMemory = ⊤

-- Why a message is not compared: its key does not fit, which is looked at first; the key fits and the nonce does not; or there is no memory.
abbrev pub StopsFor : Vector → Stopped → Type 0
StopsFor v (Refused fault) = ((FitKey v → ⊥) × (fault ≡ Key)) ⊎ (FitKey v × (FitNonce v → ⊥) × (fault ≡ Nonce))
StopsFor v NoMemory = ⊤

-- One way is gone to its end only where the nonce fits; else it is said why not.
abbrev pub TakesWay : {T : Type 0} → Vector → Result T Stopped → Type 0
TakesWay v r = MatchResult r (λ _. FitNonce v) (WayStops v)

-- A message is compared only where it fits; else it is said why not.
abbrev pub Takes : {T : Type 0} → Vector → Result T Stopped → Type 0
Takes v r = MatchResult r (λ _. Fit v) (StopsFor v)
