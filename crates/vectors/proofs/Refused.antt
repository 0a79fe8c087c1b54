-- What one way answers, of a message whose key fits.
use Rattle.std.proofs.Common.{◌≡◌, inr, List, ℕ, Ok, Err, Result, vec_items, Bor, subst}
use Rattle.sss.specs.Cipher.{KeyFits}
use Rattle.vectors.specs.declared.compare.Stopped.{Stopped}
use Rattle.vectors.specs.declared.compare.Stopped.TheVariants.{Refused, NoMemory}
use Rattle.vectors.specs.declared.vector.Vector.{Vector}
use Rattle.vectors.specs.Refusals.{FitKey, Takes, TakesWay}

way_takes : {T : Type 0} (v : Vector) (r : Result T Stopped) → FitKey v → TakesWay v r → Takes v r
way_takes v (Ok x) fits takes = (fits, takes)
way_takes v (Err (Refused fault)) fits takes = inr (fits, takes.0, takes.1)
way_takes v (Err NoMemory) fits takes = tt

-- A later way of the message v is one of the message w that the comparer began with.
pub way_decides : {T : Type 0} (v w : Bor Vector) (key : List ℕ) (r : Result T Stopped) → key ≡ vec_items w.now.key → KeyFits key → v ≡ w → TakesWay v.now r → Takes w.now r
way_decides v w key r is fits same takes = way_takes w.now r (subst KeyFits is fits) (subst (λ (x : Bor Vector). TakesWay x.now r) same takes)
