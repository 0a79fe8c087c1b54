-- What is done by asking a keyed function.
use Rattle.std.specs.Prelude.{ℕ}
use Rattle.sss.specs.Cipher.{keyed}
use Rattle.sss.specs.Kept.{Kept}
use Rattle.sss.specs.declared.keyed.KeyedFunction.{Ghosts as Keyed}

-- The same of two values of one implementation.
abbrev pub Keeps : {K : Type 0} → Keyed K → K → K → Type 0
Keeps F k k' = Kept (F.table k) (F.sound k) (F.table k') (F.sound k')

-- The map on words that a keyed function means.
abbrev pub function_of : {K : Type 0} → Keyed K → K → ℕ → ℕ
function_of F k = keyed (F.table k)

-- A call that asked a keyed function: where the function is sound the promise holds of the map on words that it means, and afterwards it means
-- the same and is sound if it was.
pub record Asked {K : Type 0} (F : Keyed K) (before after : K) (Promise : (ℕ → ℕ) → Type 0) : Type 0 where
  pub promise : F.sound before → Promise (function_of F before)
  pub kept : Keeps F before after
