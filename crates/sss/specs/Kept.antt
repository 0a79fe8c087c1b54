-- What asking a keyed function leaves.
use Rattle.std.specs.Prelude.{◌≡◌, ℕ, List}

-- A keyed function that was asked means what it meant before, and is sound if it was.
pub record Kept (S : List ℕ) (Sound : Type 0) (S' : List ℕ) (Sound' : Type 0) : Type 0 where
  pub meaning : S' ≡ S
  pub sound : Sound → Sound'
