-- Keyed functions that are sound, each with its table.
use Rattle.std.specs.Prelude.{◌≡◌, ℕ, List, [], ◌∷◌, replicate}
use Rattle.sss.specs.declared.keyed.KeyedFunction.{Ghosts as Keyed}

-- A keyed function that is sound and means this table.
pub record SoundWith {K : Type 0} (F : Keyed K) (S : List ℕ) (k : K) : Type 0 where
  pub sound : F.sound k
  pub table : F.table k ≡ S

-- The table of a fresh function.
abbrev pub zeros : List ℕ
zeros = replicate 256 0

-- The key of the loaded functions.
abbrev pub the_key : List ℕ
the_key = 3 ∷ 1 ∷ 4 ∷ 1 ∷ 5 ∷ []
