-- What a field's flaw says of the line, and what its value says of the field.
use Rattle.std.proofs.Common.{◌≡◌, MatchResult, Result, Ok, Err, subst}
use Rattle.fields.specs.Placing.{placed}

module _ {T F E : Type 0} (P : T → Type 0) (N : F → Type 0) (place : F → E) where
  pub ok_of : (read : Result T F) (x : T) → Path (Result T E) (Ok x) (placed place read) → MatchResult read P N → P x
  ok_of (Ok y) x e h = let same : y ≡ x = cc in subst P same h
  ok_of (Err flaw) x e h = absurd cc

  pub err_of : (read : Result T F) (e : E) → Path (Result T E) (Err e) (placed place read) → MatchResult read P N → (flaw : F) × (e ≡ place flaw) × N flaw
  err_of (Ok y) e is h = absurd cc
  err_of (Err flaw) e is h = let same : e ≡ place flaw = cc in (flaw, same, h)
