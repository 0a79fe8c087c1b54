-- A field's flaw as the line's.
use Rattle.std.specs.Prelude.{Result, Ok, Err}

-- What was read of a field, with its flaw placed in the line.
abbrev pub placed : {T F E : Type 0} → (F → E) → Result T F → Result T E
placed place (Ok x) = Ok x
placed place (Err flaw) = Err (place flaw)
