-- A line and its fields.
use Rattle.std.specs.Prelude.{◌≡◌, ℕ, ◌+◌, List, length, count_by, nat_eq}
use Rattle.std.specs.List.{join_with_byte}

-- How many blanks a text has.
abbrev pub blanks : List ℕ → ℕ
blanks text = count_by (λ c. nat_eq c 32) text

-- The texts are the pieces of the line between its blanks: joined by blanks they are the line, and they are one more than it has blanks.
abbrev pub Cut : List ℕ → List (List ℕ) → Type 0
Cut line texts = (line ≡ join_with_byte 32 texts) × (length texts ≡ blanks line + 1)
