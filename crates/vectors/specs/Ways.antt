-- The ten ways in which a message is sealed and opened, and what differs in them.
use Rattle.std.specs.Prelude.{◌≡◌, ℕ, Bool, cond, ◌↔◌, List, [], ◌∷◌, ◌++◌, vec_items, Decides}
use Rattle.sss.specs.Cipher.{keyed, key_table, product, sealed_message, opened_message, message_tag}
use Rattle.sss.specs.declared.MaskedWord.{MaskedWord}
use Rattle.vectors.specs.declared.vector.Vector.{Vector}
use Rattle.vectors.specs.declared.compare.Comparer.{Comparer}
use Rattle.vectors.specs.declared.compare.Comparison.{Comparison}
use Rattle.vectors.specs.declared.compare.Comparison.TheVariants.{Wire, SealedTag, Plaintext, OpenedTag}
use Rattle.vectors.specs.declared.compare.Difference.{Difference}
use Rattle.vectors.specs.declared.compare.FunctionName.{FunctionName}
use Rattle.vectors.specs.declared.compare.FunctionName.TheVariants.{FromKey, FilledTable, GivenTable, LazyOverKey, LazyTwice}
use Rattle.vectors.specs.declared.compare.CoefficientName.TheVariants.{PrintedTable, FieldRule}
use Rattle.vectors.specs.declared.compare.Outcome.{Outcome}
use Rattle.vectors.specs.declared.compare.Way.{Way}

-- What the published cipher makes of a message, with the keyed function f and the coefficient A: wire words and tag of its plaintext.
abbrev pub sealed_of : (ℕ → ℕ) → (ℕ → ℕ) → Vector → List MaskedWord
sealed_of f A v = sealed_message f A (vec_items v.nonce) (vec_items v.plaintext)

abbrev pub tag_of : (ℕ → ℕ) → (ℕ → ℕ) → Vector → List ℕ
tag_of f A v = message_tag f A (vec_items v.nonce) (vec_items v.plaintext)

-- And plaintext words and tag of its wire words.
abbrev pub opened_of : (ℕ → ℕ) → (ℕ → ℕ) → Vector → List MaskedWord
opened_of f A v = opened_message f A (vec_items v.nonce) (vec_items v.wire)

abbrev pub opened_tag_of : (ℕ → ℕ) → (ℕ → ℕ) → Vector → List ℕ
opened_tag_of f A v = message_tag f A (vec_items v.nonce) (opened_of f A v)

-- The keyed function of the message's own key.
abbrev pub key_function : Vector → ℕ → ℕ
key_function v = keyed (key_table (vec_items v.key))

-- The outcome is what the published cipher makes of the message.
pub record Made (f A : ℕ → ℕ) (v : Vector) (o : Outcome) : Type 0 where
  pub wire : vec_items o.wire ≡ sealed_of f A v
  pub sealed_tag : o.sealed_tag ≡ tag_of f A v
  pub plaintext : vec_items o.plaintext ≡ opened_of f A v
  pub opened_tag : o.opened_tag ≡ opened_tag_of f A v

-- What is compared of the outcome is as the message has it.
abbrev pub Holds : Outcome → Vector → Comparison → Type 0
Holds o v Wire = vec_items o.wire ≡ vec_items v.wire
Holds o v SealedTag = o.sealed_tag ≡ v.tag
Holds o v Plaintext = vec_items o.plaintext ≡ vec_items v.plaintext
Holds o v OpenedTag = o.opened_tag ≡ v.tag

-- Each comparison held exactly where the published cipher makes of the message what the message has.
pub record Judged (f A : ℕ → ℕ) (v : Vector) (held : Comparison → Bool) : Type 0 where
  pub wire : Decides (held Wire) (sealed_of f A v ≡ vec_items v.wire)
  pub sealed_tag : Decides (held SealedTag) (tag_of f A v ≡ v.tag)
  pub plaintext : Decides (held Plaintext) (opened_of f A v ≡ vec_items v.plaintext)
  pub opened_tag : Decides (held OpenedTag) (opened_tag_of f A v ≡ v.tag)

-- The message is as the published cipher has it, for its own key: wire words, plaintext words and tag, from either side.
pub record Published (v : Vector) : Type 0 where
  pub wire : sealed_of (key_function v) product v ≡ vec_items v.wire
  pub sealed_tag : tag_of (key_function v) product v ≡ v.tag
  pub plaintext : opened_of (key_function v) product v ≡ vec_items v.plaintext
  pub opened_tag : opened_tag_of (key_function v) product v ≡ v.tag

-- Nothing differs exactly where the message is as the published cipher has it.
abbrev pub NoneExactly : Vector → List Difference → Type 0
NoneExactly v found = (found ≡ []) ↔ Published v

-- The comparison of this way where it failed, and nothing where it held.
abbrev pub failed : (Comparison → Bool) → Way → Comparison → List Difference
failed held w k = cond (held k) [] (record { way = w; comparison = k } ∷ [])

-- The comparisons of this way that failed.
abbrev pub all_failed : (Comparison → Bool) → Way → List Difference
all_failed held w = failed held w Wire ++ (failed held w SealedTag ++ (failed held w Plaintext ++ failed held w OpenedTag))

-- What was found grew at its end, by a part of which P holds.
abbrev pub Adds : (List Difference → Type 0) → List Difference → List Difference → Type 0
Adds P before after = (part : List Difference) × P part × (after ≡ before ++ part)

-- The comparer found more, of which P holds with the message that it has still.
abbrev pub Finds : (Vector → List Difference → Type 0) → Comparer → Comparer → Type 0
Finds P before after = (after.vector ≡ before.vector) × Adds (P before.vector.now) (vec_items before.found) (vec_items after.found)

-- What differs from the message in the outcome of this way.
abbrev pub Noted : Outcome → Way → Vector → List Difference → Type 0
Noted o w v part = (held : Comparison → Bool) × ((k : Comparison) → Decides (held k) (Holds o v k)) × (part ≡ all_failed held w)

-- What differs in this way, with the keyed function f.
abbrev pub One : (ℕ → ℕ) → Vector → Way → List Difference → Type 0
One f v w part = (held : Comparison → Bool) × Judged f product v held × (part ≡ all_failed held w)

-- The one part and then the other.
abbrev pub Then : (List Difference → Type 0) → (List Difference → Type 0) → List Difference → Type 0
Then P Q part = (p : List Difference) × (q : List Difference) × P p × Q q × (part ≡ p ++ q)

-- What differs with this function, at each coefficient in turn.
abbrev pub Both : (ℕ → ℕ) → Vector → FunctionName → List Difference → Type 0
Both f v name = Then (One f v (record { function = name; coefficient = PrintedTable })) (One f v (record { function = name; coefficient = FieldRule }))

-- The same with the message's own key.
abbrev pub Keyed : Vector → FunctionName → List Difference → Type 0
Keyed v = Both (key_function v) v

-- What differs in the ways that compute from the key.
abbrev pub FromKeyWays : Vector → List Difference → Type 0
FromKeyWays v = Then (Keyed v FromKey) (Keyed v LazyOverKey)

-- What differs in the ways that use a table filled or given.
abbrev pub TableWays : Vector → List Difference → Type 0
TableWays v = Then (Then (Keyed v FilledTable) (Keyed v GivenTable)) (Keyed v LazyTwice)

-- What differs in all ten ways.
abbrev pub AllWays : Vector → List Difference → Type 0
AllWays v = Then (FromKeyWays v) (TableWays v)
