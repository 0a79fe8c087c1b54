-- What each implementation of the keyed function means, and what loading does to it.
use Rattle.std.specs.Prelude.{◌≡◌, ℕ, List, Some, None, Ok, Err, Option, Result, slice_index, slice_index_or}
use Rattle.sss.specs.Cipher.{KeyFits, Lawful, key_table}
use Rattle.sss.specs.declared.Fault.{Fault}
use Rattle.sss.specs.declared.Fault.TheVariants.{Key}
use Rattle.functions.specs.declared.lazy.LazyTable.{LazyTable}
use Rattle.functions.specs.declared.from_key.FromKey.{FromKey}

-- The table of the key that is loaded. Of no key it is all zero.
abbrev pub from_key_table : FromKey → List ℕ
from_key_table k = key_table k.key.bytes.items

-- Loading: what fits is taken, and the function is then sound with the table given; all else is refused, and the old function stays.
abbrev pub Loads : {F : Type 0} → (F → List ℕ) → Type 0 → List ℕ → Fault → F → Result (Unit {0}) Fault → F → Type 0
Loads table Fits given fault before (Ok u) after = Fits × (table after ≡ given) × Lawful (table after)
Loads table Fits given fault before (Err e) after = (Fits → ⊥) × (e ≡ fault) × (after ≡ before)

-- A new function of a key, which fits: it is sound with the key's table. Any other key is refused.
abbrev pub IsOfKey : {F : Type 0} → (F → List ℕ) → List ℕ → Result F Fault → Type 0
IsOfKey table key (Ok f) = KeyFits key × (table f ≡ key_table key) × Lawful (table f)
IsOfKey table key (Err e) = (KeyFits key → ⊥) × (e ≡ Key)

-- Each entry that a lazy table remembers is that of the table below.
abbrev pub Remembers : List ℕ → List (Option ℕ) → Type 0
Remembers S entries = (i s : ℕ) → slice_index_or entries i None ≡ Some s → s ≡ slice_index S i

-- A lazy table is sound where the function below it is, and each entry that it remembers is that function's.
abbrev pub LazySound : {K : Type 0} → (K → Type 0) → (K → List ℕ) → LazyTable K → Type 0
LazySound sound table l = sound l.below × Remembers (table l.below) l.entries
