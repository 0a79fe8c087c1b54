-- Parts added one after another.
use Rattle.std.proofs.Common.{◌≡◌, ℕ, List, [], ◌++◌, vec_items, Bor, refl, sym, ap, ◌∙◌, subst, append_assoc}
use Rattle.sss.specs.Cipher.{key_table, keyed, product}
use Rattle.vectors.specs.declared.compare.Comparer.{Comparer}
use Rattle.vectors.specs.declared.compare.Comparison.TheVariants.{Wire, SealedTag, Plaintext, OpenedTag}
use Rattle.vectors.specs.declared.compare.Difference.{Difference}
use Rattle.vectors.specs.declared.compare.FunctionName.{FunctionName}
use Rattle.vectors.specs.declared.compare.Outcome.{Outcome}
use Rattle.vectors.specs.declared.compare.Way.{Way}
use Rattle.vectors.specs.declared.vector.Vector.{Vector}
use Rattle.vectors.specs.Ways.{Adds, Both, Finds, Keyed, Made, Noted, One, Then}
use Rattle.std.specs.Prelude.{Decides}

adds_then : (P Q : List Difference → Type 0) (a b c : List Difference) → Adds P a b → Adds Q b c → Adds (Then P Q) a c
adds_then P Q a b c (p, hp, e) (q, hq, f) = (p ++ q, (p, q, hp, hq, refl), f ∙ ap (λ (x : List Difference). x ++ q) e ∙ append_assoc a p q)

pub finds_then : (P Q : Vector → List Difference → Type 0) (a b c : Comparer) → Finds P a b → Finds Q b c → Finds (λ v. Then (P v) (Q v)) a c
finds_then P Q a b c (same, first) (same', second) =
    let second' = subst (λ (v : Vector). Adds (Q v) (vec_items b.found) (vec_items c.found)) (ap (λ x. x.now) same) second in (
      same' ∙ same,
      adds_then (P a.vector.now) (Q a.vector.now) (vec_items a.found) (vec_items b.found) (vec_items c.found) first second',
    )

-- What a comparer that began with nothing has found.
pub finds_all : (P : Vector → List Difference → Type 0) (a b : Comparer) → vec_items a.found ≡ [] → Finds P a b → P a.vector.now (vec_items b.found)
finds_all P a b none (same, (p, hp, e)) = let same : p ≡ vec_items b.found = cc in subst (P a.vector.now) same hp

-- What is noted of an outcome that the cipher makes is what differs in its way.
pub noted_made : (f : ℕ → ℕ) (o : Outcome) (w : Way) (a b : Comparer) → Made f product a.vector.now o → Finds (Noted o w) a b → Finds (λ v. One f v w) a b
noted_made f o w a b made (same, (part, (held, decides, e), grown)) =
    let v = a.vector.now in (
      same,
      (
        part,
        (
          held,
          record {
            wire = subst (λ ws. Decides (held Wire) (ws ≡ vec_items v.wire)) made.wire (decides Wire);
            sealed_tag = subst (λ t. Decides (held SealedTag) (t ≡ v.tag)) made.sealed_tag (decides SealedTag);
            plaintext = subst (λ ws. Decides (held Plaintext) (ws ≡ vec_items v.plaintext)) made.plaintext (decides Plaintext);
            opened_tag = subst (λ t. Decides (held OpenedTag) (t ≡ v.tag)) made.opened_tag (decides OpenedTag);
          },
          e,
        ),
        grown,
      ),
    )

-- What differs with the table of the message's key is what differs with the message's own key.
pub finds_keyed : (name : FunctionName) (S : List ℕ) (a b : Comparer) → S ≡ key_table (vec_items a.vector.now.key) → Finds (λ v. Both (keyed S) v name) a b → Finds (λ v. Keyed v name) a b
finds_keyed name S a b e (same, more) = (same, subst (λ (T : List ℕ). Adds (Both (keyed T) a.vector.now name) (vec_items a.found) (vec_items b.found)) e more)

-- The key of the message, which the comparer has still.
pub key_kept : (P : Vector → List Difference → Type 0) (a b : Comparer) → Finds P a b → key_table (vec_items a.vector.now.key) ≡ key_table (vec_items b.vector.now.key)
key_kept P a b (same, more) = ap (λ (v : Bor Vector). key_table (vec_items v.now.key)) (sym same)
