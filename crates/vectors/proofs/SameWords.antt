-- What `==` says of the words of two messages.
use Rattle.std.proofs.Common.{◌≡◌, ℕ, Bool, nat_eq, List, vec_items, Decides, refl, ap, ◌∙◌}
use Rattle.std.specs.Cmp.Lexicographic.{pointwise}
use Rattle.std.proofs.lemmas.Bool.{and_parts, and_from}
use Rattle.std.proofs.lemmas.Bool.Decides.{Decides-eqb}
use Rattle.std.proofs.lemmas.Slice.Eq.{slice_eq-Decides}
use Rattle.sss.specs.declared.MaskedWord.{MaskedWord}
use Rattle.vectors.specs.declared.compare.Comparison.{Comparison}
use Rattle.vectors.specs.declared.compare.Comparison.TheVariants.{Wire, SealedTag, Plaintext, OpenedTag}
use Rattle.vectors.specs.declared.compare.Outcome.{Outcome}
use Rattle.vectors.specs.declared.vector.Vector.{Vector}
use Rattle.vectors.specs.Ways.{Holds}
use Rattle.sss.specs.contracts.message.MaskedWordPartialEq.TheImpl.{ghosts}

-- `==` at two words, mask and text.
abbrev pub equal : MaskedWord → MaskedWord → Bool
equal = ghosts.eq

same_word : (x y : MaskedWord) → x.mask ≡ y.mask → x.text ≡ y.text → x ≡ y
same_word x y m t = ap (λ (n : ℕ). record { mask = n; text = x.text }) m ∙ ap (λ (n : ℕ). record { mask = y.mask; text = n }) t

-- It decides whether they are equal.
decided : (x y : MaskedWord) → Decides (equal x y) (x ≡ y)
decided x y = (
  λ h. let p = and_parts _ _ h in same_word x y ((Decides-eqb x.mask y.mask).0 p.0) ((Decides-eqb x.text y.text).0 p.1),
  λ e. and_from _ _ ((Decides-eqb x.mask y.mask).1 (ap (λ (w : MaskedWord). w.mask) e)) ((Decides-eqb x.text y.text).1 (ap (λ (w : MaskedWord). w.text) e)),
)

pub words_decided : (xs ys : List MaskedWord) (r : Bool) → r ≡ pointwise equal xs ys → Decides r (xs ≡ ys)
words_decided xs ys r e = slice_eq-Decides decided xs ys r e

-- Whether each comparison holds, as a test.
abbrev pub held : Outcome → Vector → Comparison → Bool
held o v Wire = pointwise equal (vec_items o.wire) (vec_items v.wire)
held o v SealedTag = pointwise nat_eq o.sealed_tag v.tag
held o v Plaintext = pointwise equal (vec_items o.plaintext) (vec_items v.plaintext)
held o v OpenedTag = pointwise nat_eq o.opened_tag v.tag

pub held_decides : (o : Outcome) (v : Vector) (k : Comparison) → Decides (held o v k) (Holds o v k)
held_decides o v Wire = words_decided _ _ _ refl
held_decides o v SealedTag = slice_eq-Decides Decides-eqb _ _ _ refl
held_decides o v Plaintext = words_decided _ _ _ refl
held_decides o v OpenedTag = slice_eq-Decides Decides-eqb _ _ _ refl
