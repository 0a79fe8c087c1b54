-- Nothing differs exactly where the message is as the published cipher has it.
use Rattle.std.proofs.Common.{◌≡◌, Bool, true, false, cond, List, [], ◌∷◌, ◌++◌, sym, refl, ap, ◌∙◌}
use Rattle.std.proofs.lemmas.Bool.{cond-true}
use Rattle.vectors.specs.declared.vector.Vector.{Vector}
use Rattle.vectors.specs.declared.compare.Comparison.{Comparison}
use Rattle.vectors.specs.declared.compare.Comparison.TheVariants.{Wire, SealedTag, Plaintext, OpenedTag}
use Rattle.vectors.specs.declared.compare.Difference.{Difference}
use Rattle.vectors.specs.declared.compare.FunctionName.{FunctionName}
use Rattle.vectors.specs.declared.compare.Way.{Way}
use Rattle.vectors.specs.Ways.{Published, NoneExactly, One, Keyed, Then, FromKeyWays, TableWays, AllWays, failed, key_function}

left_none : (p q : List Difference) → p ++ q ≡ [] → p ≡ []
left_none [] q e = refl
left_none (d ∷ p) q e = cc

right_none : (p q : List Difference) → p ++ q ≡ [] → q ≡ []
right_none [] q e = e
right_none (d ∷ p) q e = cc

none_held : (b : Bool) (d : Difference) → cond b [] (d ∷ []) ≡ [] → b ≡ true
none_held true d e = refl
none_held false d e = cc

-- Where each part is empty exactly when P holds, so are both together.
Exactly : Type 0 → (List Difference → Type 0) → Type 0
Exactly P Q = (part : List Difference) → Q part → (part ≡ [] → P) × (P → part ≡ [])

then_exactly : (P : Type 0) (Q R : List Difference → Type 0) → Exactly P Q → Exactly P R → Exactly P (Then Q R)
unfolding Exactly
then_exactly P Q R first second part (p, q, hp, hq, e) = (
  λ none. (first p hp).0 (left_none p q (sym e ∙ none)),
  λ holds. e ∙ ap (λ (x : List Difference). x ++ q) ((first p hp).1 holds) ∙ (second q hq).1 holds,
)

module _ (v : Vector) where
  one_exactly : (w : Way) → Exactly (Published v) (One (key_function v) v w)
  unfolding Exactly
  one_exactly w part (held, j, e) = (
    λ none.
        let f : (k : Comparison) → List Difference = failed held w in
        let all = sym e ∙ none in
        let rest = right_none (f Wire) (f SealedTag ++ (f Plaintext ++ f OpenedTag)) all in
        let rest' = right_none (f SealedTag) (f Plaintext ++ f OpenedTag) rest in
        let at : (k : Comparison) → f k ≡ [] → held k ≡ true = λ k h. none_held (held k) (record { way = w; comparison = k }) h in
        record {
          wire = j.wire.0 (at Wire (left_none (f Wire) (f SealedTag ++ (f Plaintext ++ f OpenedTag)) all));
          sealed_tag = j.sealed_tag.0 (at SealedTag (left_none (f SealedTag) (f Plaintext ++ f OpenedTag) rest));
          plaintext = j.plaintext.0 (at Plaintext (left_none (f Plaintext) (f OpenedTag) rest'));
          opened_tag = j.opened_tag.0 (at OpenedTag (right_none (f Plaintext) (f OpenedTag) rest'));
        },
    λ p.
        let at : (k : Comparison) → held k ≡ true → failed held w k ≡ [] = λ k h. cond-true (held k) [] (record { way = w; comparison = k } ∷ []) h in
        let one = at Wire (j.wire.1 p.wire) in
        let two = at SealedTag (j.sealed_tag.1 p.sealed_tag) in
        let three = at Plaintext (j.plaintext.1 p.plaintext) in
        let four = at OpenedTag (j.opened_tag.1 p.opened_tag) in
        e ∙ (λ i. one i ++ (two i ++ (three i ++ four i))),
  )

  keyed_exactly : (f : FunctionName) → Exactly (Published v) (Keyed v f)
  keyed_exactly f = then_exactly (Published v) _ _ (one_exactly _) (one_exactly _)

  pub none_exactly : (found : List Difference) → AllWays v found → NoneExactly v found
  unfolding Exactly
  none_exactly found ways =
      let key : Exactly (Published v) (FromKeyWays v) = then_exactly (Published v) _ _ (keyed_exactly _) (keyed_exactly _) in
      let filled_given = then_exactly (Published v) _ _ (keyed_exactly _) (keyed_exactly _) in
      let table : Exactly (Published v) (TableWays v) = then_exactly (Published v) _ _ filled_given (keyed_exactly _) in
      let both = then_exactly (Published v) (FromKeyWays v) (TableWays v) key table found ways in
      both
