use Rattle.std.proofs.Common.{◌≡◌, ℕ, ◌+◌, ◌<◌, true, false, List, [], ◌∷◌, ◌++◌, length, get_or, take, vec_items, Bor, Decides, sym, ap, ◌∙◌, subst, arith}
use Rattle.std.specs.List.{flat_map}
use Rattle.std.proofs.lemmas.Bool.{cond-true, cond-false}
use Rattle.std.proofs.lemmas.Bool.Decides.{same_from_decides}
use Rattle.std.proofs.lemmas.Grind.{flat_map-append}
use Rattle.std.proofs.lemmas.List.{append_assoc, append-nil, take_more, take_all}
use Rattle.vectors.specs.declared.compare.Comparison.{Comparison}
use Rattle.vectors.specs.declared.compare.Comparison.TheVariants.{Wire, SealedTag, Plaintext, OpenedTag}
use Rattle.vectors.specs.declared.compare.Comparer.{Comparer}
use Rattle.vectors.specs.declared.compare.Difference.{Difference}
use Rattle.vectors.specs.declared.vector.Vector.{Vector}
use Rattle.vectors.specs.Ways.{Holds, failed, all_failed}
use Rattle.vectors.proofs.SameWords.{held, held_decides}
use Rattle.vectors.proofs.compare.Comparer.note.Goals as goal
use Rattle.vectors.proofs.compare.Comparer.note.Goals.{then-not-holds+in_ok-push, else-not-holds}

abbrev all : List Comparison
all = Wire ∷ SealedTag ∷ Plaintext ∷ OpenedTag ∷ []

-- One more comparison, and what it failed.
one_more : (f : Comparison → List Difference) (start found more : List Difference) (ks : List Comparison) (i : ℕ) → i < length ks → found ≡ start ++ flat_map f (take i ks) → more ≡ found ++ f (get_or ks i Wire) → more ≡ start ++ flat_map f (take (i + 1) ks)
one_more f start found more ks i h so_far added =
    let k = get_or ks i Wire in
    let whole : flat_map f (take (i + 1) ks) ≡ flat_map f (take i ks) ++ f k = ap (flat_map f) (take_more ks i Wire h) ∙ flat_map-append f (take i ks) (k ∷ []) ∙ ap (λ xs. flat_map f (take i ks) ++ xs) (append-nil (f k)) in
    added ∙ ap (λ xs. xs ++ f k) so_far ∙ append_assoc start (flat_map f (take i ks)) (f k) ∙ ap (λ xs. start ++ xs) (sym whole)

pub loop-comparison-preserved : goal.loop-comparison-preserved
loop-comparison-preserved c =
    let so_far = c.loop-comparison.invariant.so_far in
    let same = c.loop-comparison.invariant.same in
    let i = c.loop-comparison.comparison-index in
    let o = c.args.outcome in
    let v = c.args.self.now.vector.now in
    let k = get_or all i Wire in
    let test : c.holds.result ≡ held o v k = same_from_decides _ _ (subst (λ (x : Vector). Decides c.holds.result (Holds o x k)) (ap (λ (r : Bor Vector). r.now) same) c.holds.ensures.value) (held_decides o v k) in
    let more : List Difference → Type 0 = λ found. found ≡ vec_items c.loop-comparison.self.found ++ failed (held o v) c.args.way k in
    let before = vec_items c.loop-comparison.self.found in
    let added : more (vec_items c.if-not-holds.self.found) =
    elim c.if-not-holds.branch [
      | then-not-holds+in_ok-push w ↦
          let fails : held o v k ≡ false = sym test ∙ w.if-not-holds.true in
          ap (λ (x : Comparer). vec_items x.found) w.self-is ∙ w.in_ok-push.ensures.items ∙ ap (λ xs. before ++ xs) (sym (cond-false (held o v k) [] _ fails))
      | else-not-holds w ↦
          let holds : held o v k ≡ true = sym test ∙ w.if-not-holds.false in
          ap (λ (x : Comparer). vec_items x.found) w.self-is ∙ sym (append-nil before) ∙ ap (λ xs. before ++ xs) (sym (cond-true (held o v k) [] _ holds))
    ] in
    record {
      same = elim c.if-not-holds.branch [
        | then-not-holds+in_ok-push w ↦ ap (λ (x : Comparer). x.vector) w.self-is ∙ same
        | else-not-holds w ↦ ap (λ (x : Comparer). x.vector) w.self-is ∙ same
      ];
      so_far = one_more (failed (held o v) c.args.way) _ _ _ all i (omega arith) so_far added;
    }

pub returns : goal.returns
returns c =
    let o = c.args.outcome in
    let v = c.args.self.now.vector.now in
    let f = failed (held o v) c.args.way in
    let so_far = c.loop-comparison.invariant.so_far in
    let whole : flat_map f (take c.loop-comparison.comparison-index all) ≡ all_failed (held o v) c.args.way =
    ap (flat_map f) (take_all c.loop-comparison.comparison-index all (omega arith)) ∙ ap (λ xs. f Wire ++ (f SealedTag ++ (f Plaintext ++ xs))) (append-nil (f OpenedTag)) in
    (c.loop-comparison.invariant.same, (_, (held o v, held_decides o v, whole), so_far))
