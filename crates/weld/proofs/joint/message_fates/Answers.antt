use Rattle.std.proofs.Common.{◌≡◌, ℕ, ◌+◌, List, [], ◌∷◌, ◌++◌, ap, ◌∙◌, subst, sym, append_assoc, append-nil, arith}
use Rattle.std.proofs.lemmas.List.FromFn.{map-range_with_len_more}
use Rattle.std.proofs.lemmas.Slice.Zip.{all_zipped_more}
use Rattle.weld.specs.Joint.{AreFates, first_words}
use Rattle.weld.specs.Scenario.{IsFateAt}
use Rattle.weld.specs.declared.scenario.Fate.{Fate}
use Rattle.weld.specs.declared.scenario.Plan.{Plan}
use Rattle.weld.proofs.joint.message_fates.Goals as goal

-- One word more.
word_more : (words : List (Plan × ℕ)) (fates : List Fate) (plan : Plan) (n : ℕ) (fate : Fate) →
    AreFates (words ++ first_words plan n) fates → IsFateAt plan n fate → AreFates (words ++ first_words plan (n + 1)) (fates ++ fate ∷ [])
word_more words fates plan n fate so_far is =
    let one : List (Plan × ℕ) = (plan, n) ∷ [] in
    let more : first_words plan (n + 1) ≡ first_words plan n ++ one = map-range_with_len_more (λ (place : ℕ). (plan, place)) 0 n n (omega arith) in
    let Holds : List (Plan × ℕ) → Type 0 = λ words. AreFates words (fates ++ fate ∷ []) in
    subst Holds (append_assoc words (first_words plan n) one ∙ ap (λ (own : List (Plan × ℕ)). words ++ own) (sym more))
    (all_zipped_more (λ (word : Plan × ℕ) (fate : Fate). IsFateAt word.0 word.1 fate) (words ++ first_words plan n) fates (plan, n) fate so_far is)

pub loop-place-init : goal.loop-place-init
loop-place-init c = λ words so_far. subst (λ (words : List (Plan × ℕ)). AreFates words c.args.fates.now.items) (sym (append-nil words)) so_far

pub loop-place-preserved : goal.loop-place-preserved
loop-place-preserved c =
    λ words before. rw c.in_ok-push.ensures.items (word_more words _ _ _ _ (c.loop-place.invariant words before) c.fate.ensures)

pub returns : goal.returns
returns c =
    let all : c.loop-place.place ≡ c.args.plan.now.words = omega (arith, c.loop-place.auto.place-end, c.loop-place-test.false) in
    λ words before. subst (λ (n : ℕ). AreFates (words ++ first_words c.args.plan.now n) c.loop-place.fates.items) all (c.loop-place.invariant words before)
