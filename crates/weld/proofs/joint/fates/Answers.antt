use Rattle.std.proofs.Common.{◌≡◌, ℕ, suc, ◌+◌, ◌<◌, List, [], ◌∷◌, ◌++◌, length, get_or, take, ap, ◌∙◌, subst, sym, add-one, append-nil}
use Rattle.std.proofs.Math.Seq.{take-suc}
use Rattle.std.proofs.lemmas.Grind.{flat_map-append}
use Rattle.weld.specs.Joint.{AddsFates, AreFates, first_words, words_of}
use Rattle.weld.specs.declared.scenario.Fate.{Fate}
use Rattle.weld.specs.declared.scenario.Plan.{Plan}
use Rattle.weld.proofs.joint.fates.Goals as goal

-- One message more.
message_more : (plans : List Plan) (i : ℕ) (d : Plan) (before after : List Fate) → i < length plans →
    AreFates (words_of (take i plans)) before → AddsFates (get_or plans i d) before after → AreFates (words_of (take (i + 1) plans)) after
message_more plans i d before after h so_far adds =
    let plan = get_or plans i d in
    let more : words_of (take (suc i) plans) ≡ words_of (take i plans) ++ first_words plan plan.words =
    ap words_of (take-suc plans i d h) ∙ flat_map-append _ (take i plans) (plan ∷ []) ∙
    ap (λ (own : List (Plan × ℕ)). words_of (take i plans) ++ own) (append-nil _) in
    rw add-one (subst (λ (words : List (Plan × ℕ)). AreFates words after) (sym more) (adds (words_of (take i plans)) so_far))

pub loop-plan-preserved : goal.loop-plan-preserved
loop-plan-preserved c =
    message_more c.args.plans.now c.loop-plan.plan-index _ c.loop-plan.fates.items _ c.loop-plan-test.true c.loop-plan.invariant c.in_ok-message_fates.ensures
