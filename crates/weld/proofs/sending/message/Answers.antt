use Rattle.std.proofs.Common.{rules, ◌≡◌, ℕ, Ok, append_assoc, arith}
use Rattle.std.proofs.lemmas.Iterator.{YieldsList-from_map, YieldsList-from_range}
use Rattle.std.proofs.lemmas.Iterator.Adapters.{items_from_extend}
use Rattle.link.specs.declared.call.Call.{Call}
use Rattle.link.specs.declared.call.Call.TheVariants.{OnSealer}
use Rattle.link.specs.declared.call.SealerCall.TheVariants.{Word}
use Rattle.weld.specs.Scenario.{end_of, mask_at, message_calls, plain_at}
use Rattle.weld.proofs.sending.message.Goals as goal
use Rattle.weld.proofs.sending.message.Goals.{in-Finished, in-Abandoned}

pub returns : goal.returns
unfolding message_calls
returns c =
    let plan = c.args.plan.now in
    let seal : ℕ → Call = λ place. OnSealer (Word (mask_at plan place) (plain_at plan place)) in
    let places = YieldsList-from_range 0 plan.words plan.words c.map.ensures.source (omega arith) in
    let words = (items_from_extend {E = ℕ} (Ok c.in_ok-extend.field-0) c.in_ok-extend.ensures.ran (YieldsList-from_map _ seal places c.map.ensures.closure (λ x r q k. search rules))).0 in
    let end : c.match-plan.end ≡ end_of plan.ending = elim c.match-plan.branch [
      | in-Finished w ↦ rw w.in-Finished.is w.end-is
      | in-Abandoned w ↦ rw w.in-Abandoned.is w.end-is
    ] in
    simp (c.in_ok-push-2.ensures.items, words, c.in_ok-push.ensures.items, end, append_assoc)
