use Rattle.std.proofs.Common.{◌≡◌, ℕ, zero, suc, ◌+◌, ◌<◌, List, [], ◌∷◌, ◌++◌, length, get_or, take, sym, ap, ◌∙◌, add-one, add-zero, append_assoc, append-nil, arith}
use Rattle.link.specs.declared.call.Call.{Call}
use Rattle.link.specs.declared.issuer.Issuer.{Issuer}
use Rattle.link.specs.declared.issuer.Nonce.{Nonce}
use Rattle.weld.specs.Scenario.{message_calls, messages_from}
use Rattle.weld.specs.declared.scenario.Plan.{Plan}
use Rattle.weld.proofs.sending.calls.Goals as goal

-- One message more is that of the next plan, with the next number.
messages_more : (run first : ℕ) (plans : List Plan) (i : ℕ) (d : Plan) → i < length plans →
    messages_from run first (take (suc i) plans) ≡
    messages_from run first (take i plans) ++ message_calls (get_or plans i d) (record { run = run; message = first + i })
messages_more run first [] i d h = absurd (omega arith)
messages_more run first (plan ∷ plans) zero d h = simp (append-nil, add-zero)
messages_more run first (plan ∷ plans) (suc i) d h =
    let number : first + 1 + i ≡ first + suc i = omega arith in
    let others = rw number at (messages_more run (first + 1) plans i d (omega arith)) in
    simp (others, append_assoc)

-- The same of calls that were made so.
made_more : {made so_far : List Call} {nonce : Nonce} (run first : ℕ) (plans : List Plan) (i : ℕ) (d : Plan) → i < length plans →
    so_far ≡ messages_from run first (take i plans) → nonce ≡ record { run = run; message = first + i } →
    made ≡ so_far ++ message_calls (get_or plans i d) nonce → made ≡ messages_from run first (take (suc i) plans)
made_more run first plans i d h before own made =
    made ∙ (λ j. before j ++ message_calls (get_or plans i d) (own j)) ∙ sym (messages_more run first plans i d h)

pub loop-plan-preserved : goal.loop-plan-preserved
loop-plan-preserved c =
    let drawn = c.in_ok-draw.ensures in
    let so_far = c.loop-plan.invariant in
    let run : c.loop-plan.issuer.run ≡ c.args.issuer.now.run = ap (λ (s : Issuer). s.run) so_far.issued in
    let issued : c.loop-plan.issuer.issued ≡ c.args.issuer.now.issued + c.loop-plan.plan-index = ap (λ (s : Issuer). s.issued) so_far.issued in
    let one_more : c.draw.new.self.issued ≡ c.args.issuer.now.issued + (c.loop-plan.plan-index + 1) = omega arith in
    record {
      calls = rw add-one (made_more _ _ c.args.plans.now c.loop-plan.plan-index _ c.loop-plan-test.true so_far.calls
          (λ i. record { run = (drawn.1 ∙ run) i; message = (drawn.2 ∙ issued) i }) c.in_ok-message.ensures);
      issued = λ i. record { run = (drawn.3 ∙ run) i; issued = one_more i };
    }
