use Rattle.std.proofs.Common.{◌≡◌, List, ◌∙◌, subst, vec_items}
use Rattle.std.specs.List.{zip}
use Rattle.std.proofs.lemmas.Result.{IfOk-weaker}
use Rattle.link.specs.declared.call.Call.{Call}
use Rattle.link.specs.declared.call.Entry.{Entry}
use Rattle.weld.specs.Crossings.{Crosses}
use Rattle.weld.specs.Joint.{CarriesAcross}
use Rattle.weld.specs.Runs.{IsRunOf}
use Rattle.weld.specs.Scenario.{messages_from, the_key, the_run}
use Rattle.weld.proofs.crossing.whole_run.Goals as goal

pub returns-clause-crosses : goal.returns-clause-crosses
returns-clause-crosses c =
    let plans = c.args.plans.now in
    let alone = c.in_ok-sealed.sealed in
    let rehearsal = c.new-rehearsal.ensures in
    let first : c.in_ok-calls.field-0.items ≡ messages_from the_run 0 plans =
    c.in_ok-calls.ensures.calls ∙ (λ i. messages_from (rehearsal.run i) (rehearsal.none i) plans) in
    let Sealed : List Call → Type 0 = λ calls. IsRunOf the_key calls alone in
    let Carried : List Call → List Entry → Type 0 = λ sealing log. CarriesAcross plans (zip sealing log) (vec_items c.in_ok-calls-3.calls) in
    let sealed = subst Sealed first c.in_ok-sealed.ensures.run in
    let carried = subst (Carried _) c.deref.ensures.value (subst (λ (sealing : List Call). Carried sealing c.deref.result.now) c.in_ok-calls-2.ensures.calls c.in_ok-calls-3.ensures) in
    IfOk-weaker _ _ (Crosses plans c.args.issuer.now.run c.args.issuer.now.issued) (λ h made. record { alone = alone; calls = vec_items c.in_ok-calls-3.calls; sealed = sealed; carried = carried; made = made }) c.run-2.ensures.run
