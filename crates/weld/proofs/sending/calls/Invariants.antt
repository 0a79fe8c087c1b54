use Rattle.std.proofs.Common.{◌≡◌, ◌+◌, take}
use Rattle.weld.specs.Scenario.{messages_from}
use Rattle.weld.proofs.sending.calls.Given as goal

-- The messages so far, with as many numbers issued.
abbrev pub invariant-loop-plan : goal.invariant-loop-plan
invariant-loop-plan l = record {
  calls : l.calls.items ≡ messages_from l.initial.issuer.run l.initial.issuer.issued (take l.plan-index l.plans);
  issued : l.issuer ≡ record l.initial.issuer { issued = l.initial.issuer.issued + l.plan-index };
}
