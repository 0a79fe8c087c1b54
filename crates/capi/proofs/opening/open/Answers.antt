use Rattle.sss.proofs.Asked.{asked_so}
use Rattle.capi.proofs.OpenAfterSeal.{opens_again}
use Rattle.capi.proofs.Outcomes.{opening_done}
use Rattle.capi.proofs.opening.open.Goals as goal

pub returns-clause-outcome : goal.returns-clause-outcome
returns-clause-outcome g c =
    let a = c.args in
    asked_so c.open.ensures.outcome (λ f so. opening_done f a.nonce.now a.masks.now a.input.now a.tag.now a.output.now _ _ so)

pub returns-clause-back : goal.returns-clause-back
returns-clause-back g c =
    let a = c.args in
    asked_so c.open.ensures.laws (λ f laws. opens_again f a.nonce.now a.masks.now a.input.now a.tag.now a.output.now _ _ laws.back)
