use Rattle.std.proofs.Common.{Err, ap, ◌∙◌}
use Rattle.std.proofs.lemmas.Result.{err_from_is_err_and}
use Rattle.sss.proofs.Asked.{asked_so, not_asked}
use Rattle.capi.proofs.Outcomes.{sealing_done, sealing_refused}
use Rattle.capi.proofs.sealing.seal.Goals as goal

pub returns-in_err-drawn : goal.returns-in_err-drawn
returns-in_err-drawn g c =
    let a = c.args in
    let p = err_from_is_err_and c.from_residual.result c.from_residual.ensures.1 in
    not_asked
    (sealing_refused _ a.masks.now a.input.now a.output.now a.tag.now a.issuer.now _ a.nonce.now _ c.from_residual.result _ (p.1 ∙ ap Err p.2) c.in_err-drawn.ensures)

pub returns : goal.returns
returns g c =
    let a = c.args in
    asked_so c.seal.ensures.outcome (λ f so.
    sealing_done f a.masks.now a.input.now a.output.now a.tag.now a.issuer.now _ a.nonce.now _ _ _ _ _ c.in_ok-drawn.ensures so)
