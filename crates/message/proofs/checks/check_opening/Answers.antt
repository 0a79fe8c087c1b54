use Rattle.std.proofs.Common.{Some, sym, ap, ◌∙◌}
use Rattle.std.proofs.lemmas.Result.{err_from_is_err_and}
use Rattle.message.proofs.Checked.{nonce_unfit, then_lengths}
use Rattle.message.proofs.checks.check_opening.Goals as goal

pub returns-in_err-refuse_unfit_nonce : goal.returns-in_err-refuse_unfit_nonce
returns-in_err-refuse_unfit_nonce c =
    let a = c.args in
    let p = err_from_is_err_and c.from_residual.result c.from_residual.ensures.1 in
    let unfit = c.in_err-refuse_unfit_nonce.ensures in
    rw (p.1) (nonce_unfit a.nonce.now a.masks.now a.input.now a.output.now a.tag.now unfit.0 ∙ ap Some (sym unfit.1 ∙ sym p.2))

pub returns : goal.returns
returns c =
    let a = c.args in
    then_lengths a.nonce.now a.masks.now a.input.now a.output.now a.tag.now _ c.check_lengths.result c.in_ok-refuse_unfit_nonce.ensures c.check_lengths.ensures
