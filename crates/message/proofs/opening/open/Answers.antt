use Rattle.std.proofs.Common.{arith, Err, Some, Result, inl, refl, sym, ap, ◌∙◌}
use Rattle.std.proofs.lemmas.Result.{err_from_is_err_and}
use Rattle.sss.specs.declared.fault.Fault.{Fault}
use Rattle.sss.proofs.Asked.{not_asked, asked_so}
use Rattle.message.proofs.BothEnds.{open_laws}
use Rattle.message.proofs.Sound.{sound_also}
use Rattle.message.specs.Outcomes.{left_by_open}
use Rattle.message.proofs.Checked.{open_judged, open_refused, tag_alone}
use Rattle.message.proofs.opening.open.Goals as goal

pub returns-in_err-check_opening-clause-outcome : goal.returns-in_err-check_opening-clause-outcome
returns-in_err-check_opening-clause-outcome g c =
    let a = c.args in
    let A = g.C.Coefficient.image a.a.now in
    let p = err_from_is_err_and c.from_residual.result c.from_residual.ensures.1 in
    not_asked
    (ap (λ (r : Result (Unit {0}) Fault). left_by_open r a.output.now) (p.1 ∙ ap Err p.2) ∙
    open_refused _ A a.nonce.now a.masks.now a.input.now a.output.now a.tag.now _ c.in_err-check_opening.ensures)

pub returns-in_err-check_opening-clause-refused : goal.returns-in_err-check_opening-clause-refused
returns-in_err-check_opening-clause-refused g c =
    let p = err_from_is_err_and c.from_residual.result c.from_residual.ensures.1 in
    rw (p.1) (inl (c.in_err-check_opening.ensures ∙ ap Some (sym p.2), (refl, refl)))

pub returns-in_err-check_opening-clause-laws : goal.returns-in_err-check_opening-clause-laws
returns-in_err-check_opening-clause-laws g c =
    let a = c.args in
    sound_also g.K.KeyedFunction (g.met.K.KeyedFunction.lawful) (returns-in_err-check_opening-clause-outcome g c) (λ f onef so.
    open_laws f (g.C.Coefficient.image a.a.now) onef (g.met.C.Coefficient.lawful a.a.now) a.nonce.now a.masks.now a.input.now a.output.now a.tag.now _ _ (λ i. omega (arith, c.type_inv.nonce i)) (λ i. omega (arith, c.type_inv.input i)) (λ i. omega (arith, c.type_inv.tag i)) so)

pub returns-clause-outcome : goal.returns-clause-outcome
returns-clause-outcome g c =
    let a = c.args in
    let A = g.C.Coefficient.image a.a.now in
    asked_so c.open_fitting.ensures.opened (λ f so.
    open_judged f A a.nonce.now a.masks.now a.input.now a.output.now a.tag.now _ c.in_ok-check_opening.ensures.0 so)

pub returns-clause-refused : goal.returns-clause-refused
returns-clause-refused g c =
    let opened = c.open_fitting.ensures in
    tag_alone _ _ _ c.open_fitting.result c.in_ok-check_opening.ensures.0 opened.fault opened.wiped

pub returns-clause-laws : goal.returns-clause-laws
returns-clause-laws g c =
    let a = c.args in
    sound_also g.K.KeyedFunction (g.met.K.KeyedFunction.lawful) (returns-clause-outcome g c) (λ f onef so.
    open_laws f (g.C.Coefficient.image a.a.now) onef (g.met.C.Coefficient.lawful a.a.now) a.nonce.now a.masks.now a.input.now a.output.now a.tag.now _ _ (λ i. omega (arith, c.type_inv.nonce i)) (λ i. omega (arith, c.type_inv.input i)) (λ i. omega (arith, c.type_inv.tag i)) so)
