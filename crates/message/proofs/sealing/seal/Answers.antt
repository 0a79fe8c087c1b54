use Rattle.std.proofs.Common.{arith, ℕ, List, Err, Some, Result, refl, sym, ap, ◌∙◌}
use Rattle.std.proofs.lemmas.Result.{err_from_is_err_and}
use Rattle.sss.specs.declared.fault.Fault.{Fault}
use Rattle.link.specs.Issuing.{nonce_bytes}
use Rattle.sss.proofs.Asked.{not_asked, asked_so}
use Rattle.message.specs.Buffers.{written_over, sealed_tag, wire_bytes}
use Rattle.message.proofs.BothEnds.{like_sealer}
use Rattle.message.proofs.Sound.{sound_also}
use Rattle.message.specs.Outcomes.{left_by_seal}
use Rattle.message.proofs.Checked.{seal_done, seal_refused}
use Rattle.message.proofs.sealing.seal.Goals as goal

pub returns-in_err-check_lengths-clause-outcome : goal.returns-in_err-check_lengths-clause-outcome
returns-in_err-check_lengths-clause-outcome g c =
    let a = c.args in
    let A = g.C.Coefficient.image a.a.now in
    let p = err_from_is_err_and c.from_residual.result c.from_residual.ensures.1 in
    not_asked
    (ap (λ (r : Result (Unit {0}) Fault). left_by_seal r a.output.now a.tag.now) (p.1 ∙ ap Err p.2) ∙
    seal_refused _ A (nonce_bytes a.nonce) a.masks.now a.input.now a.output.now a.tag.now _ c.in_err-check_lengths.ensures)

pub returns-in_err-check_lengths-clause-refused : goal.returns-in_err-check_lengths-clause-refused
returns-in_err-check_lengths-clause-refused g c =
    let p = err_from_is_err_and c.from_residual.result c.from_residual.ensures.1 in
    rw (p.1) (c.in_err-check_lengths.ensures ∙ ap Some (sym p.2), (refl, refl, refl))

pub returns-clause-refused : goal.returns-clause-refused
returns-clause-refused g c = c.in_ok-check_lengths.ensures.0

pub returns-clause-outcome : goal.returns-clause-outcome
returns-clause-outcome g c =
    let a = c.args in
    let A = g.C.Coefficient.image a.a.now in
    asked_so c.seal_fitting.ensures.sealed (λ f so.
    seal_done f A (nonce_bytes a.nonce) a.masks.now a.input.now a.output.now a.tag.now c.seal_fitting.new.output c.seal_fitting.new.tag
    c.in_ok-check_lengths.ensures.0 (so.0 ∙ ap (λ (n : List ℕ). written_over (wire_bytes f A n a.masks.now a.input.now) a.output.now) c.bytes.ensures)
    (so.1 ∙ ap (λ (n : List ℕ). sealed_tag f A n a.masks.now a.input.now) c.bytes.ensures))

pub returns-clause-like_sealer : goal.returns-clause-like_sealer
returns-clause-like_sealer g c =
    let a = c.args in
    sound_also g.K.KeyedFunction (g.met.K.KeyedFunction.lawful) (returns-clause-outcome g c) (λ f onef so.
    like_sealer f (g.C.Coefficient.image a.a.now) onef (g.met.C.Coefficient.lawful a.a.now) a.nonce a.masks.now a.input.now a.output.now a.tag.now _ _ _ (λ i. omega (arith, c.type_inv.input i)) so)
