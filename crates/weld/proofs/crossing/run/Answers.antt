use Rattle.std.proofs.Common.{ℕ, vec_items, sym, refl, ap, ◌∙◌, subst}
use Rattle.sss.specs.Cipher.{keyed, product}
use Rattle.link.specs.Ends.{receiving, registers_of, sealing}
use Rattle.link.specs.Law.{Law}
use Rattle.weld.proofs.crossing.run.Goals as goal

pub returns-clause-law : goal.returns-clause-law
returns-clause-law c =
    let h = c.in_ok-run.field-0 in
    let filled = c.in_ok-filled.ensures in
    let worked_out = c.in_ok-worked_out.ensures in
    subst (λ (f : ℕ → ℕ). Law f product (vec_items h.log) (registers_of (sealing h.sealer)) (receiving h.receiver).registers)
    (ap keyed filled.1) (c.in_ok-run.ensures.law filled.2 worked_out.2 (filled.1 ∙ sym worked_out.1) (λ a word. refl))
