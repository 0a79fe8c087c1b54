use Rattle.std.proofs.Common.{◌∙◌}
use Rattle.sss.specs.Cipher.{BothRegisters}
use Rattle.sss.proofs.Asked.{asked_then}
use Rattle.sss.proofs.BothRegisters.{opened_sealed, same_registers}
use Rattle.sss.proofs.registers.Registers.open_sealed_word.Goals as goal

pub returns : goal.returns
returns g c =
    let A = g.C.Coefficient.image c.args.a.now in
    let before : BothRegisters = record { r = c.self.inside.cipher; c = c.self.inside.check } in
    rw (← c.self.view_is) (asked_then c.keystream.ensures c.step.ensures (λ f drawn stepped.
    let opened = opened_sealed f A before c.args.wire c.keystream.result c.keystream.type_inv drawn in
    (opened.0, same_registers stepped.0 c.step-2.ensures ∙ opened.1)))
