use Rattle.std.proofs.Common.{ap, ◌∙◌}
use Rattle.sss.specs.Cipher.{BothRegisters, keystream}
use Rattle.sss.proofs.Asked.{asked_then}
use Rattle.sss.proofs.BothRegisters.{opened_with}
use Rattle.sss.proofs.registers.Registers.open_masked_word.Goals as goal

pub returns : goal.returns
returns g c =
    let A = g.C.Coefficient.image c.args.a.now in
    let before = c.args.self.now in
    let mask = c.args.mask in
    let wire = c.args.wire in
    let v = c.keystream-v.result in
    asked_then c.keystream-v.ensures c.absorb.ensures (λ f drawn absorbed.
    let opened = opened_with f A before mask wire v (drawn ∙ ap (λ (s : BothRegisters). keystream f s.r) c.self.view_is) in
    (opened.0, absorbed ∙ opened.1))
