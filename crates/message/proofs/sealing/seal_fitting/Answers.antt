use Rattle.std.proofs.Common.{length, ap, ◌∙◌}
use Rattle.sss.specs.Cipher.{message_tag, sealed_message}
use Rattle.sss.proofs.Asked.{asked_so}
use Rattle.message.specs.Buffers.{sealed_tag, wire_bytes}
use Rattle.message.proofs.Buffers.{begun_with}
use Rattle.message.proofs.sealing.seal_fitting.Goals as goal

pub returns-clause-sealed : goal.returns-clause-sealed
unfolding wire_bytes sealed_tag sealed_message message_tag
returns-clause-sealed g c =
    let A = g.C.Coefficient.image c.args.a.now in
    let nonce = c.args.nonce.now in
    let masks = c.args.masks.now in
    let copied = c.copy_from_slice.ensures.after in
    asked_so c.pass_message-drawn.ensures (λ f so. (
      begun_with c.args.output.now (so.0 ∙ ap (wire_bytes f A nonce masks) copied) (c.pass_message-drawn.auto.bytes ∙ ap length copied),
      c.copy_from_slice-2.ensures.after ∙ so.1 ∙ ap (sealed_tag f A nonce masks) copied,
    ))
