use Rattle.std.proofs.Common.{Bool, cond, length, replicate, rules, sym, ap, ◌∙◌}
use Rattle.sss.specs.Cipher.{message_tag, opened_message}
use Rattle.sss.proofs.Asked.{asked_so}
use Rattle.message.specs.Buffers.{due_tag, plain_bytes}
use Rattle.message.proofs.Checked.{compared_other, compared_same}
use Rattle.message.proofs.opening.open_into.Goals as goal

pub returns-then-ne-clause-opened : goal.returns-then-ne-clause-opened
unfolding due_tag opened_message message_tag
returns-then-ne-clause-opened g c =
    let A = g.C.Coefficient.image c.args.a.now in
    let nonce = c.args.nonce.now in
    let masks = c.args.masks.now in
    asked_so c.pass_message-due.ensures (λ f so.
    λ same. compared_other c.as_slice.result.now c.args.tag.now c.if-ne.ensures (c.as_slice.ensures ∙ so.1 ∙ ap (due_tag f A nonce masks) c.copy_from_slice.ensures.after ∙ sym same))

pub returns-clause-opened : goal.returns-clause-opened
unfolding plain_bytes due_tag opened_message message_tag
returns-clause-opened g c =
    let A = g.C.Coefficient.image c.args.a.now in
    let nonce = c.args.nonce.now in
    let masks = c.args.masks.now in
    let held = c.confirm.new.self.bytes.now in
    let confirmed = ap (λ (b : Bool). cond b held (replicate (length held) 0)) c.confirm.ensures.agreed ∙ c.confirm.ensures.bytes in
    asked_so c.pass_message-due.ensures (λ f so. (
      sym (compared_same c.as_slice.result.now c.args.tag.now c.if-ne.ensures) ∙ c.as_slice.ensures ∙ so.1 ∙ ap (due_tag f A nonce masks) c.copy_from_slice.ensures.after,
      search rules ∙ c.drop-plain-2.ensures ∙ confirmed ∙ so.0 ∙ ap (plain_bytes f A nonce masks) c.copy_from_slice.ensures.after,
    ))
