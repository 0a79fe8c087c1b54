use Rattle.std.proofs.Common.{rules, ◌≡◌, vec_items, ◌∙◌, ap, replicate, arith}
use Rattle.sss.specs.Cipher.{key_table, keyed, product}
use Rattle.message.specs.Outcomes.{left_by_seal, seal_outcome}
use Rattle.requests.specs.Replies.{due_sealing}
use Rattle.requests.proofs.Buffers.{all_of}
use Rattle.requests.proofs.call.seal.Goals as goal

pub returns : goal.returns
unfolding due_sealing
returns c =
    let r = c.args.request.now in
    let loaded = c.in-Ok.ensures in
    let entries : c.in-Ok.function.entries ≡ key_table (vec_items r.key) = loaded.1 ∙ ap key_table c.deref.ensures.value in
    let found : c.deref_mut.result.now ≡ replicate r.room 0xA5 = c.deref_mut.ensures.value ∙ c.in_ok-output.ensures.items_if_clones_equal (λ y h. search rules) in
    let found_tag : c.deref_mut-2.result.now ≡ replicate r.tag_room 0x5A = c.deref_mut-2.ensures.value ∙ c.in_ok-tag.ensures.items_if_clones_equal (λ y h. search rules) in
    let whole = all_of c.in_ok-output.output.len c.seal-answer.new.output (vec_items c.in_ok-output.output) (omega (arith, c.seal-answer.auto.output)) in
    let whole_tag = all_of c.in_ok-tag.tag.len c.seal-answer.new.tag (vec_items c.in_ok-tag.tag) (omega (arith, c.seal-answer.auto.tag)) in
    let made = c.seal-answer.ensures.outcome.promise loaded.2 in (
      (omega (arith, loaded.0.0), omega (arith, loaded.0.1)),
      (λ i. left_by_seal c.seal-answer.result (whole i) (whole_tag i)) ∙ made ∙ (λ i. seal_outcome (keyed (entries i)) product (c.nonce.ensures i) (c.deref-2.ensures.value i) (c.deref-3.ensures.value i) (found i) (found_tag i)),
    )
