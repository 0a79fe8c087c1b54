use Rattle.std.proofs.Common.{rules, ◌≡◌, vec_items, ◌∙◌, ap, replicate, arith}
use Rattle.sss.specs.Cipher.{key_table, keyed, product}
use Rattle.message.specs.Outcomes.{left_by_open, open_outcome}
use Rattle.requests.specs.Replies.{due_opening}
use Rattle.requests.proofs.Buffers.{all_of}
use Rattle.requests.proofs.call.open.Goals as goal

pub returns : goal.returns
unfolding due_opening
returns c =
    let r = c.args.request.now in
    let loaded = c.in-Ok.ensures in
    let entries : c.in-Ok.function.entries ≡ key_table (vec_items r.key) = loaded.1 ∙ ap key_table c.deref.ensures.value in
    let found : c.deref_mut.result.now ≡ replicate r.room 0xA5 = c.deref_mut.ensures.value ∙ c.in_ok-output.ensures.items_if_clones_equal (λ y h. search rules) in
    let whole = all_of c.in_ok-output.output.len c.open-answer.new.output (vec_items c.in_ok-output.output) (omega (arith, c.open-answer.auto.output)) in
    let made = c.open-answer.ensures.outcome.promise loaded.2 in (
      (omega (arith, loaded.0.0), omega (arith, loaded.0.1)),
      (λ i. left_by_open c.open-answer.result (whole i)) ∙ made ∙ (λ i. open_outcome (keyed (entries i)) product (c.deref-2.ensures.value i) (c.deref-3.ensures.value i) (c.deref-4.ensures.value i) (found i) (c.deref-5.ensures.value i)),
    )
