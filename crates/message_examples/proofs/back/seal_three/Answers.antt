use Rattle.std.proofs.Common.{rules, ◌≡◌, ℕ, [], map, take, replicate, Some, sym, refl, ap, ◌∙◌, subst}
use Rattle.sss.specs.Cipher.{keyed, product, words_of, zeroed}
use Rattle.link.specs.Ends.{new_ends}
use Rattle.link.specs.Issuing.{nonce_bytes}
use Rattle.link.specs.declared.call.Call.TheVariants.{OnSealer}
use Rattle.message.specs.Buffers.{words_under}
use Rattle.message.specs.Laws.{SealerAdds, sealer_calls, sealer_entries}
use Rattle.sss.specs.declared.fault.Fault.{Fault}
use Rattle.message.specs.Checks.{seal_fault}
use Rattle.message.specs.Outcomes.{seal_outcome}
use Rattle.message_examples.specs.Instances.{the_masks, the_plain, zero_function}
use Rattle.message_examples.proofs.back.seal_three.Goals as goal

pub returns : goal.returns
returns c =
    let sound = c.new-f.result.lawful in
    let zeros = ap keyed c.new-f.ensures in
    let nonce = c.in-Ok.nonce in
    let ws = words_under the_masks the_plain in
    let outcome = c.in-Ok-seal.ensures.outcome.promise sound in
    let like = c.in-Ok-seal.ensures.like_sealer.promise sound in
    let calls = map OnSealer (sealer_calls nonce ws) in
    record {
      drawn = nonce;
      nonce_is = c.bytes-nonce_bytes.ensures;
      fits = search rules;
      long = search rules;
      sealed = outcome ∙ (λ i. seal_outcome (zeros i) product (sym c.bytes-nonce_bytes.ensures i) the_masks the_plain (replicate 6 0) (replicate 16 0));
      like_sealer = subst (λ (f : ℕ → ℕ). SealerAdds f product zero_function product (new_ends, []) calls (sealer_entries (nonce_bytes nonce) ws (words_of (take 6 c.seal.new.output)) (words_of c.seal.new.tag)))
          zeros (like refl zero_function product (new_ends, []) zeroed refl calls refl);
    }

-- All lengths fit, so no check refuses.
no_fault : {fault : Fault} → seal_fault the_masks the_plain (replicate 6 0) (replicate 16 0) ≡ Some fault → ⊥
unfolding seal_fault
no_fault e = cc

pub unreachable-requires-in-Err : goal.unreachable-requires-in-Err
unreachable-requires-in-Err c = no_fault c.in-Err.ensures.refused.0
