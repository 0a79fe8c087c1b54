use Rattle.std.proofs.Common.{rules, ◌≡◌, ℕ, ◌≤◌, List, [], ◌∷◌, map, filter_map, refl, subst, length, take, replicate, Ok, Err, sym, ap, ◌∙◌, arith}
use Rattle.std.proofs.lemmas.List.{take_all}
use Rattle.sss.specs.Bytes.{Octets}
use Rattle.sss.specs.Cipher.{keyed, product, words_of}
use Rattle.functions.specs.Functions.{from_key_table}
use Rattle.message.specs.Buffers.{words_under, written_over}
use Rattle.link.specs.Ends.{new_ends}
use Rattle.link.specs.OneEnd.{receiver_call}
use Rattle.link.specs.declared.call.ReceiverCall.{ReceiverCall}
use Rattle.link.specs.declared.call.Call.TheVariants.{OnReceiver}
use Rattle.message.specs.Laws.{BackAgain, LikeReceiver, receiver_calls}
use Rattle.message.specs.Outcomes.{CallAnswer, seal_outcome}
use Rattle.message_examples.specs.Instances.{IsSealed, LikeNewReceiver, the_masks, the_plain, zero_function}
use Rattle.message_examples.proofs.back.came_back.Goals as goal

octets : Octets the_plain
octets = search rules

-- What was sealed meets what is asked of open.
opens : {f : ℕ → ℕ} {nonce wire tag output output' : List ℕ} {answer : CallAnswer} → f ≡ zero_function → IsSealed nonce wire tag →
    BackAgain f product nonce the_masks wire output tag answer output' → 6 ≤ length output →
    (answer ≡ Ok tt) × (output' ≡ written_over the_plain output)
opens {nonce = nonce} {wire = wire} zeros sealed back room =
    let whole : wire ≡ take 6 wire = sym (take_all 6 wire (omega (arith, sealed.long))) in
    let due = sealed.sealed ∙ (λ i. seal_outcome (sym zeros i) product nonce the_masks the_plain (replicate 6 0) (replicate 16 0)) in
    back the_plain (replicate 6 0) (replicate 16 0) wire octets sealed.fits due whole room

-- Calls on the receiver alone are the receiver's.
alone : (calls : List ReceiverCall) → filter_map receiver_call (map OnReceiver calls) ≡ calls
alone [] = refl
alone (x ∷ xs) = ap (λ (ys : List ReceiverCall). x ∷ ys) (alone xs)

-- So a new receiver does what open does.
like_new : (nonce wire tag output' : List ℕ) {f : ℕ → ℕ} {answer : CallAnswer} → f ≡ zero_function → answer ≡ Ok tt →
    LikeReceiver f product nonce the_masks wire tag answer output' → LikeNewReceiver nonce wire tag output'
like_new nonce wire tag output' {answer = answer} zeros well like v holds =
    let calls = receiver_calls v (words_under the_masks wire) (words_of tag) in
    (subst (λ (f : ℕ → ℕ). LikeReceiver f product nonce the_masks wire tag answer output') zeros like zero_function product (new_ends, []) v holds
    (map OnReceiver calls) (alone calls)).0 well

pub returns : goal.returns
returns c =
    let zeros = ap keyed (ap from_key_table c.new-f.ensures.below ∙ c.new.ensures) in
    let laws = c.in-Ok.ensures.laws.promise (c.new-f.ensures.sound c.new.result.key.lawful) in
    record {
      nonce = c.seal_three.result.nonce;
      wire = c.seal_three.result.wire;
      tag = c.seal_three.result.tag;
      sealed = c.seal_three.ensures;
      back = (opens zeros c.seal_three.ensures laws.back (omega arith)).1;
      like_receiver = like_new c.seal_three.result.nonce c.seal_three.result.wire c.seal_three.result.tag c.open.new.output zeros refl laws.like_receiver;
    }

pub unreachable-requires : goal.unreachable-requires
unreachable-requires c =
    let zeros = ap keyed (ap from_key_table c.new-f.ensures.below ∙ c.new.ensures) in
    let laws = c.in-Err.ensures.laws.promise (c.new-f.ensures.sound c.new.result.key.lawful) in
    let well : Err _ ≡ Ok tt = (opens zeros c.seal_three.ensures laws.back (omega arith)).0 in
    cc
