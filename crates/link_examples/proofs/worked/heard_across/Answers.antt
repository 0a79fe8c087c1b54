use Rattle.std.proofs.Common.{[], ◌∷◌, ◌∙◌}
use Rattle.link.specs.declared.call.Call.TheVariants.{OnReceiver}
use Rattle.link.specs.declared.call.ReceiverCall.TheVariants as on_receiver
use Rattle.link_examples.specs.Worked.{heard_across, tag_2}
use Rattle.link_examples.proofs.worked.heard_across.Goals as goal

pub returns : goal.returns
unfolding heard_across
returns c =
    let calls = c.in_ok-vec.ensures.items ∙
    (λ i. OnReceiver (on_receiver.Begin c.in_ok-nonce.nonce) ∷ c.hears.ensures i ∷ OnReceiver on_receiver.Break ∷ c.hears-2.ensures i ∷
    c.hears-3.ensures i ∷ c.hears-4.ensures i ∷ c.hears-5.ensures i ∷ c.hears-6.ensures i ∷ c.hears-7.ensures i ∷ c.hears-8.ensures i ∷
    c.hears-9.ensures i ∷ c.hears-10.ensures i ∷ c.hears-11.ensures i ∷ c.hears-12.ensures i ∷ c.hears-13.ensures i ∷
    c.hears-14.ensures i ∷ c.hears-15.ensures i ∷ c.hears-16.ensures i ∷ c.hears-17.ensures i ∷ c.hears-18.ensures i ∷
    c.hears-19.ensures i ∷ OnReceiver (on_receiver.Finish tag_2) ∷ []) in
    (c.in_ok-nonce.nonce, c.in_ok-nonce.ensures.items, calls)
