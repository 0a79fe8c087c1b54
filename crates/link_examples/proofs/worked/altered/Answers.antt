use Rattle.std.proofs.Common.{[], ◌∷◌, ◌∙◌}
use Rattle.link.specs.declared.call.Call.TheVariants.{OnSealer, OnReceiver}
use Rattle.link.specs.declared.call.SealerCall.TheVariants as on_sealer
use Rattle.link.specs.declared.call.ReceiverCall.TheVariants as on_receiver
use Rattle.link_examples.specs.Worked.{altered, tag_1}
use Rattle.link_examples.proofs.worked.altered.Goals as goal

pub returns : goal.returns
unfolding altered
returns c =
    let calls = c.in_ok-vec.ensures.items ∙
    (λ i. c.begins.ensures i ∷ c.seals.ensures i ∷ c.seals-2.ensures i ∷ c.seals-3.ensures i ∷ OnSealer on_sealer.Finish ∷
    OnReceiver (on_receiver.Begin c.in_ok-nonce.nonce) ∷ c.hears.ensures i ∷ c.hears-2.ensures i ∷ c.hears-3.ensures i ∷
    OnReceiver (on_receiver.Finish tag_1) ∷ []) in
    (c.in_ok-nonce.nonce, c.in_ok-nonce.ensures.items, calls)
