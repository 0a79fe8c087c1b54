use Rattle.std.proofs.Common.{[], ◌∷◌, ◌∙◌}
use Rattle.link.specs.declared.call.Call.TheVariants.{OnSealer, OnReceiver}
use Rattle.link.specs.declared.call.SealerCall.TheVariants as on_sealer
use Rattle.link.specs.declared.call.ReceiverCall.TheVariants as on_receiver
use Rattle.link_examples.specs.Worked.{as_sent, tag_0}
use Rattle.link_examples.proofs.worked.as_sent.Goals as goal

pub returns : goal.returns
unfolding as_sent
returns c =
    let calls = c.in_ok-vec.ensures.items ∙
    (λ i. c.begins.ensures i ∷ c.sends_open.ensures i ∷ c.seals.ensures i ∷ OnSealer on_sealer.Finish ∷
    OnReceiver (on_receiver.Begin c.in_ok-nonce.nonce) ∷ c.hears_open.ensures i ∷ c.hears.ensures i ∷ OnReceiver (on_receiver.Finish tag_0) ∷ []) in
    (c.in_ok-nonce.nonce, c.in_ok-nonce.ensures.items, calls)
