use Rattle.std.proofs.Common.{[], ◌∷◌, ◌∙◌}
use Rattle.link.specs.declared.call.Call.TheVariants.{OnSealer, OnReceiver}
use Rattle.link.specs.declared.call.SealerCall.TheVariants as on_sealer
use Rattle.link.specs.declared.call.ReceiverCall.TheVariants as on_receiver
use Rattle.link_examples.specs.Worked.{given_up}
use Rattle.link_examples.proofs.worked.given_up.Goals as goal

pub returns : goal.returns
unfolding given_up
returns c =
    let calls = c.in_ok-vec.ensures.items ∙
    (λ i. c.begins.ensures i ∷ c.seals.ensures i ∷ OnSealer on_sealer.Abandon ∷ OnReceiver (on_receiver.Begin c.in_ok-nonce.nonce) ∷
    c.hears.ensures i ∷ []) in
    (c.in_ok-nonce.nonce, c.in_ok-nonce.ensures.items, calls)
