use Rattle.std.proofs.Common.{[], ◌∷◌, ◌∙◌}
use Rattle.link.specs.declared.call.Call.TheVariants.{OnSealer}
use Rattle.link.specs.declared.call.SealerCall.TheVariants as on_sealer
use Rattle.link_examples.specs.Worked.{sent_across}
use Rattle.link_examples.proofs.worked.sent_across.Goals as goal

pub returns : goal.returns
unfolding sent_across
returns c =
    let calls = c.in_ok-vec.ensures.items ∙
    (λ i. c.begins.ensures i ∷ c.seals.ensures i ∷ c.seals-2.ensures i ∷ c.seals-3.ensures i ∷ c.seals-4.ensures i ∷ c.seals-5.ensures i ∷
    c.seals-6.ensures i ∷ c.seals-7.ensures i ∷ c.seals-8.ensures i ∷ c.seals-9.ensures i ∷ c.seals-10.ensures i ∷ c.seals-11.ensures i ∷
    c.seals-12.ensures i ∷ c.seals-13.ensures i ∷ c.seals-14.ensures i ∷ c.seals-15.ensures i ∷ c.seals-16.ensures i ∷
    c.seals-17.ensures i ∷ c.seals-18.ensures i ∷ c.seals-19.ensures i ∷ c.seals-20.ensures i ∷ OnSealer on_sealer.Finish ∷ []) in
    calls
