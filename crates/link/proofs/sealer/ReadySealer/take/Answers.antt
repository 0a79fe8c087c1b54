use Rattle.std.proofs.Common.{refl}
use Rattle.link.specs.Ends.{in_message, sealer_made}
use Rattle.link.specs.declared.call.SealerEntry.TheVariants.{Begun}
use Rattle.link.proofs.Engines.{not_worked, worked_so}
use Rattle.link.proofs.sealer.ReadySealer.take.Goals as goal
use Rattle.link.proofs.sealer.ReadySealer.take.Goals.{in-Word, in-Finish, in-Abandon}

pub returns-in-Begin-clause-made : goal.returns-in-Begin-clause-made
unfolding sealer_made
returns-in-Begin-clause-made g c =
    rw c.in-Begin.is (worked_so c.begin.ensures.worked (λ f A begun i. (
      in_message (c.begin.ensures.words i) (begun i),
      Begun (c.bytes-bytes.ensures i),
    )))

pub returns-clause-made : goal.returns-clause-made
unfolding sealer_made
returns-clause-made g c =
    elim c.match-call.branch [
      | in-Word w ↦ rw (w.in-Word.is, w.unmade-is) (not_worked refl refl (λ f A. refl))
      | in-Finish w ↦ rw (w.in-Finish.is, w.unmade-is) (not_worked refl refl (λ f A. refl))
      | in-Abandon w ↦ rw (w.in-Abandon.is, w.unmade-is) (not_worked refl refl (λ f A. refl))
    ]
