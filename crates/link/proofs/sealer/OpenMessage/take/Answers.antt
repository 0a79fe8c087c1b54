use Rattle.std.proofs.Common.{ap}
use Rattle.link.specs.Ends.{ready, in_message, sealer_made}
use Rattle.link.specs.declared.call.SealerCall.TheVariants.{Begin}
use Rattle.link.specs.declared.call.SealerEntry.TheVariants.{Finished, Abandoned, OutOfTurn}
use Rattle.link.proofs.Calls.{word_sealed, word_refused}
use Rattle.link.proofs.Engines.{not_worked, worked_so}
use Rattle.std.proofs.Common.{refl}
use Rattle.link.proofs.sealer.OpenMessage.take.Goals as goal
use Rattle.link.proofs.sealer.OpenMessage.take.Goals.{in-Ok, in-Err}

pub returns-in-Begin-clause-made : goal.returns-in-Begin-clause-made
unfolding sealer_made
returns-in-Begin-clause-made g c =
    let message = c.args.self in
    rw c.in-Begin.is (not_worked refl refl (λ f A i. (in_message message.words message.engine.registers, OutOfTurn (Begin (c.bytes.ensures i)))))

pub returns-after-word-clause-made : goal.returns-after-word-clause-made
returns-after-word-clause-made g c =
    let message = c.args.self in
    let mask = c.in-Word.mask in
    let plain = c.in-Word.plain in
    elim c.match-word.branch [
      | in-Ok w ↦
          let said = w.in-Ok.ensures in
          rw (c.in-Word.is, w.entry-is) (worked_so said.worked (λ f A sealed.
          word_sealed f A message.words _ message.engine.registers _ mask plain _ said.room said.words sealed.0 sealed.1))
      | in-Err w ↦
          let said = w.in-Err.ensures in
          rw (c.in-Word.is, w.entry-is) (not_worked (ap (λ m. m.engine.function) said.2) (ap (λ m. m.engine.coefficient) said.2) (λ f A.
          word_refused f A message.words _ message.engine.registers _ mask plain _ said.0 (ap (λ m. m.words) said.2)
          (ap (λ m. m.engine.registers) said.2) said.1))
    ]

pub returns-in-Finish-clause-made : goal.returns-in-Finish-clause-made
unfolding sealer_made
returns-in-Finish-clause-made g c =
    rw c.in-Finish.is (worked_so c.finish-ready.ensures.worked (λ f A drawn i. (ready (c.finish-ready.ensures.registers i), Finished (drawn i))))

pub returns-in-Abandon-clause-made : goal.returns-in-Abandon-clause-made
unfolding sealer_made
returns-in-Abandon-clause-made g c =
    let left = c.abandon.ensures in
    rw c.in-Abandon.is (not_worked left.function left.coefficient (λ f A i. (ready (left.registers i), Abandoned)))
