use Rattle.std.proofs.Common.{vec_items, sym, ap, ◌∙◌, subst}
use Rattle.sss.specs.Cipher.{NonceFits, begun}
use Rattle.link.specs.Ends.{receiver_made}
use Rattle.link.specs.declared.call.ReceiverEntry.TheVariants.{Begun, Refused, Received, BrokenOff, Finished}
use Rattle.sss.proofs.Refusals.{nonce_fits_true, nonce_fits_false}
use Rattle.link.proofs.Engines.{not_worked, worked_so}
use Rattle.link.proofs.receiver.Receiver.take.Goals as goal

pub returns-in-Ok-clause-made : goal.returns-in-Ok-clause-made
unfolding receiver_made
returns-in-Ok-clause-made g c =
    let nonce = c.in-Begin.nonce in
    let bytes = c.deref.ensures.value in
    let said = c.in-Ok.ensures.value in
    rw (c.in-Begin.is, nonce_fits_true (vec_items nonce) (subst NonceFits bytes said.0)) (worked_so said.1.worked (λ f A begin i. (
      record { reception = said.1.reception i; registers = (begin ∙ ap (begun f A) bytes) i },
      Begun nonce,
    )))

pub returns-in-Err-clause-made : goal.returns-in-Err-clause-made
unfolding receiver_made
returns-in-Err-clause-made g c =
    let nonce = c.in-Begin.nonce in
    let bytes = c.deref.ensures.value in
    let said = c.in-Err.ensures.value in
    let engine = said.2.engine in
    rw (c.in-Begin.is, nonce_fits_false (vec_items nonce) (λ fits. said.0 (subst NonceFits (sym bytes) fits)))
    (not_worked (ap (λ e. e.function) engine) (ap (λ e. e.coefficient) engine) (λ f A i. (
      record { reception = (said.2.footing i).reception; registers = (engine i).registers },
      Refused nonce (said.1 i),
    )))

pub returns-in-Word-clause-made : goal.returns-in-Word-clause-made
unfolding receiver_made
returns-in-Word-clause-made g c =
    rw c.in-Word.is (worked_so c.word-answer.ensures.worked (λ f A opened i. (
      record { reception = c.word-answer.ensures.reception i; registers = opened.1 i },
      Received c.in-Word.mask c.in-Word.wire (opened.0 i),
    )))

pub returns-in-Break-clause-made : goal.returns-in-Break-clause-made
unfolding receiver_made
returns-in-Break-clause-made g c =
    let left = c.break_off.ensures in
    rw c.in-Break.is (not_worked (ap (λ e. e.function) left.engine) (ap (λ e. e.coefficient) left.engine) (λ f A i. (
      record { reception = left.reception i; registers = (left.engine i).registers },
      BrokenOff,
    )))

pub returns-in-Finish-clause-made : goal.returns-in-Finish-clause-made
unfolding receiver_made
returns-in-Finish-clause-made g c =
    let left = c.finish-verdict.ensures in
    rw c.in-Finish.is (worked_so left.worked (λ f A judged i. (
      record { reception = left.reception i; registers = left.registers i },
      Finished c.in-Finish.tag (judged i),
    )))
