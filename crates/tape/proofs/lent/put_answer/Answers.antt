use Rattle.std.proofs.Common.{codes}
use Rattle.tape.proofs.Placed.{puts_both}
use Rattle.tape.proofs.lent.put_answer.Goals as goal

pub returns-in_ok-place-in-Reading : goal.returns-in_ok-place-in-Reading
returns-in_ok-place-in-Reading c =
    rw (c.in-Reading.is, ← c.digits.ensures) (puts_both c.args.text.now c.put.new.text _ _ _ (codes "reading ") c.digits.result _ c.in_ok-place-in-Reading.ensures c.put-in-Reading.ensures)
