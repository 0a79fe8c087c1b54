use Rattle.std.proofs.Common.{◌++◌, codes}
use Rattle.std.specs.Fmt.{decimal}
use Rattle.tape.proofs.Placed.{puts_both}
use Rattle.tape.proofs.lent.put_fault.Goals as goal

pub returns-in-Tape : goal.returns-in-Tape
returns-in-Tape c =
    rw (← c.in-Tape.ensures, ← c.number.ensures, ← c.from.ensures, ← c.place.ensures)
    (puts_both c.args.text.now c.put_counted.new.text _ _ _ (codes "refused " ++ decimal c.from.result) (codes " at " ++ decimal c.place.result) _ c.in_ok-place.ensures c.put_counted-in-Tape.ensures)
