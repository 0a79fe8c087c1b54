use Rattle.std.proofs.Common.{refl}
use Rattle.tape.proofs.Onward.{all_left, behind_item}
use Rattle.tape.proofs.reader.Reader.next_item.Goals as goal

pub returns : goal.returns
returns c =
    let self = c.args.self.now in
    rw c.bytes.ensures.part (behind_item self.place self.tape.now c.in-Some.item (rw (c.in-Some.is, all_left self.place self.tape.now) at c.in_ok-item.ensures), refl, refl)
