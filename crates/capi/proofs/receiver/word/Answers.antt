use Rattle.capi.proofs.Receivings.{takes_word}
use Rattle.capi.proofs.receiver.word.Goals as goal

pub returns : goal.returns
returns c =
    let stands = c.in_ok-linked.ensures in
    let said = c.word.ensures in
    let worked = said.worked.asked.promise stands.sound in
    takes_word c.args.receiver.now _ _ stands _ _ c.put_down.ensures c.args.mask c.args.wire c.args.answer.now _ _ worked.0 worked.1 said.reception c.answer_given.ensures
