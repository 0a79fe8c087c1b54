use Rattle.std.proofs.Common.{◌∙◌}
use Rattle.std.proofs.lemmas.Result.{err_from_is_err_and}
use Rattle.capi.proofs.Receivings.{finish_refused, finishes}
use Rattle.capi.proofs.receiver.finish.Goals as goal

pub returns-in_err-words : goal.returns-in_err-words
returns-in_err-words c =
    let p = err_from_is_err_and c.from_residual-in_err-words.result c.from_residual-in_err-words.ensures.1 in
    let said = c.in_err-words.ensures in
    finish_refused c.args.receiver.now _ c.in_ok-linked.ensures _ p.0 p.1 c.args.tag.now c.args.verdict.now said.0 (p.2 ∙ said.1)

pub returns : goal.returns
returns c =
    let stands = c.in_ok-linked.ensures in
    let tag = c.in_ok-words.ensures in
    let said = c.finish.ensures in
    finishes c.args.receiver.now _ _ stands _ _ c.put_down.ensures c.args.tag.now _ c.args.verdict.now _ _ tag.0 tag.1 (said.worked.asked.promise stands.sound) said.registers said.reception c.verdict_number.ensures
