use Rattle.std.proofs.Common.{◌∙◌}
use Rattle.std.proofs.lemmas.Result.{err_from_is_err_and}
use Rattle.capi.proofs.Receivings.{begin_refused, begins}
use Rattle.capi.proofs.receiver.begin.Goals as goal

pub returns-in_err-begin : goal.returns-in_err-begin
returns-in_err-begin c =
    let p = err_from_is_err_and c.from_residual-in_err-begin.result c.from_residual-in_err-begin.ensures.1 in
    let said = c.in_err-begin.ensures.value in
    begin_refused c.args.receiver.now _ c.in_ok-linked.ensures _ p.0 p.1 c.args.nonce.now said.0 (p.2 ∙ said.1)

pub returns : goal.returns
returns c =
    let stands = c.in_ok-linked.ensures in
    let said = c.in_ok-begin.ensures.value in
    begins c.args.receiver.now _ _ stands _ _ c.put_down.ensures c.args.nonce.now said.0 (said.1.worked.asked.promise stands.sound) said.1.reception
