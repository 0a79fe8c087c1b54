use Rattle.std.proofs.Common.{◌∙◌}
use Rattle.std.proofs.lemmas.List.{length-take-le}
use Rattle.sss.proofs.Asked.{asked_so}
use Rattle.message.proofs.Checked.{tag_decides}
use Rattle.message.proofs.opening.open_fitting.Goals as goal

pub returns-clause-opened : goal.returns-clause-opened
returns-clause-opened g c =
    let a = c.args in
    let A = g.C.Coefficient.image a.a.now in
    let opened = c.open_into.ensures in
    asked_so opened.opened (λ f so.
    tag_decides f A a.nonce.now a.masks.now a.input.now a.output.now a.tag.now c.open_into.result c.open_into.new.bytes (c.open_into.auto.bytes ∙ length-take-le _ a.output.now c.requires.lengths.room) opened.wiped opened.fault so)
