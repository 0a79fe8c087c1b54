use Rattle.sss.specs.Cipher.{opened_message, message_tag}
use Rattle.sss.proofs.Asked.{asked_so}
use Rattle.sss.proofs.Refusals.{takes_nonce_so}
use Rattle.sss.proofs.Returned.{message_back}
use Rattle.sss.proofs.message.open_message.Goals as goal

pub returns : goal.returns
unfolding opened_message message_tag
returns g c =
    let A = g.C.Coefficient.image c.args.a.now in
    takes_nonce_so c.args.nonce.now _ _ _ c.pass_message.result c.pass_message.ensures (λ t opened. asked_so opened (λ f said. (
      said.0,
      said.1,
      message_back f A c.args.nonce.now c.args.words.now c.pass_message.new.words t said.0 said.1,
    )))
