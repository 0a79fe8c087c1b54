use Rattle.std.proofs.Common.{refl, ◌∙◌}
use Rattle.std.proofs.lemmas.List.{length-set}
use Rattle.sss.proofs.Asked.{not_asked, asked_so, asked_then}
use Rattle.sss.proofs.Closing.{drawing_none, drawing_more, drawn_words, drawn_register}
use Rattle.sss.proofs.cipher_register.CipherRegister.draw.Goals as goal

pub loop-word-init : goal.loop-word-init
loop-word-init g c = (refl, not_asked (drawing_none _ c.args.self.now _))

pub loop-word-preserved : goal.loop-word-preserved
loop-word-preserved g c =
    let l = c.loop-word in (
      length-set l.word-items l.word-index c.feed.result ∙ l.invariant.0,
      asked_then l.invariant.1 c.feed.ensures (λ f so fed.
          drawing_more f c.args.self.now l.self c.feed.new.self l.word-items l.word-index c.feed.result c.loop-word-test.true l.invariant.0 so fed.0 fed.1),
    )

pub returns : goal.returns
returns g c =
    let l = c.loop-word in
    asked_so l.invariant.1 (λ f so. (
      drawn_words f c.args.self.now l.self l.word-items l.word-index c.loop-word-test.false l.invariant.0 so,
      drawn_register f c.args.self.now l.self l.word-items l.word-index c.loop-word-test.false so,
    ))
