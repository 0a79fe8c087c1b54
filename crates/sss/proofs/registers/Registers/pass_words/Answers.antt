use Rattle.std.proofs.Common.{arith}
use Rattle.sss.specs.declared.message.MaskedWord.{MaskedWord}
use Rattle.sss.proofs.Asked.{not_asked, asked_so, asked_then}
use Rattle.sss.proofs.Passed.{passing_none, passing_more, passed}
use Rattle.sss.proofs.registers.Registers.pass_words.Goals as goal

pub loop-word-init : goal.loop-word-init
loop-word-init g c = not_asked (passing_none c.args.self.now c.args.words.now)

pub loop-word-preserved : goal.loop-word-preserved
loop-word-preserved g c =
    let A = g.C.Coefficient.image c.args.a.now in
    let none : MaskedWord = record { mask = 0; text = 0 } in
    asked_then c.loop-word.invariant c.pass-word.ensures (λ f so step.
    passing_more (g.met.D.Direction.word_by_word f A) so none c.pass-word.result c.pass-word.new.registers (omega arith) step.0 step.1)

pub returns : goal.returns
returns g c =
    let A = g.C.Coefficient.image c.args.a.now in
    asked_so c.loop-word.invariant (λ f so. passed (g.met.D.Direction.word_by_word f A) so (omega arith))
