use Rattle.sss.specs.Asked.{Asked}
use Rattle.sss.proofs.Passed.{Passing}
use Rattle.sss.proofs.registers.Registers.pass_words.Given as goal

abbrev pub invariant-loop-word : goal.invariant-loop-word
invariant-loop-word g l =
    let d = g.D.Direction in
    let A = g.C.Coefficient.image l.a in
    Asked g.K.KeyedFunction l.initial.f l.f (λ f.
    Passing (d.words f A) (d.last f A) l.initial.self l.initial.words l.self l.words l.word-index)
