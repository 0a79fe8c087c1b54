use Rattle.sss.specs.Cipher.{sealed_mask}
use Rattle.sss.proofs.Asked.{asked_so}
use Rattle.sss.proofs.Returned.{word_back}
use Rattle.sss.proofs.registers.Registers.open_word.Goals as goal

pub returns-then-mask-eq-SEALED : goal.returns-then-mask-eq-SEALED
returns-then-mask-eq-SEALED g c =
    let A = g.C.Coefficient.image c.args.a.now in
    rw c.if-mask-eq-SEALED.true (asked_so c.open_sealed_word.ensures (λ f opened.
    (opened.0, opened.1, word_back f A c.args.self.now sealed_mask c.args.wire c.open_sealed_word.result c.open_sealed_word.new.self opened.0 opened.1)))

pub returns-else-mask-eq-SEALED : goal.returns-else-mask-eq-SEALED
returns-else-mask-eq-SEALED g c =
    let A = g.C.Coefficient.image c.args.a.now in
    asked_so c.open_masked_word.ensures (λ f opened.
    (opened.0, opened.1, word_back f A c.args.self.now c.args.mask c.args.wire c.open_masked_word.result c.open_masked_word.new.self opened.0 opened.1))
