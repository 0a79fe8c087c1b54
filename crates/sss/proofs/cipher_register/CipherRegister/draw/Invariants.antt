use Rattle.std.proofs.Common.{◌≡◌, length}
use Rattle.sss.specs.Asked.{Asked}
use Rattle.sss.proofs.Closing.{Drawing}
use Rattle.sss.proofs.cipher_register.CipherRegister.draw.Given as goal

abbrev pub invariant-loop-word : goal.invariant-loop-word
invariant-loop-word g l =
    (length l.word-items ≡ 8) ×
    Asked g.K.KeyedFunction l.initial.f l.f (λ f. Drawing f l.initial.self l.self l.word-items l.word-index)
