use Rattle.std.proofs.Common.{◌≡◌, drop}
use Rattle.sss.specs.Asked.{Asked}
use Rattle.sss.specs.Cipher.{all_fed}
use Rattle.sss.proofs.registers.Registers.feed_check.Given as goal

-- What is left of the words leads to the end.
abbrev pub invariant-loop-word : goal.invariant-loop-word
invariant-loop-word g l =
    Asked g.K.KeyedFunction l.initial.f l.f (λ f.
    all_fed f l.self-inside.cipher (drop l.word-index l.word-items) ≡ all_fed f l.initial.self-inside.cipher l.word-items) ×
    (l.self-inside.check ≡ l.initial.self-inside.check)
