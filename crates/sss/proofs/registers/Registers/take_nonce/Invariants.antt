use Rattle.std.proofs.Common.{◌≡◌, drop}
use Rattle.sss.specs.Asked.{Asked}
use Rattle.sss.proofs.Beginning.{pairs_taken}
use Rattle.sss.proofs.registers.Registers.take_nonce.Given as goal

-- What is left of the nonce leads to the end.
abbrev pub invariant-loop-pair : goal.invariant-loop-pair
invariant-loop-pair g l =
    let A = g.C.Coefficient.image l.a in
    Asked g.K.KeyedFunction l.initial.f l.f (λ f. pairs_taken f A l.self (drop l.pair-index l.pairs) ≡ pairs_taken f A l.initial.self l.pairs)
