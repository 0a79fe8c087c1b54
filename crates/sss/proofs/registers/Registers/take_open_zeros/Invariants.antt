use Rattle.std.proofs.Common.{◌≡◌, ◌-◌}
use Rattle.sss.specs.Asked.{Asked}
use Rattle.sss.specs.Cipher.{open_zeros}
use Rattle.sss.proofs.registers.Registers.take_open_zeros.Given as goal

-- What is left of the seventeen leads to the end.
abbrev pub invariant-loop : goal.invariant-loop
invariant-loop g l =
    let A = g.C.Coefficient.image l.a in
    Asked g.K.KeyedFunction l.initial.f l.f (λ f. open_zeros f A (17 - l.counter) l.self ≡ open_zeros f A 17 l.initial.self)
