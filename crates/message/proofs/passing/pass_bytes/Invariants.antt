use Rattle.sss.specs.Asked.{Asked}
use Rattle.sss.specs.Bytes.{Octets}
use Rattle.sss.proofs.Passed.{Passing}
use Rattle.message.specs.Buffers.{words_under}
use Rattle.message.proofs.passing.pass_bytes.Given as goal

-- Of the words of the buffer, i are passed.
abbrev pub invariant-loop-i : goal.invariant-loop-i
invariant-loop-i g l =
    let d = g.D.Direction in
    let A = g.C.Coefficient.image l.a in
    Octets l.bytes ×
    Asked g.K.KeyedFunction l.initial.f l.f (λ f.
    Passing (d.words f A) (d.last f A) l.initial.registers (words_under l.masks l.initial.bytes) l.registers
    (words_under l.masks l.bytes) l.i)
