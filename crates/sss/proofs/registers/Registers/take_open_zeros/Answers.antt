use Rattle.std.proofs.Common.{◌≡◌, ℕ, ◌+◌, ◌-◌, sym, refl, ap, ◌∙◌, arith}
use Rattle.sss.specs.Cipher.{open_zeros}
use Rattle.sss.proofs.Asked.{not_asked, asked_so, asked_then}
use Rattle.sss.proofs.Beginning.{zeros_more, zeros_all}
use Rattle.sss.proofs.registers.Registers.take_open_zeros.Goals as goal

pub loop-init : goal.loop-init
loop-init g c = not_asked refl

pub loop-preserved : goal.loop-preserved
loop-preserved g c =
    let A = g.C.Coefficient.image c.args.a.now in
    let now = c.loop.self in
    let next = c.seal_word.new.self in
    let left : 17 - (c.loop.counter + 1) ≡ 17 - c.loop.counter - 1 = omega arith in
    asked_then c.loop.invariant c.seal_word.ensures (λ f so sealed.
    ap (λ (n : ℕ). open_zeros f A n next) left ∙ zeros_more f A (17 - c.loop.counter) now next (omega arith) sealed.1 ∙ so)

pub returns : goal.returns
returns g c =
    let A = g.C.Coefficient.image c.args.a.now in
    asked_so c.loop.invariant (λ f so. sym (zeros_all f A (17 - c.loop.counter) c.loop.self (omega arith)) ∙ so)
