use Rattle.std.proofs.Common.{◌≡◌, ℕ, bit_xor, refl, ◌∙◌, sym, arith}
use Rattle.std.specs.Int.Bits.{xor_zero_r}
use Rattle.sss.proofs.Words.{xor_cancel_left}
use Rattle.weld.proofs.scenario.Fate.of_word.Goals as goal

-- A wire word with one bit changed is another one.
pub returns-in-Altered : goal.returns-in-Altered
returns-in-Altered c =
    let wire = c.args.wire in
    rw c.in-Altered.is (bit_xor wire 256, (λ same. let bit : ◌≡◌ {A = ℕ} 256 0 = xor_cancel_left wire 256 0 (same ∙ sym (xor_zero_r wire)) in absurd (omega arith)), refl)
