use Rattle.std.proofs.Common.{ℕ, get_or, ap, ◌∙◌}
use lib.Bits.{bit_xor}
use Rattle.sss.specs.Cipher.{keyed}
use Rattle.functions.proofs.table.TableKeyedFunction.apply.Goals as goal

pub returns-clause-value : goal.returns-clause-value
unfolding keyed
returns-clause-value g c _ =
    ap (λ (i : ℕ). bit_xor (get_or c.args.self.now.entries i 0) c.args.a) (c.from.ensures ∙ c.high_byte.ensures)
