use Rattle.std.proofs.Common.{◌≡◌, ℕ, ◌%◌, ◌*◌, get_or, ap, ◌∙◌, arith}
use Rattle.sss.specs.Tables.{products}
use Rattle.sss.specs.Cipher.{product}
use Rattle.functions.proofs.coefficient.PrintedTableCoefficient.multiply.Goals as goal

pub returns : goal.returns
unfolding product
returns c =
    let entry = c.printed_product.ensures.value ∙ ap (λ (i : ℕ). get_or products i 0) c.high_byte.ensures in
    let high : c.args.a * 256 % 65536 ≡ c.args.a % 256 * 256 = omega arith in
    cc
