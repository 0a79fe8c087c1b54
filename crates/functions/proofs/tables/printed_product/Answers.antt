use Rattle.std.proofs.Common.{ℕ, get_or, ap, ◌∙◌}
use Rattle.sss.specs.Tables.{products}
use Rattle.functions.proofs.Products.{product_rule}
use Rattle.functions.proofs.tables.printed_product.Goals as goal

pub returns : goal.returns
unfolding products
returns c =
    let entry = ap (λ (i : ℕ). get_or products i 0) c.from.ensures in
    record { value = entry; rule = entry ∙ product_rule c.args.b c.ranges.b.fits }
