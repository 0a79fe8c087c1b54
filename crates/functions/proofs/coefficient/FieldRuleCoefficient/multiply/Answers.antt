use Rattle.std.proofs.Common.{◌≡◌, ℕ, ◌%◌, ◌*◌, fold, refl, ap, ◌∙◌, sym, arith, rules}
use Rattle.std.proofs.iter.Yields.{nat_range_steps}
use Rattle.std.proofs.lemmas.Fn.{fold_over}
use Rattle.std.proofs.lemmas.Iterator.{YieldsList-from_range}
use Rattle.std.proofs.lemmas.List.Sums.{fold_push}
use Rattle.std.specs.List.{range_with_len}
use Rattle.sss.specs.Cipher.{times_z, times_z_power}
use Rattle.functions.proofs.Products.{product_by_rule}
use Rattle.functions.proofs.coefficient.FieldRuleCoefficient.multiply.Goals as goal

pub returns : goal.returns
unfolding times_z_power
returns c =
    let a = c.args.a in
    let by_z : ℕ → ℕ → ℕ = λ p _. times_z p in
    let power : c.fold-product.result ≡ times_z_power 16 c.from.result =
    fold_over nat_range_steps (λ x. x) _ (λ xs p. p ≡ fold by_z c.from.result xs) _
    (λ xs p x q f before called.
    let said : q ≡ times_z p = search rules in
    (said ∙ ap times_z before ∙ sym (fold_push by_z c.from.result xs x), search rules))
    (record { start = 0; end = 16 }) (range_with_len 0 16) _ _ (YieldsList-from_range 0 16 16 refl refl).runs refl c.fold-product.ensures.ran in
    let high : a * 256 % 65536 ≡ a % 256 * 256 = omega arith in
    cc (product_by_rule a c.ranges.a.fits)
