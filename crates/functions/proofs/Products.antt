-- The coefficient of the check register by its rule.
use Rattle.std.specs.Prelude.{◌≡◌, ℕ, zero, suc, ◌+◌, ◌-◌, ◌*◌, ◌/◌, ◌%◌, ◌<◌, ◌≤◌, List, map, bit_xor, nat_lt, slice_index, refl}
use Rattle.std.specs.List.{range_with_len}
use Rattle.std.proofs.Common.{sym, ◌∙◌, ap, arith}
use Rattle.std.proofs.lemmas.List.FromFn.{get_or-map-range_with_len}
use Rattle.std.proofs.lemmas.Nat.{xor_block}
use Rattle.std.proofs.lemmas.Bool.{cond-true, cond-false, lt-ltb, le-ltb}
use Rattle.sss.specs.Tables.{products}
use Rattle.sss.specs.Cipher.{Word, product, times_z, times_z_power}

-- The multiplication table: entry i is i times z^16.
products_by_rule : products ≡ map (times_z_power 16) (range_with_len 0 256)
unfolding products times_z times_z_power
products_by_rule = refl

pub product_rule : (i : ℕ) → i < 256 → slice_index products i ≡ times_z_power 16 i
product_rule i h =
    ap (λ (xs : List ℕ). slice_index xs i) products_by_rule ∙ get_or-map-range_with_len (times_z_power 16) 0 256 i i 0 h (omega arith)

-- The two ways of a product with z, as the code has them.
pub times_z_low : (a : ℕ) → a < 32768 → a * 2 % 65536 ≡ times_z a
unfolding times_z
times_z_low a h = omega arith ∙ sym (cond-true (nat_lt a 32768) (a * 2) (bit_xor (a * 2) 0x1500F) (lt-ltb a 32768 h))

pub times_z_high : (a : ℕ) → Word a → 32768 ≤ a → bit_xor (a * 2 % 65536) 0x500F ≡ times_z a
unfolding times_z
times_z_high a w h =
    let x = a * 2 % 65536 in
    let split : a * 2 ≡ 1 * 65536 + x = omega arith in
    let low : x < 65536 = omega arith in
    let block = xor_block 16 1 1 x 0x500F low (omega arith) in
    sym (cond-false (nat_lt a 32768) (a * 2) (bit_xor (a * 2) 0x1500F) (le-ltb a 32768 h) ∙
    ap (λ (y : ℕ). bit_xor y 0x1500F) split ∙ block ∙ omega arith)

-- The powers of z, one step at a time.
pub times_z_power_more : (n a : ℕ) → 0 < n → times_z_power n a ≡ times_z_power (n - 1) (times_z a)
unfolding times_z_power
times_z_power_more zero a h = absurd (omega arith)
times_z_power_more (suc n) a h = let e : n ≡ suc n - 1 = omega arith in ap (λ (k : ℕ). times_z_power k (times_z a)) e

pub times_z_power_none : (n a : ℕ) → n ≡ 0 → times_z_power n a ≡ a
unfolding times_z_power
times_z_power_none n a e = ap (λ (k : ℕ). times_z_power k a) e

-- The coefficient by the rule is the coefficient by the table.
pub product_by_rule : (a : ℕ) → Word a → bit_xor (a % 256 * 256) (times_z_power 16 (a / 256)) ≡ product a
unfolding product
product_by_rule a w = ap (bit_xor (a % 256 * 256)) (sym (product_rule (a / 256) (omega arith)))
