-- Proofs that implementations keep a trait's law. Nothing here is a definition: the prover has read it.
use Rattle.std.specs.Prelude.{◌≡◌, ℕ, ◌*◌, ◌/◌, ◌%◌, ◌<◌, List, bit_xor, map, length, ◌==◌, slice_index, refl}
use Rattle.std.specs.List.{position_or_len, range_with_len}
use Rattle.std.specs.Int.Bits.{xor_zero_l}
use Rattle.std.proofs.Common.{sym, ◌∙◌, ap, arith}
use Rattle.std.proofs.lemmas.List.{get_or-map, length-map}
use Rattle.std.proofs.lemmas.List.FromFn.{get_or-range_with_len, length-range_with_len}
use Rattle.std.proofs.lemmas.Nat.{xor_mod}
use Rattle.sss.specs.Tables.{products}
use Rattle.sss.specs.Cipher.{Word, OneToOne, product}
use Rattle.sss.proofs.Words.{xor_word, xor_cancel}

-- What is computed over a whole list, read at one entry.
pub read_at : (f : ℕ → ℕ) (xs ys : List ℕ) → map f xs ≡ ys → (i : ℕ) → i < length xs → f (slice_index xs i) ≡ slice_index ys i
read_at f xs ys e i h = sym (get_or-map f xs i 0 0 h) ∙ ap (λ (zs : List ℕ). slice_index zs i) e

-- The first place in a list where the key is that of x.
unfoldable pub place : (ℕ → ℕ) → List ℕ → ℕ → ℕ
place key xs x = position_or_len (λ y. key y == key x) xs

-- Where each entry of a list is the first with its key, no two keys are equal.
pub apart_at : (key : ℕ → ℕ) (xs : List ℕ) (n : ℕ) → map (place key xs) xs ≡ range_with_len 0 n →
    (i j : ℕ) → i < n → j < n → key (slice_index xs i) ≡ key (slice_index xs j) → i ≡ j
unfolding place
apart_at key xs n e i j h l same =
    let long : length xs ≡ n = sym (length-map xs (place key xs)) ∙ ap length e ∙ length-range_with_len 0 n in
    let first = read_at (place key xs) xs (range_with_len 0 n) e in
    let here = first i (omega arith) ∙ get_or-range_with_len 0 n i 0 h in
    let there = first j (omega arith) ∙ get_or-range_with_len 0 n j 0 l in
    let one = ap (λ (k : ℕ). position_or_len (λ y. key y == k) xs) same in
    omega arith

-- THE MULTIPLICATION TABLE has words, and the low bytes of its entries are all different.
products_words : map (λ x. x % 65536) products ≡ products
unfolding products
products_words = refl

products_places : map (place (λ x. x % 256) products) products ≡ range_with_len 0 256
unfolding place products
products_places = refl

products_length : length products ≡ 256
unfolding products
products_length = refl

pub product_entry_word : (i : ℕ) → i < 256 → Word (slice_index products i)
product_entry_word i h = let same = read_at (λ x. x % 65536) products products products_words i (omega (arith, products_length)) in omega arith

pub product_low_apart : (i j : ℕ) → i < 256 → j < 256 → slice_index products i % 256 ≡ slice_index products j % 256 → i ≡ j
product_low_apart = apart_at (λ x. x % 256) products 256 products_places

-- THE COEFFICIENT is one-to-one.
product_low : (a : ℕ) → product a % 256 ≡ slice_index products (a / 256) % 256
unfolding product
product_low a =
    let none : a % 256 * 256 % 256 ≡ 0 = omega arith in
    xor_mod (a % 256 * 256) (slice_index products (a / 256)) 8 ∙
    ap (λ (x : ℕ). bit_xor x (slice_index products (a / 256) % 256)) none ∙ xor_zero_l (slice_index products (a / 256) % 256)

product_apart : (a b : ℕ) → Word a → Word b → product a ≡ product b → a ≡ b
unfolding product
product_apart a b p q e =
    let high : a / 256 ≡ b / 256 =
    product_low_apart (a / 256) (b / 256) (omega arith) (omega arith)
    (sym (product_low a) ∙ ap (λ (x : ℕ). x % 256) e ∙ product_low b) in
    let low : a % 256 * 256 ≡ b % 256 * 256 =
    xor_cancel (a % 256 * 256) (b % 256 * 256) (slice_index products (a / 256))
    (e ∙ ap (λ (i : ℕ). bit_xor (b % 256 * 256) (slice_index products i)) (sym high)) in
    omega arith

product_word : (a : ℕ) → Word a → Word (product a)
unfolding product
product_word a h = xor_word (a % 256 * 256) (slice_index products (a / 256)) (omega arith) (product_entry_word (a / 256) (omega arith))

pub product_one_to_one : OneToOne product
product_one_to_one = record { word = product_word; apart = product_apart }
