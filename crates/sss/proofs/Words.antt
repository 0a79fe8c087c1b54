-- Words: rotation, sums and exclusive or.
use Rattle.std.proofs.Common.{◌≡◌, ℕ, zero, suc, ◌+◌, ◌-◌, ◌*◌, ◌/◌, ◌%◌, ◌^◌, ◌<◌, sym, ap, ◌∙◌, subst, arith}
use native.Mathlib.Nat.{mul-mod_left}
use lib.Bits.{bit_and, bit_or, bit_xor, or_shifted, or_self, or_comm, xor_comm, xor_assoc, xor_self, xor_zero_l, xor_zero_r, xor_lt, xor_shr, xor_mod, and_shr, and_mod}
use Rattle.std.proofs.lemmas.Nat.{mod-pow-add, shl-shr, shr_below}
use Rattle.sss.specs.Cipher.{Word, rotate, complement, masked, mactext}

-- A shift to the left that drops what passes bit 16.
shl_mod : (i j a : ℕ) → a * 2 ^ i % 2 ^ (j + i) ≡ (a % 2 ^ j) * 2 ^ i
shl_mod i j a =
    mod-pow-add (a * 2 ^ i) j i ∙ ap (λ (x : ℕ). x % 2 ^ j * 2 ^ i + a * 2 ^ i % 2 ^ i) (shl-shr a i) ∙
    omega (arith, mul-mod_left a (2 ^ i))

-- What the code's rotation is promised to be.
pub rotate_is : (i a : ℕ) → i < 16 → Word a →
    bit_or (a * 2 ^ (i % 16) % 2 ^ 16) (a / 2 ^ ((16 - i % 16) % 16)) ≡ rotate i a
unfolding rotate
rotate_is zero a h w =
    let e : a * 2 ^ 0 % 65536 ≡ a = omega arith in
    let q : a / 2 ^ 0 ≡ a = omega arith in
    ap (λ (x : ℕ). bit_or x (a / 2 ^ 0)) e ∙ ap (bit_or a) q ∙ or_self a ∙ omega arith
rotate_is (suc i) a h w =
    let k : ℕ = suc i in
    let j : ℕ = 16 - suc i in
    let small : suc i % 16 ≡ suc i = omega arith in
    let rest : (16 - suc i) % 16 ≡ 16 - suc i = omega arith in
    let all : (16 - suc i) + suc i ≡ 16 = omega arith in
    let high : a * 2 ^ k % 65536 ≡ (a % 2 ^ j) * 2 ^ k =
    subst (λ (n : ℕ). a * 2 ^ k % 2 ^ n ≡ (a % 2 ^ j) * 2 ^ k) all (shl_mod k j a) in
    let sum : suc i + (16 - suc i) ≡ 16 = omega arith in
    let low : a / 2 ^ j < 2 ^ k = shr_below a k j (subst (λ (n : ℕ). a < 2 ^ n) (sym sum) w) in
    ap (λ (x : ℕ). bit_or (a * 2 ^ x % 65536) (a / 2 ^ ((16 - x) % 16))) small ∙
    ap (λ (x : ℕ). bit_or (a * 2 ^ k % 65536) (a / 2 ^ x)) rest ∙
    ap (λ (x : ℕ). bit_or x (a / 2 ^ j)) high ∙
    or_shifted (a % 2 ^ j) k (a / 2 ^ j) low ∙
    ap (λ (x : ℕ). x + a / 2 ^ j) (sym high)

-- What the code's rotation to the right by 8 is promised to be.
pub rot8_is : (a : ℕ) → Word a → bit_or (a / 256) (a * 256 % 65536) ≡ rotate 8 a
rot8_is a w = or_comm (a / 256) (a * 256 % 65536) ∙ rotate_is 8 a (omega arith) w

pub rotate_word : (a : ℕ) → Word a → Word (rotate 8 a)
unfolding rotate
rotate_word a w = omega arith

-- What is crossed out twice is there again.
pub xor_undo : (a x : ℕ) → bit_xor (bit_xor a x) x ≡ a
xor_undo a x = xor_assoc a x x ∙ ap (bit_xor a) (xor_self x) ∙ xor_zero_r a

pub xor_cancel : (a b x : ℕ) → bit_xor a x ≡ bit_xor b x → a ≡ b
xor_cancel a b x e = sym (xor_undo a x) ∙ ap (λ (y : ℕ). bit_xor y x) e ∙ xor_undo b x

pub xor_cancel_left : (x a b : ℕ) → bit_xor x a ≡ bit_xor x b → a ≡ b
xor_cancel_left x a b e = xor_cancel a b x (xor_comm a x ∙ e ∙ xor_comm x b)

pub xor_word : (a b : ℕ) → Word a → Word b → Word (bit_xor a b)
xor_word a b p q = xor_lt 16 a b p q

-- One bit under a mask and under its complement.
one_bit : (k c v : ℕ) → k < 2 → v < 2 → c ≡ 1 - k → bit_xor (bit_and k v) (bit_and c v) ≡ v
one_bit zero c zero h l e = ap (λ (x : ℕ). bit_xor (bit_and 0 0) (bit_and x 0)) e
one_bit zero c (suc zero) h l e = ap (λ (x : ℕ). bit_xor (bit_and 0 1) (bit_and x 1)) e
one_bit zero c (suc (suc v)) h l e = absurd (omega arith)
one_bit (suc zero) c zero h l e = ap (λ (x : ℕ). bit_xor (bit_and 1 0) (bit_and x 0)) e
one_bit (suc zero) c (suc zero) h l e = ap (λ (x : ℕ). bit_xor (bit_and 1 1) (bit_and x 1)) e
one_bit (suc zero) c (suc (suc v)) h l e = absurd (omega arith)
one_bit (suc (suc k)) c v h l e = absurd (omega arith)

halves : (x y : ℕ) → x / 2 ≡ y / 2 → x % 2 ≡ y % 2 → x ≡ y
halves x y p q = omega arith

-- What a mask takes of a word and what its complement takes make the word.
both_masks : (n k c v : ℕ) → v < 2 ^ n → k + c + 1 ≡ 2 ^ n → bit_xor (bit_and k v) (bit_and c v) ≡ v
both_masks zero k c v l e =
    let k0 : k ≡ 0 = omega arith in
    let c0 : c ≡ 0 = omega arith in
    let v0 : 0 ≡ v = omega arith in
    ap (λ (x : ℕ). bit_xor (bit_and x v) (bit_and c v)) k0 ∙ ap (λ (x : ℕ). bit_xor (bit_and 0 v) (bit_and x v)) c0 ∙
    ap (λ (x : ℕ). bit_xor (bit_and 0 x) (bit_and 0 x)) (sym v0) ∙ v0
both_masks (suc n) k c v l e =
    let lv : v / 2 < 2 ^ n = omega arith in
    let ek : k / 2 + c / 2 + 1 ≡ 2 ^ n = omega arith in
    let low : c % 2 ≡ 1 - k % 2 = omega arith in
    halves (bit_xor (bit_and k v) (bit_and c v)) v
    (xor_shr (bit_and k v) (bit_and c v) 1 ∙ ap (λ (x : ℕ). bit_xor x (bit_and c v / 2)) (and_shr k v 1) ∙
    ap (bit_xor (bit_and (k / 2) (v / 2))) (and_shr c v 1) ∙ both_masks n (k / 2) (c / 2) (v / 2) lv ek)
    (xor_mod (bit_and k v) (bit_and c v) 1 ∙ ap (λ (x : ℕ). bit_xor x (bit_and c v % 2)) (and_mod k v 1) ∙
    ap (bit_xor (bit_and (k % 2) (v % 2))) (and_mod c v 1) ∙ one_bit (k % 2) (c % 2) (v % 2) (omega arith) (omega arith) low)

-- The mactext is the wire word ⊕ the keystream word.
pub mactext_is : (k v p : ℕ) → Word k → Word v → mactext k v p ≡ bit_xor (masked k v p) v
unfolding mactext masked complement
mactext_is k v p hk hv =
    let x = bit_and k v in
    let y = bit_and (65535 - k) v in
    let both : bit_xor x y ≡ v = both_masks 16 k (65535 - k) v hv (omega arith) in
    let twice : bit_xor x (bit_xor x y) ≡ y = sym (xor_assoc x x y) ∙ ap (λ (z : ℕ). bit_xor z y) (xor_self x) ∙ xor_zero_l y in
    sym (ap (bit_xor (bit_xor p x)) (sym both) ∙ xor_assoc p x (bit_xor x y) ∙ ap (bit_xor p) twice)
