use Rattle.std.proofs.Common.{◌≡◌, ℕ, ◌&&◌, eqb, [], ◌∷◌, get_or, refl, ap, ◌∙◌, Ok}
use lib.Bits.{bit_xor, xor_zero_r}
use Rattle.sss.specs.Tables.{products}
use Rattle.sss.specs.Cipher.{keyed, key_table, keystream, taken, wire_word, zeroed, check_step, masked, mactext, product}
use Rattle.functions.specs.Figures.{zero_keystream}
use Rattle.functions.proofs.figures.word_is.Goals as goal

-- The mactext is what enters a check register of zeros.
entered : (m : ℕ) → bit_xor (bit_xor (bit_xor m (product 0)) 0) 0 ≡ m
unfolding product products
entered m = xor_zero_r (bit_xor (bit_xor m 0) 0) ∙ xor_zero_r (bit_xor m 0) ∙ xor_zero_r m

-- The check register after a first word from zero.
first_mactext : (f : ℕ → ℕ) (mask p : ℕ) → get_or (taken f product zeroed mask p).c 16 0 ≡ mactext mask (keystream f zeroed.r) p
unfolding taken zeroed check_step
first_mactext f mask p = entered (mactext mask (keystream f zeroed.r) p)

-- The wire word of a first word from zero.
first_wire : (f : ℕ → ℕ) (mask p : ℕ) → wire_word f zeroed mask p ≡ masked mask (keystream f zeroed.r) p
unfolding wire_word
first_wire f mask p = refl

pub returns : goal.returns
unfolding zeroed
returns c =
    let mask = c.args.mask in
    let key = c.in_ok-f.ensures in
    let said = c.seal_word-sealed.ensures.promise key.2 in
    let f : ℕ → ℕ = keyed (key_table (0 ∷ [])) in
    let wire : c.seal_word-sealed.result ≡ masked mask zero_keystream 0x1234 = cc (first_wire f mask 0x1234) in
    let mac : get_or c.check_words.result 16 0 ≡ mactext mask zero_keystream 0x1234 = cc (first_mactext f mask 0x1234) in
    ap Ok (ap (λ (x : ℕ). eqb x c.args.wire && eqb (get_or c.check_words.result 16 0) c.args.mac) wire ∙
    ap (λ (x : ℕ). eqb (masked mask zero_keystream 0x1234) c.args.wire && eqb x c.args.mac) mac)
