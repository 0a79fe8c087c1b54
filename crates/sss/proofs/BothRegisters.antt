-- Both registers at once.
use Rattle.std.proofs.Common.{◌≡◌, List, ℕ, refl, sym, ap, ◌∙◌, subst, arith}
use lib.Bits.{bit_and, bit_xor, and_comm, and_mask, and_zero_l, xor_zero_r}
use Rattle.sss.specs.Cipher.{Word, BothRegisters, step, check_step, keystream, mactext, masked, ciphertext, complement, sealed_mask, taken, plain_word}
use Rattle.sss.proofs.Words.{xor_undo}

pub same_registers : {r r' c c' : List ℕ} → r ≡ r' → c ≡ c' → Path BothRegisters (record { r = r; c = c }) (record { r = r'; c = c' })
same_registers p q = λ j. record { r = p j; c = q j }

-- A wire word that is opened with the keystream word v: its plaintext word, and the registers after it.
pub opened_with : (f A : ℕ → ℕ) (g : BothRegisters) (mask wire v : ℕ) → v ≡ keystream f g.r →
    let p : ℕ = bit_xor wire (bit_and mask v) in
    (p ≡ plain_word f g mask wire) ×
    Path BothRegisters (record { r = step f g.r (bit_xor p v); c = check_step A g.c (mactext mask v p) }) (taken f A g mask (plain_word f g mask wire))
unfolding taken plain_word masked ciphertext
opened_with f A g mask wire v e =
    subst
    (λ (v : ℕ).
    let p : ℕ = bit_xor wire (bit_and mask v) in
    (p ≡ plain_word f g mask wire) ×
    Path BothRegisters (record { r = step f g.r (bit_xor p v); c = check_step A g.c (mactext mask v p) }) (taken f A g mask (plain_word f g mask wire)))
    (sym e) (refl, refl)

-- A mask of all bits leaves a word as it is.
pub and_all : (v : ℕ) → Word v → bit_and sealed_mask v ≡ v
and_all v h = and_comm sealed_mask v ∙ and_mask v 16 ∙ omega arith

-- The same of a sealed word: the cipher register steps with the wire word, the check register with the plaintext word.
pub opened_sealed : (f A : ℕ → ℕ) (g : BothRegisters) (wire v : ℕ) → Word v → v ≡ keystream f g.r →
    (bit_xor wire v ≡ plain_word f g sealed_mask wire) ×
    Path BothRegisters (record { r = step f g.r wire; c = check_step A g.c (bit_xor wire v) }) (taken f A g sealed_mask (plain_word f g sealed_mask wire))
unfolding mactext complement
opened_sealed f A g wire v h e =
    let p : ℕ = bit_xor wire (bit_and sealed_mask v) in
    let plain : bit_xor wire v ≡ p = ap (bit_xor wire) (sym (and_all v h)) in
    let stepped : wire ≡ bit_xor p v = sym (xor_undo wire v) ∙ ap (λ (x : ℕ). bit_xor x v) plain in
    let checked : bit_xor wire v ≡ mactext sealed_mask v p = plain ∙ sym (ap (bit_xor p) (and_zero_l v) ∙ xor_zero_r p) in
    let opened = opened_with f A g sealed_mask wire v e in
    (plain ∙ opened.0, same_registers (ap (step f g.r) stepped) (ap (check_step A g.c) checked) ∙ opened.1)
