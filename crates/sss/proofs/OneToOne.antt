-- The law of a keyed function makes it one-to-one on words.
use Rattle.std.proofs.Common.{◌≡◌, ℕ, ◌/◌, List, get_or, sym, ap, ◌∙◌, arith}
use lib.Bits.{bit_xor, xor_comm, xor_shr}
use Rattle.sss.specs.Cipher.{Word, Lawful, OneToOne, keyed}
use Rattle.sss.proofs.Words.{xor_cancel_left, xor_word}

keyed_high : (S : List ℕ) (a : ℕ) → keyed S a / 256 ≡ bit_xor (a / 256) (get_or S (a / 256) 0 / 256)
unfolding keyed
keyed_high S a = xor_shr (get_or S (a / 256) 0) a 8 ∙ xor_comm (get_or S (a / 256) 0 / 256) (a / 256)

keyed_apart : (S : List ℕ) → Lawful S → (a b : ℕ) → Word a → Word b → keyed S a ≡ keyed S b → a ≡ b
unfolding keyed
keyed_apart S law a b p q e =
    let high : a / 256 ≡ b / 256 =
    law.apart (a / 256) (b / 256) (omega arith) (omega arith)
    (sym (keyed_high S a) ∙ ap (λ (y : ℕ). y / 256) e ∙ keyed_high S b) in
    xor_cancel_left (get_or S (a / 256) 0) a b (e ∙ ap (λ (i : ℕ). bit_xor (get_or S i 0) b) (sym high))

keyed_word : (S : List ℕ) → Lawful S → (a : ℕ) → Word a → Word (keyed S a)
unfolding keyed
keyed_word S law a h = xor_word (get_or S (a / 256) 0) a (law.words (a / 256)) h

pub keyed_one_to_one : (S : List ℕ) → Lawful S → OneToOne (keyed S)
keyed_one_to_one S law = record { word = keyed_word S law; apart = keyed_apart S law }
