-- The words of a message, read from its buffers and written into them.
use Rattle.std.proofs.Common.{◌≡◌, ℕ, zero, suc, ◌+◌, ◌*◌, ◌/◌, ◌%◌, ◌<◌, List, [], ◌∷◌, ◌++◌, length, get_or, set, map, drop, refl, sym, ap, ◌∙◌, arith}
use Rattle.sss.specs.Bytes.{Octets, bytes_of_words}
use Rattle.sss.specs.Cipher.{words_of}
use Rattle.sss.specs.Directions.{text_of, with_text}
use Rattle.sss.specs.declared.message.MaskedWord.{MaskedWord}
use Rattle.sss.proofs.Bytes.{length-words_of, pair_at, respelled, word_at}
use Rattle.message.specs.Buffers.{written_over, masked_words, text_bytes, words_under}

-- The word at a place, by its mask and its text.
abbrev pub word_of : (mask text : ℕ) → MaskedWord
word_of mask text = record { mask = mask; text = text }

masked_at : (ks ts : List ℕ) (i : ℕ) (d : MaskedWord) → i < length ks → i < length ts → get_or (masked_words ks ts) i d ≡ word_of (get_or ks i 0) (get_or ts i 0)
masked_at [] ts i d h l = absurd (omega arith)
masked_at (k ∷ ks) [] i d h l = absurd (omega arith)
masked_at (k ∷ ks) (t ∷ ts) zero d h l = refl
masked_at (k ∷ ks) (t ∷ ts) (suc i) d h l = masked_at ks ts i d (omega arith) (omega arith)

masked_put : (ks ts : List ℕ) (i t : ℕ) → masked_words ks (set ts i t) ≡ set (masked_words ks ts) i (word_of (get_or ks i 0) t)
masked_put [] ts i t = refl
masked_put (k ∷ ks) [] i t = refl
masked_put (k ∷ ks) (u ∷ ts) zero t = refl
masked_put (k ∷ ks) (u ∷ ts) (suc i) t = ap {B = List MaskedWord} (λ ws. word_of k u ∷ ws) (masked_put ks ts i t)

length-masked : (ks ts : List ℕ) → length ks ≡ length ts → length (masked_words ks ts) ≡ length ts
length-masked [] [] e = refl
length-masked [] (t ∷ ts) e = absurd (omega arith)
length-masked (k ∷ ks) [] e = refl
length-masked (k ∷ ks) (t ∷ ts) e = let r = length-masked ks ts (omega arith) in omega arith

-- Two bytes written at the place of a word are a word written there.
words_put : (bs : List ℕ) (i low high : ℕ) → 2 * i + 1 < length bs → words_of (set (set bs (2 * i) low) (2 * i + 1) high) ≡ set (words_of bs) i (low + high * 256)
words_put [] i low high h = absurd (omega arith)
words_put (a ∷ []) i low high h = absurd (omega arith)
words_put (a ∷ b ∷ bs) zero low high h = refl
words_put (a ∷ b ∷ bs) (suc i) low high h =
    let even : 2 * suc i ≡ suc (suc (2 * i)) = omega arith in
    let odd : 2 * suc i + 1 ≡ suc (suc (2 * i + 1)) = omega arith in
    ap (λ (n : ℕ). words_of (set (set (a ∷ b ∷ bs) n low) (2 * suc i + 1) high)) even ∙
    ap (λ (n : ℕ). words_of (set (set (a ∷ b ∷ bs) (suc (suc (2 * i))) low) n high)) odd ∙
    ap {B = List ℕ} (λ ws. (a + b * 256) ∷ ws) (words_put bs i low high (omega arith))

-- The number of words, the word at a place, and a word written there.
pub length-words_under : (masks texts : List ℕ) → length masks ≡ length texts → length (words_under masks texts) ≡ length texts / 2
length-words_under masks texts e =
    let k = length-words_of masks in
    let t = length-words_of texts in
    length-masked (words_of masks) (words_of texts) (omega arith) ∙ t

pub word_under : (masks texts : List ℕ) (i : ℕ) (d : MaskedWord) → length masks ≡ length texts → 2 * i + 1 < length texts →
    get_or (words_under masks texts) i d ≡ word_of (pair_at masks i) (pair_at texts i)
word_under masks texts i d e h =
    let k = length-words_of masks in
    let t = length-words_of texts in
    let place = masked_at (words_of masks) (words_of texts) i d (omega arith) (omega arith) in
    rw (sym (word_at masks i (omega arith)), sym (word_at texts i h)) place

pub word_put : (masks texts : List ℕ) (i t low high : ℕ) (d : MaskedWord) → length masks ≡ length texts → 2 * i + 1 < length texts → low + high * 256 ≡ t →
    words_under masks (set (set texts (2 * i) low) (2 * i + 1) high) ≡ set (words_under masks texts) i (with_text (get_or (words_under masks texts) i d) t)
word_put masks texts i t low high d e h bytes =
    ap (masked_words (words_of masks)) (words_put texts i low high h ∙ ap (set (words_of texts) i) bytes) ∙
    masked_put (words_of masks) (words_of texts) i t ∙
    ap (λ (k : ℕ). set (words_under masks texts) i (word_of k t)) (word_at masks i (omega arith)) ∙
    ap (λ (w : MaskedWord). set (words_under masks texts) i (with_text w t)) (sym (word_under masks texts i d e h))

-- The texts of words, and the bytes of the texts of a buffer.
texts_masked : (ks ts : List ℕ) → length ks ≡ length ts → map text_of (masked_words ks ts) ≡ ts
texts_masked [] [] e = refl
texts_masked [] (t ∷ ts) e = absurd (omega arith)
texts_masked (k ∷ ks) [] e = refl
texts_masked (k ∷ ks) (t ∷ ts) e = ap {B = List ℕ} (λ ws. t ∷ ws) (texts_masked ks ts (omega arith))

pub texts_under : (masks texts : List ℕ) → length masks ≡ length texts → map text_of (words_under masks texts) ≡ words_of texts
texts_under masks texts e =
    let k = length-words_of masks in
    let t = length-words_of texts in
    texts_masked (words_of masks) (words_of texts) (omega arith)

pub bytes_under : (masks texts : List ℕ) → length masks ≡ length texts → Octets texts → length texts % 2 ≡ 0 → text_bytes (words_under masks texts) ≡ texts
bytes_under masks texts e octets even = ap bytes_of_words (texts_under masks texts e) ∙ respelled texts octets even

-- A byte written among bytes.
pub octets_put : (bs : List ℕ) (i b : ℕ) → Octets bs → b < 256 → Octets (set bs i b)
octets_put [] i b h below j = h j
octets_put (x ∷ bs) zero b h below zero = below
octets_put (x ∷ bs) zero b h below (suc j) = h (suc j)
octets_put (x ∷ bs) (suc i) b h below zero = h zero
octets_put (x ∷ bs) (suc i) b h below (suc j) = octets_put bs i b (λ k. h (suc k)) below j

-- A buffer whose front was overwritten begins with what was written.
pub begun_with : (buffer : List ℕ) {n : ℕ} {bytes bytes' : List ℕ} → bytes' ≡ bytes → length bytes' ≡ n → bytes' ++ drop n buffer ≡ written_over bytes buffer
begun_with buffer {n} {bytes} {bytes'} same long =
    ap (λ (k : ℕ). bytes' ++ drop k buffer) (sym long) ∙ ap (λ (xs : List ℕ). written_over xs buffer) same
