-- Words and their bytes.
use Rattle.std.proofs.Common.{◌≡◌, ℕ, zero, suc, ◌+◌, ◌*◌, ◌/◌, ◌%◌, ◌<◌, List, [], ◌∷◌, ◌++◌, length, get_or, refl, sym, ap, ◌∙◌, arith}
use Rattle.std.specs.List.{AllByRecursion as Every}
use Rattle.sss.specs.Bytes.{Octets, bytes_of_words}
use Rattle.sss.specs.Cipher.{Word, Words, words_of}

-- The word that two bytes make at a place of a list, and that it is the word there.
abbrev pub pair_at : List ℕ → ℕ → ℕ
pair_at bs i = get_or bs (2 * i) 0 + get_or bs (2 * i + 1) 0 * 256

pub word_at : (bs : List ℕ) (i : ℕ) → 2 * i + 1 < length bs → get_or (words_of bs) i 0 ≡ pair_at bs i
word_at [] i h = absurd (omega arith)
word_at (a ∷ []) i h = absurd (omega arith)
word_at (a ∷ b ∷ bs) zero h = refl
word_at (a ∷ b ∷ bs) (suc i) h =
    let even : 2 * suc i ≡ suc (suc (2 * i)) = omega arith in
    let odd : 2 * suc i + 1 ≡ suc (suc (2 * i + 1)) = omega arith in
    word_at bs i (omega arith) ∙
    sym (ap (λ (k : ℕ). get_or (a ∷ b ∷ bs) k 0 + get_or (a ∷ b ∷ bs) (2 * suc i + 1) 0 * 256) even ∙ ap (λ (k : ℕ). get_or bs (2 * i) 0 + get_or (a ∷ b ∷ bs) k 0 * 256) odd)

-- As many words as pairs of bytes.
pub length-words_of : (bs : List ℕ) → length (words_of bs) ≡ length bs / 2
length-words_of [] = refl
length-words_of (a ∷ []) = omega arith
length-words_of (a ∷ b ∷ bs) = let e = length-words_of bs in omega arith

-- Two bytes a word.
pub length-bytes_of_words : (ws : List ℕ) → length (bytes_of_words ws) ≡ 2 * length ws
length-bytes_of_words [] = refl
length-bytes_of_words (w ∷ ws) = let e = length-bytes_of_words ws in omega arith

-- An even number of bytes, made words and then bytes again.
pub respelled : (bs : List ℕ) → Octets bs → length bs % 2 ≡ 0 → bytes_of_words (words_of bs) ≡ bs
respelled [] h even = refl
respelled (a ∷ []) h even = absurd (omega arith)
respelled (a ∷ b ∷ bs) h even =
    let low : (a + b * 256) % 256 ≡ a = omega (arith, h 0) in
    let high : (a + b * 256) / 256 % 256 ≡ b = omega (arith, h 0, h 1) in
    let rest = respelled bs (λ i. h (suc (suc i))) (omega arith) in
    rw (low, high, rest) refl

-- Words, made bytes and then words again, and whatever follows them.
pub reread : (ws : List ℕ) (bs : List ℕ) → Every Word ws → words_of (bytes_of_words ws ++ bs) ≡ ws ++ words_of bs
reread [] bs h = refl
reread (w ∷ ws) bs h =
    let word : w % 256 + w / 256 % 256 * 256 ≡ w = omega (arith, h.0) in
    rw (word, reread ws bs h.1) refl

-- Where all are below a bound, so is what is read anywhere: words, and bytes.
below_read : (n : ℕ) (xs : List ℕ) → 0 < n → Every (λ x. x < n) xs → (i : ℕ) → get_or xs i 0 < n
below_read n [] some h i = some
below_read n (x ∷ xs) some h zero = h.0
below_read n (x ∷ xs) some h (suc i) = below_read n xs some h.1 i

pub words_read : (ws : List ℕ) → Every Word ws → Words ws
words_read ws h = below_read 65536 ws (omega arith) h

pub octets_read : (bs : List ℕ) → Every (λ b. b < 256) bs → Octets bs
octets_read bs h = below_read 256 bs (omega arith) h

-- The words of bytes are words.
pub all_words : (bs : List ℕ) → Octets bs → Every Word (words_of bs)
all_words [] h = tt
all_words (a ∷ []) h = tt
all_words (a ∷ b ∷ bs) h = (omega (arith, h 0, h 1), all_words bs (λ i. h (suc (suc i))))
