-- SSS, the self-synchronizing stream cipher with a tag, as published. A word is a number below 65536, a register is a list of seventeen
-- words, f is the keyed function and A the coefficient of the check register. The three printed tables are in Tables.
use Rattle.std.specs.Prelude.{◌≡◌, ℕ, zero, suc, ◌+◌, ◌-◌, ◌*◌, ◌/◌, ◌%◌, ◌^◌, ◌<◌, ◌≤◌, cond, List, [], ◌∷◌, ◌++◌, map, reverse, length, drop, replicate, bit_and, bit_xor, nat_lt, slice_index, slice_set, Bool, ◌&&◌, ◌==◌, nat_le}
use Rattle.std.specs.List.{range_with_len}
use Rattle.sss.specs.Tables.{skipjack, qbox, products}
use Rattle.sss.specs.declared.message.MaskedWord.{MaskedWord}

-- A word has 16 bits.
abbrev pub Word : ℕ → Type 0
Word a = a < 65536

-- Each place of a list holds a word; past its end a list reads 0.
abbrev pub Words : List ℕ → Type 0
Words xs = (i : ℕ) → Word (slice_index xs i)

-- Addition modulo 65536.
unfoldable pub plus : ℕ → ℕ → ℕ
plus a b = (a + b) % 65536

-- A word rotated left by i bits.
unfoldable pub rotate : ℕ → ℕ → ℕ
rotate i a = a * 2 ^ i % 65536 + a / 2 ^ (16 - i)

-- A word rotated by 8 bits, which is the same to either side.
abbrev pub rot8 : ℕ → ℕ
rot8 a = rotate 8 a

-- Each bit of a word turned.
unfoldable pub complement : ℕ → ℕ
complement a = 65535 - a

-- Two bytes make a word, the low byte first.
abbrev pub words_of : List ℕ → List ℕ
words_of [] = []
words_of (a ∷ []) = []
words_of (a ∷ b ∷ bs) = (a + b * 256) ∷ words_of bs

-- THE KEYED FUNCTION of a table S of 256 words: S[high byte of a] ⊕ a.
unfoldable pub keyed : List ℕ → ℕ → ℕ
keyed S a = bit_xor (slice_index S (a / 256)) a

-- The law of a keyed function: the 256 bytes i ⊕ (high byte of S[i]) are all different.
pub record Lawful (S : List ℕ) : Type 0 where
  pub count : length S ≡ 256
  pub words : Words S
  pub apart : (i j : ℕ) → i < 256 → j < 256 → bit_xor i (slice_index S i / 256) ≡ bit_xor j (slice_index S j / 256) → i ≡ j

-- A map of words to words that takes different words to different images.
pub record OneToOne (f : ℕ → ℕ) : Type 0 where
  pub word : (a : ℕ) → Word a → Word (f a)
  pub apart : (a b : ℕ) → Word a → Word b → f a ≡ f b → a ≡ b

-- THE TABLE OF A KEY. From b(0) = x each key byte makes b(i+1) = F[b(i) ⊕ K(i)]; this is the last of them.
unfoldable pub key_byte : List ℕ → ℕ → ℕ
key_byte [] b = b
key_byte (k ∷ ks) b = key_byte ks (slice_index skipjack (bit_xor b k))

-- The exclusive or of all Q[b(i+1)] rotated left by i bits, from the key byte at place i on.
unfoldable pub key_word : ℕ → List ℕ → ℕ → ℕ
key_word i [] b = 0
key_word i (k ∷ ks) b =
    let b' : ℕ = slice_index skipjack (bit_xor b k) in
    bit_xor (rotate i (slice_index qbox b')) (key_word (i + 1) ks b')

-- The entry at x: its high byte is b(N) ⊕ x, its low byte that of the word above.
unfoldable pub key_entry : List ℕ → ℕ → ℕ
key_entry key x = bit_xor (key_byte key x) x * 256 + key_word 0 key x % 256

-- The table of a key: its 256 entries.
unfoldable pub key_table : List ℕ → List ℕ
key_table key = map (key_entry key) (range_with_len 0 256)

-- A key has 1 to 16 bytes.
abbrev pub KeyFits : List ℕ → Type 0
KeyFits key = (1 ≤ length key) × (length key ≤ 16)

-- THE COEFFICIENT, from the printed table: (low byte of a × 256) ⊕ T[high byte of a].
unfoldable pub product : ℕ → ℕ
product a = bit_xor (a % 256 * 256) (slice_index products (a / 256))

-- The rule behind the table: bit i of a word stands for z^i, and z^16 is z^14 + z^12 + z^3 + z^2 + z + 1. A word times z:
unfoldable pub times_z : ℕ → ℕ
times_z a = cond (nat_lt a 32768) (a * 2) (bit_xor (a * 2) 0x1500F)

-- And times z^n.
unfoldable pub times_z_power : ℕ → ℕ → ℕ
times_z_power zero a = a
times_z_power (suc n) a = times_z_power n (times_z a)

-- ONE STEP OF THE CIPHER REGISTER with the word c: shift; add f(c >>> 8) at 14; put f at 12; rotate at 1.
unfoldable pub step : (ℕ → ℕ) → List ℕ → ℕ → List ℕ
step f r c =
    let r₁ : List ℕ = drop 1 r ++ c ∷ [] in
    let r₂ : List ℕ = slice_set r₁ 14 (plus (slice_index r₁ 14) (f (rot8 c))) in
    let r₃ : List ℕ = slice_set r₂ 12 (f (slice_index r₂ 12)) in
    slice_set r₃ 1 (rot8 (slice_index r₃ 1))

-- The keystream word: (f(f(r[0] + r[16]) + r[1] + r[6] + r[13]) >>> 8) ⊕ r[0].
unfoldable pub keystream : (ℕ → ℕ) → List ℕ → ℕ
keystream f r =
    let inner : ℕ = f (plus (slice_index r 0) (slice_index r 16)) in
    bit_xor (rot8 (f (plus (plus (plus inner (slice_index r 1)) (slice_index r 6)) (slice_index r 13)))) (slice_index r 0)

-- ONE STEP OF THE CHECK REGISTER with the word M: shift, and M ⊕ A(c[0]) ⊕ c[4] ⊕ c[15] enters, all three as they were before.
unfoldable pub check_step : (ℕ → ℕ) → List ℕ → ℕ → List ℕ
check_step A c M = drop 1 c ++ bit_xor (bit_xor (bit_xor M (A (slice_index c 0))) (slice_index c 4)) (slice_index c 15) ∷ []

-- The two registers: r of the cipher, c of the check.
pub record BothRegisters : Type 0 where
  pub r : List ℕ
  pub c : List ℕ

-- ONE WORD with its mask. The mask's bits say to which bits the keystream is added on the wire: to all bits of a sealed word, to none of an open
-- one. Their masks:
abbrev pub sealed_mask : ℕ
sealed_mask = 0xFFFF

abbrev pub open_mask : ℕ
open_mask = 0

-- A word on the wire from one that is not, and back, with the keystream word v.
unfoldable pub masked : ℕ → ℕ → ℕ → ℕ
masked mask v x = bit_xor x (bit_and mask v)

-- What the check register takes of a plaintext word, bit by bit: of p and p ⊕ v the one that is not on the wire.
unfoldable pub mactext : ℕ → ℕ → ℕ → ℕ
mactext mask v p = bit_xor p (bit_and (complement mask) v)

-- What the cipher register takes of a plaintext word, whatever its mask.
unfoldable pub ciphertext : (ℕ → ℕ) → List ℕ → ℕ → ℕ
ciphertext f r p = bit_xor p (keystream f r)

-- Both registers after a plaintext word p.
unfoldable pub taken : (ℕ → ℕ) → (ℕ → ℕ) → BothRegisters → ℕ → ℕ → BothRegisters
taken f A g mask p =
    record { r = step f g.r (ciphertext f g.r p); c = check_step A g.c (mactext mask (keystream f g.r) p) }

-- The wire word of a plaintext word.
unfoldable pub wire_word : (ℕ → ℕ) → BothRegisters → ℕ → ℕ → ℕ
wire_word f g mask p = masked mask (keystream f g.r) p

-- The plaintext word of a wire word.
unfoldable pub plain_word : (ℕ → ℕ) → BothRegisters → ℕ → ℕ → ℕ
plain_word f g mask m = masked mask (keystream f g.r) m

-- TO BEGIN a message: both registers zero, then each nonce word in turn, then seventeen open words with plaintext 0. The registers of zero:
unfoldable pub zeroed : BothRegisters
zeroed = record { r = replicate 17 0; c = replicate 17 0 }

-- The registers after one nonce word.
unfoldable pub nonce_taken : (ℕ → ℕ) → (ℕ → ℕ) → BothRegisters → ℕ → BothRegisters
nonce_taken f A g n = record { r = step f g.r n; c = check_step A g.c (bit_xor n (keystream f g.r)) }

-- The registers after some nonce words.
unfoldable pub nonces_taken : (ℕ → ℕ) → (ℕ → ℕ) → BothRegisters → List ℕ → BothRegisters
nonces_taken f A g [] = g
nonces_taken f A g (n ∷ ns) = nonces_taken f A (nonce_taken f A g n) ns

-- The registers after n open words with plaintext 0.
unfoldable pub open_zeros : (ℕ → ℕ) → (ℕ → ℕ) → ℕ → BothRegisters → BothRegisters
open_zeros f A zero g = g
open_zeros f A (suc n) g = open_zeros f A n (taken f A g open_mask 0)

-- The registers once a message with this nonce is begun.
unfoldable pub begun : (ℕ → ℕ) → (ℕ → ℕ) → List ℕ → BothRegisters
begun f A nonce = open_zeros f A 17 (nonces_taken f A zeroed (words_of nonce))

-- A nonce has an even number of bytes, at most 32.
abbrev pub NonceFits : List ℕ → Type 0
NonceFits nonce = (length nonce % 2 ≡ 0) × (length nonce ≤ 32)

-- Whether it does.
abbrev pub nonce_fits : List ℕ → Bool
nonce_fits nonce = length nonce % 2 == 0 && nat_le (length nonce) 32

-- TO CLOSE a message the check register is left alone. Each word p steps the cipher register with p ⊕ v. The cipher register after one:
unfoldable pub fed : (ℕ → ℕ) → List ℕ → ℕ → List ℕ
fed f r p = step f r (ciphertext f r p)

-- The cipher register after some.
unfoldable pub all_fed : (ℕ → ℕ) → List ℕ → List ℕ → List ℕ
all_fed f r [] = r
all_fed f r (p ∷ ps) = all_fed f (fed f r p) ps

-- The register that the tag is drawn from: 0 was fed, then c[16] down to c[0].
unfoldable pub drawn_from : (ℕ → ℕ) → BothRegisters → List ℕ
drawn_from f g = all_fed f (fed f g.r 0) (reverse g.c)

-- The words that the register is stepped with as n zeros are fed.
unfoldable pub stepped : (ℕ → ℕ) → ℕ → List ℕ → List ℕ
stepped f zero r = []
stepped f (suc n) r = ciphertext f r 0 ∷ stepped f n (fed f r 0)

-- The tag: eight words.
unfoldable pub tag : (ℕ → ℕ) → BothRegisters → List ℕ
tag f g = stepped f 8 (drawn_from f g)

-- The registers once the tag is drawn.
unfoldable pub closed : (ℕ → ℕ) → BothRegisters → BothRegisters
closed f g = record { r = all_fed f (drawn_from f g) (replicate 8 0); c = g.c }

-- WHOLE MESSAGES. The registers after plaintext words, from given ones on.
unfoldable pub all_taken : (ℕ → ℕ) → (ℕ → ℕ) → BothRegisters → List MaskedWord → BothRegisters
all_taken f A g [] = g
all_taken f A g (w ∷ ws) = all_taken f A (taken f A g w.mask w.text) ws

-- The wire words of plaintext words.
unfoldable pub wire_words : (ℕ → ℕ) → (ℕ → ℕ) → BothRegisters → List MaskedWord → List MaskedWord
wire_words f A g [] = []
wire_words f A g (w ∷ ws) =
    record { mask = w.mask; text = wire_word f g w.mask w.text } ∷ wire_words f A (taken f A g w.mask w.text) ws

-- The plaintext words of wire words.
unfoldable pub plain_words : (ℕ → ℕ) → (ℕ → ℕ) → BothRegisters → List MaskedWord → List MaskedWord
plain_words f A g [] = []
plain_words f A g (w ∷ ws) =
    let p : ℕ = plain_word f g w.mask w.text in
    record { mask = w.mask; text = p } ∷ plain_words f A (taken f A g w.mask p) ws

-- The wire words of a message, by its nonce, its masks and its plaintext words.
unfoldable pub sealed_message : (ℕ → ℕ) → (ℕ → ℕ) → List ℕ → List MaskedWord → List MaskedWord
sealed_message f A nonce ps = wire_words f A (begun f A nonce) ps

-- The tag of a message, by the same.
unfoldable pub message_tag : (ℕ → ℕ) → (ℕ → ℕ) → List ℕ → List MaskedWord → List ℕ
message_tag f A nonce ps = tag f (all_taken f A (begun f A nonce) ps)

-- The plaintext words of a message, by its nonce, its masks and its wire words.
unfoldable pub opened_message : (ℕ → ℕ) → (ℕ → ℕ) → List ℕ → List MaskedWord → List MaskedWord
opened_message f A nonce ms = plain_words f A (begun f A nonce) ms
