-- Wire words as the receiving side takes them, and what holds of both registers as they are taken.
use Rattle.std.proofs.Common.{◌≡◌, ℕ, zero, suc, ◌<◌, List, [], ◌∷◌, ◌++◌, map, length, get_or, drop, set, replicate, refl, sym, ap, ◌∙◌, lt_of_le_of_lt, arith}
use lib.Bits.{bit_and, bit_xor, and_le_r}
use Rattle.std.specs.List.{AllByRecursion as Every}
use Rattle.std.proofs.lemmas.List.{length_push, length-drop}
use Rattle.sss.specs.Cipher.{Word, Words, BothRegisters, OneToOne, plus, rot8, complement, words_of, step, check_step, keystream, ciphertext, masked, mactext}
use Rattle.sss.specs.Cipher.{taken, wire_word, plain_word, zeroed, nonce_taken, nonces_taken, open_zeros, begun, all_taken, plain_words, sealed_mask}
use Rattle.sss.specs.declared.message.MaskedWord.{MaskedWord}
use Rattle.link.specs.Law.{SealedWord}
use Rattle.sss.proofs.Arrays.{blank_at}
use Rattle.sss.proofs.Bytes.{all_words, octets_read, words_read}
use Rattle.sss.proofs.BothRegisters.{opened_sealed}
use Rattle.sss.proofs.Words.{rotate_word, xor_word}
use Rattle.sss.proofs.Returned.{word_back}
use Rattle.link.proofs.Every.{every_drop, every_place, every_push, every_set}
use Rattle.link.proofs.Register.{plus_word, step_size, steps}

-- What is on the wire is a word.
abbrev pub WireWord : MaskedWord → Type 0
WireWord w = Word w.text

-- Both registers after a wire word under a mask: the receiving side's, and the sealing side's where it is the word that was sent.
unfoldable pub received : (ℕ → ℕ) → (ℕ → ℕ) → BothRegisters → ℕ → ℕ → BothRegisters
received f A g mask wire = taken f A g mask (plain_word f g mask wire)

unfoldable pub all_received : (ℕ → ℕ) → (ℕ → ℕ) → BothRegisters → List MaskedWord → BothRegisters
all_received f A g [] = g
all_received f A g (w ∷ ws) = all_received f A (received f A g w.mask w.text) ws

-- Both registers are seventeen words.
pub record Sized (g : BothRegisters) : Type 0 where
  pub r_size : length g.r ≡ 17
  pub c_size : length g.c ≡ 17
  pub r_words : Words g.r
  pub c_words : Words g.c

-- Words by place are words by element.
pub all_from : (xs : List ℕ) → Words xs → Every Word xs
all_from xs h = every_place Word xs 0 (λ i l. h i)

-- Where each wire word is a word, so are all the texts.
pub every_text : (ws : List MaskedWord) → Every WireWord ws → Every Word (map (λ w. w.text) ws)
every_text [] h = tt
every_text (w ∷ ws) h = (h.0, every_text ws h.1)

-- What a mask leaves of a word is a word.
and_word : (k v : ℕ) → Word v → Word (bit_and k v)
and_word k v h = lt_of_le_of_lt (and_le_r k v) h

-- A word joined with what a mask leaves of another.
masked_word : (k v x : ℕ) → Word v → Word x → Word (masked k v x)
unfolding masked
masked_word k v x h w = xor_word x (bit_and k v) w (and_word k v h)

mactext_word : (k v x : ℕ) → Word v → Word x → Word (mactext k v x)
unfolding mactext
mactext_word k v x h w = xor_word x (bit_and (complement k) v) w (and_word (complement k) v h)

module _ (f : ℕ → ℕ) (one : OneToOne f) where
  -- A step with a word leaves words.
  pub step_words : (r : List ℕ) (c : ℕ) → Words r → Word c → Words (step f r c)
  unfolding step
  step_words r c p q =
      let r₁ : List ℕ = drop 1 r ++ c ∷ [] in
      let w₁ : Every Word r₁ = every_push Word (drop 1 r) c (every_drop Word 1 r (all_from r p)) q in
      let x₁ : ℕ = plus (get_or r₁ 14 0) (f (rot8 c)) in
      let r₂ : List ℕ = set r₁ 14 x₁ in
      let w₂ : Every Word r₂ = every_set Word r₁ 14 x₁ w₁ (plus_word (get_or r₁ 14 0) (f (rot8 c))) in
      let x₂ : ℕ = f (get_or r₂ 12 0) in
      let r₃ : List ℕ = set r₂ 12 x₂ in
      let w₃ : Every Word r₃ = every_set Word r₂ 12 x₂ w₂ (one.word (get_or r₂ 12 0) (words_read r₂ w₂ 12)) in
      let x₃ : ℕ = rot8 (get_or r₃ 1 0) in
      words_read (set r₃ 1 x₃) (every_set Word r₃ 1 x₃ w₃ (rotate_word (get_or r₃ 1 0) (words_read r₃ w₃ 1)))

  -- The keystream word is a word, and so is what enters the cipher register.
  pub keystream_word : (r : List ℕ) → Words r → Word (keystream f r)
  unfolding keystream
  keystream_word r p = xor_word _ (get_or r 0 0) (rotate_word _ (one.word _ (plus_word _ (get_or r 13 0)))) (p 0)

  pub ciphertext_word : (r : List ℕ) (p : ℕ) → Words r → Word p → Word (ciphertext f r p)
  unfolding ciphertext
  ciphertext_word r p h w = xor_word p (keystream f r) w (keystream_word r h)

-- A step of the check register with a word leaves words, and as many.
check_words : (A : ℕ → ℕ) → OneToOne A → (c : List ℕ) (M : ℕ) → Words c → Word M → Words (check_step A c M)
unfolding check_step
check_words A one c M p q =
    let x : ℕ = bit_xor (bit_xor (bit_xor M (A (get_or c 0 0))) (get_or c 4 0)) (get_or c 15 0) in
    let w : Word x = xor_word _ (get_or c 15 0) (xor_word _ (get_or c 4 0) (xor_word M (A (get_or c 0 0)) q (one.word (get_or c 0 0) (p 0))) (p 4)) (p 15) in
    words_read (drop 1 c ++ x ∷ []) (every_push Word (drop 1 c) x (every_drop Word 1 c (all_from c p)) w)

check_size : (A : ℕ → ℕ) (c : List ℕ) (M : ℕ) → length c ≡ 17 → length (check_step A c M) ≡ 17
unfolding check_step
check_size A c M e = length_push (drop 1 c) _ ∙ omega (arith, length-drop 1 c)

zeros_words : (n : ℕ) → Words (replicate n 0)
zeros_words n i = omega (arith, blank_at {A = ℕ} 0 n i)

-- The registers before a message.
pub zeroed_sized : Sized zeroed
unfolding zeroed
zeroed_sized = record { r_size = refl; c_size = refl; r_words = zeros_words 17; c_words = zeros_words 17 }

module _ (f A : ℕ → ℕ) (onef : OneToOne f) (oneA : OneToOne A) where
  -- The registers stay sized under each word.
  pub taken_sized : (g : BothRegisters) (mask p : ℕ) → Sized g → Word p → Sized (taken f A g mask p)
  unfolding taken
  taken_sized g mask p h w =
      let v : ℕ = keystream f g.r in
      let wv : Word v = keystream_word f onef g.r h.r_words in
      record {
        r_size = step_size f g.r (ciphertext f g.r p) h.r_size;
        c_size = check_size A g.c (mactext mask v p) h.c_size;
        r_words = step_words f onef g.r (ciphertext f g.r p) h.r_words (ciphertext_word f onef g.r p h.r_words w);
        c_words = check_words A oneA g.c (mactext mask v p) h.c_words (mactext_word mask v p wv w);
      }

  -- The wire word of a word is a word, and the plaintext word of a word too.
  pub wire_is_word : (g : BothRegisters) (mask p : ℕ) → Sized g → Word p → Word (wire_word f g mask p)
  unfolding wire_word
  wire_is_word g mask p h w = masked_word mask (keystream f g.r) p (keystream_word f onef g.r h.r_words) w

  pub plain_is_word : (g : BothRegisters) (mask wire : ℕ) → Sized g → Word wire → Word (plain_word f g mask wire)
  unfolding plain_word
  plain_is_word g mask wire h w = masked_word mask (keystream f g.r) wire (keystream_word f onef g.r h.r_words) w

  pub received_sized : (g : BothRegisters) (mask wire : ℕ) → Sized g → Word wire → Sized (received f A g mask wire)
  unfolding received
  received_sized g mask wire h w = taken_sized g mask (plain_word f g mask wire) h (plain_is_word g mask wire h w)

  pub all_received_sized : (g : BothRegisters) (ws : List MaskedWord) → Sized g → Every WireWord ws → Sized (all_received f A g ws)
  unfolding all_received
  all_received_sized g [] h l = h
  all_received_sized g (w ∷ ws) h l =
      all_received_sized (received f A g w.mask w.text) ws (received_sized g w.mask w.text h l.0) l.1

  pub nonces_sized : (g : BothRegisters) (ns : List ℕ) → Sized g → Every Word ns → Sized (nonces_taken f A g ns)
  unfolding nonces_taken nonce_taken
  nonces_sized g [] h a = h
  nonces_sized g (n ∷ ns) h a =
      let v : ℕ = keystream f g.r in
      nonces_sized (nonce_taken f A g n) ns
      record {
        r_size = step_size f g.r n h.r_size;
        c_size = check_size A g.c (bit_xor n v) h.c_size;
        r_words = step_words f onef g.r n h.r_words a.0;
        c_words = check_words A oneA g.c (bit_xor n v) h.c_words (xor_word n v a.0 (keystream_word f onef g.r h.r_words));
      }
      a.1

  zeros_sized : (n : ℕ) (g : BothRegisters) → Sized g → Sized (open_zeros f A n g)
  unfolding open_zeros
  zeros_sized zero g h = h
  zeros_sized (suc n) g h = zeros_sized n (taken f A g 0 0) (taken_sized g 0 0 h (omega arith))

  -- The registers as a message begins.
  pub begun_sized : (nonce : List ℕ) → Every (λ b. b < 256) nonce → Sized (begun f A nonce)
  unfolding begun
  begun_sized nonce a =
      zeros_sized 17 (nonces_taken f A zeroed (words_of nonce)) (nonces_sized zeroed (words_of nonce) zeroed_sized (all_words nonce (octets_read nonce a)))

  -- A sealed word steps the cipher register with the wire word, the check register with its plaintext word.
  pub received_sealed : (g : BothRegisters) (mask wire : ℕ) → mask ≡ sealed_mask → Sized g →
      Path BothRegisters (received f A g mask wire) (record { r = step f g.r wire; c = check_step A g.c (bit_xor wire (keystream f g.r)) })
  unfolding received
  received_sealed g mask wire e h =
      ap (λ (k : ℕ). taken f A g k (plain_word f g k wire)) e ∙
      sym (opened_sealed f A g wire (keystream f g.r) (keystream_word f onef g.r h.r_words) refl).1

  -- Sealed words step the cipher register by themselves.
  pub all_received_sealed_r : (g : BothRegisters) (ws : List MaskedWord) → Every SealedWord ws → Every WireWord ws → Sized g →
      (all_received f A g ws).r ≡ steps f g.r (map (λ w. w.text) ws)
  unfolding all_received steps
  all_received_sealed_r g [] s l h = refl
  all_received_sealed_r g (w ∷ ws) s l h =
      let g' = received f A g w.mask w.text in
      all_received_sealed_r g' ws s.1 l.1 (received_sized g w.mask w.text h l.0) ∙
      ap (λ (x : BothRegisters). steps f x.r (map (λ w. w.text) ws)) (received_sealed g w.mask w.text s.0 h)

module _ (f A : ℕ → ℕ) where
  -- The wire word of a plaintext word does what the plaintext word does.
  pub received_wire : (g : BothRegisters) (mask p : ℕ) → received f A g mask (wire_word f g mask p) ≡ taken f A g mask p
  unfolding received
  received_wire g mask p = (word_back f A g mask (wire_word f g mask p) _ _ refl refl p refl).1

  -- Equal cipher registers stay equal under one word.
  pub received_same_r : (g h : BothRegisters) (mask wire : ℕ) → g.r ≡ h.r → (received f A g mask wire).r ≡ (received f A h mask wire).r
  unfolding received taken plain_word
  received_same_r g h mask wire e = ap (λ (x : List ℕ). step f x (ciphertext f x (masked mask (keystream f x) wire))) e

  -- Joined lists of wire words, and one word more.
  pub all_received-++ : (g : BothRegisters) (us ws : List MaskedWord) → all_received f A g (us ++ ws) ≡ all_received f A (all_received f A g us) ws
  unfolding all_received
  all_received-++ g [] ws = refl
  all_received-++ g (u ∷ us) ws = all_received-++ (received f A g u.mask u.text) us ws

  pub all_received_push : (g : BothRegisters) (ws : List MaskedWord) (w : MaskedWord) →
      all_received f A g (ws ++ w ∷ []) ≡ received f A (all_received f A g ws) w.mask w.text
  unfolding all_received
  all_received_push g ws w = all_received-++ g ws (w ∷ [])

  -- Joined lists of plaintext words, and one word more.
  pub all_taken-++ : (g : BothRegisters) (us ws : List MaskedWord) → all_taken f A g (us ++ ws) ≡ all_taken f A (all_taken f A g us) ws
  unfolding all_taken
  all_taken-++ g [] ws = refl
  all_taken-++ g (u ∷ us) ws = all_taken-++ (taken f A g u.mask u.text) us ws

  pub all_taken_push : (g : BothRegisters) (ws : List MaskedWord) (w : MaskedWord) →
      all_taken f A g (ws ++ w ∷ []) ≡ taken f A (all_taken f A g ws) w.mask w.text
  unfolding all_taken
  all_taken_push g ws w = all_taken-++ g ws (w ∷ [])

  -- Wire words do what their plaintext words do.
  pub all_received_taken : (g : BothRegisters) (ws : List MaskedWord) → all_received f A g ws ≡ all_taken f A g (plain_words f A g ws)
  unfolding received all_received all_taken plain_words
  all_received_taken g [] = refl
  all_received_taken g (w ∷ ws) = all_received_taken (received f A g w.mask w.text) ws
