-- The words of whole messages: that they are words, that their masks stay, and what is read back from their bytes.
use Rattle.std.proofs.Common.{◌≡◌, ℕ, zero, suc, List, [], ◌∷◌, length, map, reverse, refl, sym, ap, ◌∙◌, arith}
use Rattle.std.specs.List.{AllByRecursion as Every}
use Rattle.std.proofs.lemmas.List.{append-nil}
use Rattle.sss.specs.Bytes.{Octets, bytes_of_words}
use Rattle.sss.specs.Cipher.{OneToOne, BothRegisters, Word, Words, all_fed, all_taken, drawn_from, fed, plain_word, plain_words, stepped, tag, taken, wire_words, words_of}
use Rattle.sss.specs.Directions.{mask_of, text_of}
use Rattle.sss.specs.declared.message.MaskedWord.{MaskedWord}
use Rattle.sss.proofs.Bytes.{all_words, length-words_of, reread}
use Rattle.link.proofs.Every.{every_reversed}
use Rattle.link.proofs.Altered.{register_fed}
use Rattle.link.proofs.Received.{Sized, WireWord, all_from, ciphertext_word, plain_is_word, taken_sized, wire_is_word}
use Rattle.message.specs.Buffers.{masked_words, text_bytes, words_under}

-- Words made bytes, and words again.
pub words_again : (ws : List ℕ) → Every Word ws → words_of (bytes_of_words ws) ≡ ws
words_again ws h = ap words_of (sym (append-nil (bytes_of_words ws))) ∙ reread ws [] h ∙ append-nil ws

masks_masked : (ks ts : List ℕ) → length ks ≡ length ts → map mask_of (masked_words ks ts) ≡ ks
masks_masked [] ts e = refl
masks_masked (k ∷ ks) [] e = absurd (omega arith)
masks_masked (k ∷ ks) (t ∷ ts) e = ap {B = List ℕ} (λ xs. k ∷ xs) (masks_masked ks ts (omega arith))

masked_again : (ws : List MaskedWord) → masked_words (map mask_of ws) (map text_of ws) ≡ ws
masked_again [] = refl
masked_again (w ∷ ws) = ap {B = List MaskedWord} (λ xs. w ∷ xs) (masked_again ws)

pub masks_under : (masks texts : List ℕ) → length masks ≡ length texts → map mask_of (words_under masks texts) ≡ words_of masks
masks_under masks texts e =
    let k = length-words_of masks in
    let t = length-words_of texts in
    masks_masked (words_of masks) (words_of texts) (omega arith)

-- Words with the masks of a buffer, made bytes and read under these masks again.
pub words_under_again : (masks : List ℕ) (ws : List MaskedWord) → map mask_of ws ≡ words_of masks → Every Word (map text_of ws) →
    words_under masks (text_bytes ws) ≡ ws
words_under_again masks ws kept fit =
    ap (masked_words (words_of masks)) (words_again (map text_of ws) fit) ∙ ap (λ (ks : List ℕ). masked_words ks (map text_of ws)) (sym kept) ∙ masked_again ws

texts_fit : (ks ts : List ℕ) → Every Word ts → Every WireWord (masked_words ks ts)
texts_fit [] ts h = tt
texts_fit (k ∷ ks) [] h = tt
texts_fit (k ∷ ks) (t ∷ ts) h = (h.0, texts_fit ks ts h.1)

pub words_under_fit : (masks texts : List ℕ) → Octets texts → Every WireWord (words_under masks texts)
words_under_fit masks texts octets = texts_fit (words_of masks) (words_of texts) (all_words texts octets)

module _ (f A : ℕ → ℕ) where
  -- Sealing and opening keep the masks, and the number of words.
  pub wires_masks : (g : BothRegisters) (ws : List MaskedWord) → map mask_of (wire_words f A g ws) ≡ map mask_of ws
  unfolding wire_words
  wires_masks g [] = refl
  wires_masks g (w ∷ ws) = ap {B = List ℕ} (λ xs. w.mask ∷ xs) (wires_masks (taken f A g w.mask w.text) ws)

  pub length-wires : (g : BothRegisters) (ws : List MaskedWord) → length (wire_words f A g ws) ≡ length ws
  unfolding wire_words
  length-wires g [] = refl
  length-wires g (w ∷ ws) = let e = length-wires (taken f A g w.mask w.text) ws in omega arith

  pub length-plains : (g : BothRegisters) (ms : List MaskedWord) → length (plain_words f A g ms) ≡ length ms
  unfolding plain_words
  length-plains g [] = refl
  length-plains g (m ∷ ms) = let e = length-plains (taken f A g m.mask (plain_word f g m.mask m.text)) ms in omega arith

  module _ (onef : OneToOne f) (oneA : OneToOne A) where
    -- Wire words and plaintext words are words, and the registers stay registers.
    pub wires_fit : (g : BothRegisters) (ws : List MaskedWord) → Sized g → Every WireWord ws → Every Word (map text_of (wire_words f A g ws))
    unfolding wire_words
    wires_fit g [] h l = tt
    wires_fit g (w ∷ ws) h l =
        (wire_is_word f A onef oneA g w.mask w.text h l.0, wires_fit (taken f A g w.mask w.text) ws (taken_sized f A onef oneA g w.mask w.text h l.0) l.1)

    pub plains_fit : (g : BothRegisters) (ms : List MaskedWord) → Sized g → Every WireWord ms → Every WireWord (plain_words f A g ms)
    unfolding plain_words
    plains_fit g [] h l = tt
    plains_fit g (m ∷ ms) h l =
        let p = plain_is_word f A onef oneA g m.mask m.text h l.0 in
        (p, plains_fit (taken f A g m.mask (plain_word f g m.mask m.text)) ms (taken_sized f A onef oneA g m.mask (plain_word f g m.mask m.text) h p) l.1)

    pub all_taken_sized : (g : BothRegisters) (ws : List MaskedWord) → Sized g → Every WireWord ws → Sized (all_taken f A g ws)
    unfolding all_taken
    all_taken_sized g [] h l = h
    all_taken_sized g (w ∷ ws) h l = all_taken_sized (taken f A g w.mask w.text) ws (taken_sized f A onef oneA g w.mask w.text h l.0) l.1

module _ (f : ℕ → ℕ) (onef : OneToOne f) where
  all_fed_words : (r ps : List ℕ) → Words r → Every Word ps → Words (all_fed f r ps)
  unfolding all_fed
  all_fed_words r [] h l = h
  all_fed_words r (p ∷ ps) h l = all_fed_words (fed f r p) ps (register_fed f onef r p h l.0) l.1

  stepped_words : (n : ℕ) (r : List ℕ) → Words r → Every Word (stepped f n r)
  unfolding stepped
  stepped_words zero r h = tt
  stepped_words (suc n) r h = (ciphertext_word f onef r 0 h (omega arith), stepped_words n (fed f r 0) (register_fed f onef r 0 h (omega arith)))

  -- A tag is eight words.
  pub tag_words : (g : BothRegisters) → Sized g → Every Word (tag f g)
  unfolding tag drawn_from
  tag_words g h =
      stepped_words 8 (drawn_from f g)
      (all_fed_words (fed f g.r 0) (reverse g.c) (register_fed f onef g.r 0 h.r_words (omega arith)) (every_reversed Word g.c (all_from g.c h.c_words)))

pub length-tag : (f : ℕ → ℕ) (g : BothRegisters) → length (tag f g) ≡ 8
unfolding tag stepped
length-tag f g = refl
