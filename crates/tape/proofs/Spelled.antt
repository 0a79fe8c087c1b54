-- An item's part of the tape is the bytes of the command that it is.
use Rattle.std.proofs.Common.{◌≡◌, ℕ, suc, ◌-◌, ◌/◌, ◌%◌, ◌<◌, List, [], ◌∷◌, length, get_or, drop, refl, sym, ap, ◌∙◌, arith}
use Rattle.sss.specs.Cipher.{Word as IsWord}
use Rattle.sss.specs.Bytes.{bytes_of_words}
use Rattle.tape.specs.Format.{Fits, bytes_of}
use Rattle.tape.specs.Items.{command_of, operands, part_of}
use Rattle.tape.specs.declared.item.Item.{Item}
use Rattle.tape.specs.declared.item.Item.TheVariants.{Nonce, Word, Break, Tag}
use Rattle.tape.specs.declared.item.WordItem.TheVariants.{Sealed, Open, Part}
use Rattle.sss.specs.Bytes.{Octets}
use Rattle.sss.proofs.Bytes.{all_words, length-words_of, respelled, words_read}
use Rattle.std.proofs.lemmas.List.{length-drop}
use Rattle.link.proofs.Calls.{bytes_fit}

-- One word, and two, by their places.
one_cell : (ws : List ℕ) → length ws ≡ 1 → ws ≡ get_or ws 0 0 ∷ []
one_cell [] h = absurd (omega arith)
one_cell (w ∷ []) h = refl
one_cell (w ∷ v ∷ ws) h = absurd (omega arith)

two_cells : (ws : List ℕ) → length ws ≡ 2 → ws ≡ get_or ws 0 0 ∷ get_or ws 1 0 ∷ []
two_cells [] h = absurd (omega arith)
two_cells (w ∷ []) h = absurd (omega arith)
two_cells (w ∷ v ∷ []) h = refl
two_cells (w ∷ v ∷ u ∷ ws) h = absurd (omega arith)

-- A part is its command byte and what stands behind it.
behind : (b : ℕ) (part : List ℕ) → get_or part 0 0 ≡ b → 0 < length part → part ≡ b ∷ drop 1 part
behind b [] is h = absurd (omega arith)
behind b (c ∷ bs) is h = ap (λ (x : ℕ). x ∷ bs) is

-- A part is its command byte and the bytes of its operands.
by_operands : (b : ℕ) (part ws : List ℕ) → get_or part 0 0 ≡ b → Octets part → length part % 2 ≡ 1 → operands part ≡ ws → part ≡ b ∷ bytes_of_words ws
by_operands b [] ws head h odd is = absurd (omega arith)
by_operands b (c ∷ bs) ws head h odd is =
    behind b (c ∷ bs) head (omega arith) ∙ ap (λ (xs : List ℕ). b ∷ xs) (sym (respelled bs (λ i. h (suc i)) (omega arith)) ∙ ap bytes_of_words is)

-- How many operands a part has.
pub length-operands : (part : List ℕ) → length (operands part) ≡ (length part - 1) / 2
length-operands [] = refl
length-operands (c ∷ bs) = length-words_of bs ∙ omega arith

-- What stands behind the command byte of a part.
octets_behind : (part : List ℕ) → Octets part → Octets (drop 1 part)
octets_behind [] h = h
octets_behind (c ∷ bs) h = λ i. h (suc i)

-- An operand is a word.
word_of : (part : List ℕ) → Octets part → (i : ℕ) → IsWord (get_or (operands part) i 0)
word_of part h i = words_read (operands part) (all_words (drop 1 part) (octets_behind part h)) i

-- A part of one word, and one of two.
one_word : (b : ℕ) (part : List ℕ) → get_or part 0 0 ≡ b → Octets part → length part ≡ 3 → part ≡ b ∷ bytes_of_words (get_or (operands part) 0 0 ∷ [])
one_word b part head h three =
    let n = length-operands part in
    by_operands b part (get_or (operands part) 0 0 ∷ []) head h (omega (arith, three)) (one_cell (operands part) (omega (arith, three)))

two_words : (b : ℕ) (part : List ℕ) → get_or part 0 0 ≡ b → Octets part → length part ≡ 5 → part ≡ b ∷ bytes_of_words (get_or (operands part) 0 0 ∷ get_or (operands part) 1 0 ∷ [])
two_words b part head h five =
    let n = length-operands part in
    by_operands b part (get_or (operands part) 0 0 ∷ get_or (operands part) 1 0 ∷ []) head h (omega (arith, five)) (two_cells (operands part) (omega (arith, five)))

-- A part of one byte.
no_operands : (b : ℕ) (part : List ℕ) → get_or part 0 0 ≡ b → length part ≡ 1 → part ≡ b ∷ []
no_operands b [] head h = absurd (omega arith)
no_operands b (c ∷ []) head h = ap (λ (x : ℕ). x ∷ []) head
no_operands b (c ∷ d ∷ bs) head h = absurd (omega arith)

pub spelled : (i : Item) → part_of i ≡ bytes_of (command_of i)
spelled (Nonce n) = behind 0x4E n.bytes.now n.command (omega (arith, n.size))
spelled (Word (Sealed w)) = one_word 0x53 w.bytes.now w.command w.octets w.size
spelled (Word (Open w)) = one_word 0x4F w.bytes.now w.command w.octets w.size
spelled (Word (Part w)) = two_words 0x50 w.bytes.now w.command w.octets w.size
spelled (Break b) = no_operands 0x42 b.bytes.now b.command b.size
spelled (Tag t) = by_operands 0x54 t.bytes.now (operands t.bytes.now) t.command t.octets (omega (arith, t.size)) refl

-- And that command is one.
pub fits : (i : Item) → Fits (command_of i)
fits (Nonce n) = (omega (arith, length-drop 1 n.bytes.now, n.size), bytes_fit (drop 1 n.bytes.now) (octets_behind n.bytes.now n.octets))
fits (Word (Sealed w)) = word_of w.bytes.now w.octets 0
fits (Word (Open w)) = word_of w.bytes.now w.octets 0
fits (Word (Part w)) = (word_of w.bytes.now w.octets 0, word_of w.bytes.now w.octets 1)
fits (Break b) = tt
fits (Tag t) = (length-operands t.bytes.now ∙ omega (arith, t.size), all_words (drop 1 t.bytes.now) (octets_behind t.bytes.now t.octets))
