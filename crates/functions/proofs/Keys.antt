-- The table of a key: one key byte more, and that it keeps the law of a keyed function.
use Rattle.std.proofs.Common.{◌≡◌, ℕ, suc, ◌+◌, ◌*◌, ◌/◌, ◌%◌, ◌<◌, ◌≤◌, List, [], ◌∷◌, length, get_or, drop, replicate, sym, refl, ap, ◌∙◌, subst, inl, inr, arith}
use lib.Bits.{bit_xor, xor_lt, xor_comm}
use Rattle.std.proofs.lemmas.List.FromFn.{get_or-map-range_with_len, length-map-range_with_len}
use Rattle.std.proofs.lemmas.List.{at_drop_more, at_drop_all, get_or_past, get_or-replicate, length-replicate}
use Rattle.std.proofs.lemmas.Bool.{cases_lt}
use Rattle.sss.specs.Bytes.{Octets}
use Rattle.sss.specs.Tables.{skipjack, qbox}
use Rattle.sss.specs.Cipher.{Word, Lawful, keyed, key_byte, key_word, key_entry, key_table, rotate}
use Rattle.functions.proofs.Skipjack.{skipjack_apart, skipjack_byte}
use Rattle.sss.proofs.Words.{xor_undo, xor_cancel}

module _ (key : List ℕ) (i b : ℕ) where
  pub key_byte_more : i < length key →
      key_byte (drop i key) b ≡ key_byte (drop (i + 1) key) (get_or skipjack (bit_xor b (get_or key i 0)) 0)
  unfolding key_byte
  key_byte_more h = at_drop_more (λ ks. key_byte ks b) key i 0 h

  pub key_word_more : i < length key →
      key_word i (drop i key) b ≡
      bit_xor (rotate i (get_or qbox (get_or skipjack (bit_xor b (get_or key i 0)) 0) 0))
      (key_word (i + 1) (drop (i + 1) key) (get_or skipjack (bit_xor b (get_or key i 0)) 0))
  unfolding key_word
  key_word_more h = at_drop_more (λ ks. key_word i ks b) key i 0 h

  pub key_byte_all : length key ≤ i → key_byte (drop i key) b ≡ b
  unfolding key_byte
  key_byte_all h = at_drop_all (λ ks. key_byte ks b) key i h

  pub key_word_all : length key ≤ i → key_word i (drop i key) b ≡ 0
  unfolding key_word
  key_word_all h = at_drop_all (λ ks. key_word i ks b) key i h

-- THE TABLE OF A KEY KEEPS THE LAW. Its bytes b(N) are a permutation of the bytes.
key_byte_byte : (key : List ℕ) → Octets key → (b : ℕ) → b < 256 → key_byte key b < 256
unfolding key_byte
key_byte_byte [] h b l = l
key_byte_byte (k ∷ ks) h b l =
    key_byte_byte ks (λ i. h (suc i)) (get_or skipjack (bit_xor b k) 0) (skipjack_byte (bit_xor b k) (xor_lt 8 b k l (h 0)))

key_byte_apart : (key : List ℕ) → Octets key → (b d : ℕ) → b < 256 → d < 256 → key_byte key b ≡ key_byte key d → b ≡ d
unfolding key_byte
key_byte_apart [] h b d p q e = e
key_byte_apart (k ∷ ks) h b d p q e =
    let bk : bit_xor b k < 256 = xor_lt 8 b k p (h 0) in
    let dk : bit_xor d k < 256 = xor_lt 8 d k q (h 0) in
    xor_cancel b d k
    (skipjack_apart (bit_xor b k) (bit_xor d k) bk dk
    (key_byte_apart ks (λ i. h (suc i)) (get_or skipjack (bit_xor b k) 0) (get_or skipjack (bit_xor d k) 0) (skipjack_byte (bit_xor b k) bk)
    (skipjack_byte (bit_xor d k) dk) e))

key_entry_at : (key : List ℕ) (i : ℕ) → i < 256 → get_or (key_table key) i 0 ≡ key_entry key i
unfolding key_table
key_entry_at key i h = get_or-map-range_with_len (key_entry key) 0 256 i i 0 h (omega arith)

-- The keyed function of a key, by the one entry that it needs.
pub keyed_by_entry : (key : List ℕ) (a : ℕ) → Word a → keyed (key_table key) a ≡ bit_xor (key_entry key (a / 256)) a
unfolding keyed
keyed_by_entry key a h = ap (λ (s : ℕ). bit_xor s a) (key_entry_at key (a / 256) (omega arith))

-- Of no key bytes the table is all zero.
pub key_table_none : key_table [] ≡ replicate 256 0
unfolding key_table key_entry key_byte key_word
key_table_none = refl

module _ (key : List ℕ) (bytes : Octets key) where
  key_entry_word : (i : ℕ) → i < 256 → Word (key_entry key i)
  unfolding key_entry
  key_entry_word i h = omega (arith, xor_lt 8 (key_byte key i) i (key_byte_byte key bytes i h) h)

  key_entry_high : (i : ℕ) → i < 256 → bit_xor i (get_or (key_table key) i 0 / 256) ≡ key_byte key i
  unfolding key_entry
  key_entry_high i h =
      let x = bit_xor (key_byte key i) i in
      let w = key_word 0 key i in
      let high : (x * 256 + w % 256) / 256 ≡ x = omega arith in
      ap (λ (y : ℕ). bit_xor i (y / 256)) (key_entry_at key i h) ∙ ap (bit_xor i) high ∙ xor_comm i (bit_xor (key_byte key i) i) ∙
      xor_undo (key_byte key i) i

  key_table_length : length (key_table key) ≡ 256
  unfolding key_table
  key_table_length = length-map-range_with_len (key_entry key) 0 256

  pub key_table_lawful : Lawful (key_table key)
  key_table_lawful = record {
    count = key_table_length;
    words = λ i. elim (cases_lt i 256) [
      | inl h ↦ subst Word (sym (key_entry_at key i h)) (key_entry_word i h)
      | inr h ↦ subst Word (sym (get_or_past (key_table key) i 0 (omega (arith, key_table_length)))) (omega arith)
    ];
    apart = λ i j h l e. key_byte_apart key bytes i j h l (sym (key_entry_high i h) ∙ e ∙ key_entry_high j l);
  }

-- A table whose entries are all one word keeps the law.
pub one_word_lawful : (w : ℕ) → Word w → Lawful (replicate 256 w)
one_word_lawful w h =
    let all : List ℕ = replicate 256 w in
    let long : length all ≡ 256 = length-replicate 256 w in
    let at : (i : ℕ) → i < 256 → get_or all i 0 ≡ w = λ i lt. get_or-replicate 256 i w 0 lt in
    record {
      count = long;
      words = λ i. elim (cases_lt i 256) [
        | inl lt ↦ subst Word (sym (at i lt)) h
        | inr ge ↦ let past : get_or all i 0 ≡ 0 = get_or_past all i 0 (omega (arith, long)) in omega (arith, past)
      ];
      apart = λ i j hi hj e.
          xor_cancel i j (w / 256)
          (sym (ap (λ (x : ℕ). bit_xor i (x / 256)) (at i hi)) ∙ e ∙ ap (λ (x : ℕ). bit_xor j (x / 256)) (at j hj));
    }
