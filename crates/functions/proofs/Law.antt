-- The law of a keyed function: how a table is tested for it.
use Rattle.std.proofs.Common.{◌≡◌, ℕ, ◌+◌, ◌/◌, ◌<◌, Bool, true, false, ◌≢◌, List, length, get_or, set, replicate, sym, refl, ap, ◌∙◌, inl, inr, arith}
use lib.Bits.{bit_xor}
use Rattle.std.proofs.lemmas.List.{get_or-set_same, get_or-set_other, length-set}
use Rattle.std.proofs.lemmas.Bool.{cases_eq, cases_lt, true≢false}
use Rattle.sss.specs.Cipher.{Lawful}
use Rattle.sss.proofs.Arrays.{blank_at}

-- The byte that the law asks to differ from entry to entry.
abbrev pub byte_at : List ℕ → ℕ → ℕ
byte_at S i = bit_xor i (get_or S i 0 / 256)

-- What a test of the first n entries has seen.
pub record Seen (S : List ℕ) (seen : List Bool) (n : ℕ) : Type 0 where
  pub long : length seen ≡ 256
  pub noted : (j : ℕ) → j < n → get_or seen (byte_at S j) false ≡ true
  pub only : (b : ℕ) → get_or seen b false ≡ true → (j : ℕ) × (j < n) × (byte_at S j ≡ b)
  pub apart : (i j : ℕ) → i < n → j < n → byte_at S i ≡ byte_at S j → i ≡ j

pub seen_none : (S : List ℕ) → Seen S (replicate 256 false) 0
seen_none S = record {
  long = refl;
  noted = λ j h. absurd (omega arith);
  only = λ b e. absurd (true≢false (sym e ∙ blank_at false 256 b));
  apart = λ i j h l e. absurd (omega arith);
}

-- One more entry, whose byte was not seen.
module _ (S : List ℕ) (seen : List Bool) (n : ℕ) (before : Seen S seen n) (b : ℕ) (is : b ≡ byte_at S n) (small : b < 256) where
  fresh : get_or seen b false ≡ false → (j : ℕ) → j < n → byte_at S j ≢ b
  fresh new j h e = true≢false (sym (before.noted j h) ∙ ap (λ (x : ℕ). get_or seen x false) e ∙ new)

  pub seen_more : get_or seen b false ≡ false → Seen S (set seen b true) (n + 1)
  seen_more new =
      let room : b < length seen = omega (arith, before.long) in
      record {
        long = length-set seen b true ∙ before.long;
        noted = λ j h. elim (cases_lt j n) [
          | inl l ↦ get_or-set_other seen b (byte_at S j) true false (fresh new j l) ∙ before.noted j l
          | inr l ↦
              let e : j ≡ n = omega arith in
              ap (λ (x : ℕ). get_or (set seen b true) x false) (ap (byte_at S) e ∙ sym is) ∙ get_or-set_same seen b true false room
        ];
        only = λ d e. elim (cases_eq d b) [
          | inl q ↦ (n, omega arith, sym is ∙ sym q)
          | inr q ↦
              let old = before.only d (sym (get_or-set_other seen b d true false q) ∙ e) in
              (old.0, omega (arith, old.1), old.2)
        ];
        apart = λ i j h l e. elim (cases_lt i n) [
          | inl p ↦ elim (cases_lt j n) [
            | inl q ↦ before.apart i j p q e
            | inr q ↦
                let j_is : j ≡ n = omega arith in
                absurd (fresh new i p (e ∙ ap (byte_at S) j_is ∙ sym is))
          ]
          | inr p ↦ elim (cases_lt j n) [
            | inl q ↦
                let i_is : i ≡ n = omega arith in
                absurd (fresh new j q (sym e ∙ ap (byte_at S) i_is ∙ sym is))
            | inr q ↦ omega arith
          ]
        ];
      }

  -- A byte that was seen before breaks the law.
  pub seen_twice : n < 256 → get_or seen b false ≡ true → Lawful S → ⊥
  seen_twice lt old law =
      let first = before.only b old in
      let same : first.0 ≡ n = law.apart first.0 n (omega (arith, first.1)) lt (first.2 ∙ is) in
      omega (arith, first.1)
