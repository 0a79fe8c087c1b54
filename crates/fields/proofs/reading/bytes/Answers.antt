use Rattle.std.proofs.Common.{◌≡◌, ℕ, suc, ◌%◌, ◌<◌, inl, inr, false, List, [], ◌∷◌, Result, Err, length, codes, slice_index, refl, ap, sym, ◌∙◌, subst, arith}
use Rattle.std.specs.List.{list_all}
use Rattle.std.proofs.lemmas.Bool.{and_cases, both_ways, cases_eq}
use Rattle.std.proofs.lemmas.List.Sums.{list_all-from_AllPass}
use Rattle.std.proofs.lemmas.Result.{err_from_is_err_and}
use Rattle.hex.specs.Hex.{decode_of, is_hex_digit}
use Rattle.hex.specs.declared.error.FromHexError.{FromHexError}
use Rattle.hex.specs.declared.error.FromHexError.TheVariants.{OutOfMemory, OddLength}
use Rattle.hex.proofs.HexLemmas.{decode_of-err, decode_of-odd, decode_of-ok}
use Rattle.fields.specs.Reading.{NoBytes, Unreadable, fault_of}
use Rattle.fields.proofs.reading.bytes.Goals as goal

error_of : {T E : Type 0} {a b : E} → Path (Result T E) (Err a) (Err b) → a ≡ b
error_of e = cc

memory_is_odd : OutOfMemory ≡ OddLength → ⊥
memory_is_odd e = cc e

filled : (text : List ℕ) → (text ≡ [] → ⊥) → 0 < length text
filled [] other = absurd (other refl)
filled (c ∷ cs) other = omega arith

unreadable : (text : List ℕ) (e : FromHexError) → (text ≡ codes "-" → ⊥) → decode_of text ≡ Err e → Unreadable text
unreadable text e other h bytes (inl none) = other none.0
unreadable text e other h bytes (inr some) = cc (sym h ∙ some.1)

even : (text : List ℕ) (e : FromHexError) → decode_of text ≡ Err e → (e ≡ OddLength → ⊥) → length text % 2 ≡ 0
even text e h other =
    elim (cases_eq (length text % 2) 1) [
      | inl odd ↦ absurd (other (error_of (sym h ∙ decode_of-odd text odd)))
      | inr rest ↦ omega arith
    ]

why : (text : List ℕ) (e : FromHexError) → (text ≡ codes "-" → ⊥) → decode_of text ≡ Err e → NoBytes text (fault_of e)
why text e other h =
    let none = unreadable text e other h in
    elim (decode_of-err text e h) [
      | inl odd ↦ subst (λ (x : FromHexError). NoBytes text (fault_of x)) (sym odd.1) (none, odd.0)
      | inr bad ↦ subst (λ (x : FromHexError). NoBytes text (fault_of x)) (sym bad.1) (none, even text e h (λ is. cc (sym is ∙ bad.1)), (bad.0, bad.2, bad.3))
    ]

pub returns-in_err-decode-in_default-2 : goal.returns-in_err-decode-in_default-2
returns-in_err-decode-in_default-2 c =
    let p = err_from_is_err_and c.from_residual.result c.from_residual.ensures.1 in
    let e = c.in_err-decode-in_default-2.field-0.0 in
    let text = c.args.text.now in
    let same : c.as_bytes.result.now ≡ text = c.as_bytes.ensures.value in
    let other : text ≡ codes "-" → ⊥ = c.in_default.not-text in
    rw (p.1, p.2) (
    elim c.in_err-decode-in_default-2.ensures.err [
      | inl none ↦
          let pairs : length text % 2 ≡ 0 =
          elim (cases_eq (length text % 2) 1) [
            | inl odd ↦
                let long : length c.as_bytes.result.now ≡ length text = ap length same in
                absurd (memory_is_odd (sym none ∙ error_of (c.in_err-decode-in_default-2.ensures.odd (ap (λ n. n % 2) long ∙ odd))))
            | inr rest ↦ omega arith
          ] in
          subst (λ (x : FromHexError). NoBytes text (fault_of x)) (sym none) (filled text c.in_default.not-empty, pairs)
      | inr bad ↦ why text e other (subst (λ (l : List ℕ). decode_of l ≡ Err e) same bad)
    ])

-- A character that is no hex digit has a place, and a text with one stands for no bytes.
bad_at : (text : List ℕ) → list_all is_hex_digit text ≡ false → (k : ℕ) × (k < length text) × (is_hex_digit (slice_index text k) ≡ false)
bad_at [] h = cc h
bad_at (c ∷ cs) h =
    elim (and_cases (is_hex_digit c) (list_all is_hex_digit cs) h) [
      | inl first ↦ (0, omega arith, first)
      | inr rest ↦ let later = bad_at cs rest in (suc later.0, omega arith, later.2)
    ]

spoilt : (text : List ℕ) → (text ≡ codes "-" → ⊥) → list_all is_hex_digit text ≡ false → Unreadable text
spoilt text other h bytes (inl none) = other none.0
spoilt text other h bytes (inr some) = both_ways _ h (list_all-from_AllPass is_hex_digit text (decode_of-ok text bytes some.1).1)

pub returns-in_default : goal.returns-in_default
returns-in_default c =
    let text = c.args.text.now in
    let bad : list_all is_hex_digit text ≡ false = cc in
    (spoilt text c.in_default.not-text bad, omega arith, bad_at text bad)
