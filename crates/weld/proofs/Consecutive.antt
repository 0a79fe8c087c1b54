-- Lines of consecutive words, with one word more.
use Rattle.std.proofs.Common.{◌≡◌, ℕ, ◌+◌, ◌-◌, ◌≤◌, true, List, [], ◌∷◌, ◌++◌, length, map, suc, sym, ap, ◌∙◌, add-zero, length-append, arith}
use Rattle.std.specs.List.{range_with_len}
use Rattle.std.proofs.lemmas.List.FromFn.{map-range_with_len_more}
use Rattle.weld.specs.Lines.{CarriesOn, PlacesFit, Telling, lost, readings_from, right, withheld}
use Rattle.weld.specs.declared.line.Line.TheVariants.{Lost, Withheld}
use Rattle.weld.specs.declared.places.Places.{Places}
use Rattle.weld.specs.declared.span.Span.{Span}

-- Things told of consecutive places, with one place more.
place_more : (f : ℕ → Telling) (first last place : ℕ) → first ≤ last → place ≡ last + 1 →
    map f (range_with_len first (place + 1 - first)) ≡ map f (range_with_len first (last + 1 - first)) ++ f place ∷ []
place_more f first last place h next =
    let count : place + 1 - first ≡ last + 1 - first + 1 = omega arith in
    ap (λ (n : ℕ). map f (range_with_len first n)) count ∙ map-range_with_len_more f first (last + 1 - first) place (omega arith)

-- Readings with one more.
readings_more : (place mask : ℕ) (readings : List ℕ) (reading : ℕ) →
    readings_from place mask (readings ++ reading ∷ []) ≡ readings_from place mask readings ++ right (place + length readings) mask reading ∷ []
readings_more place mask [] reading = simp add-zero
readings_more place mask (first ∷ readings) reading =
    let at : place + 1 + length readings ≡ place + suc (length readings) = omega arith in
    ap (λ (told : List Telling). right place mask first ∷ told) (rw at at (readings_more (place + 1) mask readings reading))

-- The places that go on with one more, under the same mask.
pub record Longer (p : Places) (place mask : ℕ) (p' : Places) : Type 0 where
  pub next : (place ≡ p.span.last + 1) × (mask ≡ p.mask)
  pub taken : p' ≡ record { span = record { first = p.span.first; last = place }; mask = p.mask }

module _ {p p' : Places} {place mask : ℕ} (longer : Longer p place mask p') where
  pub lost_more : p.span.first ≤ p.span.last → CarriesOn true (Lost p) (lost place mask) (Lost p')
  lost_more h =
      let told = place_more (λ n. lost n p.mask) p.span.first p.span.last place h longer.next.0 in
      rw (longer.taken, longer.next.1) (record { telling = told; fit = omega (arith, longer.next.0) })

  pub withheld_more : (rows rows' : Span ℕ) (row : ℕ) → PlacesFit (Withheld p rows) → row ≡ rows.last + 1 → rows' ≡ record { first = rows.first; last = row } →
      CarriesOn true (Withheld p rows) (withheld place mask row) (Withheld p' rows')
  withheld_more rows rows' row fit next rises =
      let told = place_more (λ n. withheld n p.mask (rows.first + (n - p.span.first))) p.span.first p.span.last place fit.0 longer.next.0 in
      let number : rows.first + (place - p.span.first) ≡ row = omega (arith, fit.0, fit.1, longer.next.0) in
      rw (longer.taken, longer.next.1, rises) (record {
        telling = rw number at told;
        fit = (omega (arith, fit.0, longer.next.0), omega (arith, fit.1, longer.next.0, next));
      })

  pub read_more : (readings : List ℕ) (reading : ℕ) → p.span.first + length readings ≡ p.span.last + 1 →
      readings_from p'.span.first p'.mask (readings ++ reading ∷ []) ≡
      readings_from p.span.first p.mask readings ++ right place mask reading ∷ []
  read_more readings reading fit =
      let at : p.span.first + length readings ≡ place = fit ∙ sym longer.next.0 in
      rw (longer.taken, longer.next.1) (rw at at (readings_more p.span.first p.mask readings reading))

  pub fit_more : (readings : List ℕ) (reading : ℕ) → p.span.first + length readings ≡ p.span.last + 1 →
      p'.span.first + length (readings ++ reading ∷ []) ≡ p'.span.last + 1
  fit_more readings reading fit = rw longer.taken (omega (arith, length-append readings (reading ∷ []), fit, longer.next.0))
