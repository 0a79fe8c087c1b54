-- What a receiver answers that stands where a new one stands after so many sealed words.
use Rattle.std.proofs.Common.{◌≡◌, ℕ, suc, List, [], ◌∷◌, length, get_or, ap, ◌∙◌, refl, subst, arith}
use Rattle.link.specs.Receiving.{Released, decided}
use Rattle.link.specs.declared.reception.Reception.{Reception}
use Rattle.link.specs.declared.reception.Event.TheVariants.{Word}
use Rattle.link.specs.declared.reception.Release.{Release}
use Rattle.link.specs.declared.reception.Release.TheVariants.{HandOut, Withhold}
use Rattle.link.specs.declared.reception.Answer.{Answer}
use Rattle.link.specs.declared.reception.Answer.TheVariants.{Reading, Withheld}
use Rattle.figures.specs.Figures.{after_sealed, released, rows}

-- Where it stands after one more sealed word.
pub one_more : (n : ℕ) {s s' : Reception} → s ≡ after_sealed n → s' ≡ (decided s (Word 0xFFFF)).0 → s' ≡ after_sealed (suc n)
one_more n at is = is ∙ ap (λ (s : Reception). (decided s (Word 0xFFFF)).0) at

-- A word that is withheld with a row is answered by that row, and one that is withheld with none by a reading.
told_row : (release : Release) (answer : Answer) (row : ℕ) → Released release answer → rows release ≡ row ∷ [] → answer ≡ Withheld row
told_row HandOut answer row said one = absurd (omega (arith, ap length one))
told_row (Withhold n) (Reading p) row said one = absurd said
told_row (Withhold n) (Withheld m) row said one = ap Withheld (said ∙ ap (λ (xs : List ℕ). get_or xs 0 0) one)

told_reading : (release : Release) (answer : Answer) → Released release answer → rows release ≡ [] → (p : ℕ) × (answer ≡ Reading p)
told_reading HandOut (Reading p) said none = (p, refl)
told_reading HandOut (Withheld n) said none = absurd said
told_reading (Withhold n) answer said none = absurd (omega (arith, ap length none))

-- The answer to a word whose row is published, and to one that is published to have none.
module _ (n mask : ℕ) {s : Reception} {answer : Answer} (said : Released (decided s (Word mask)).1 answer) (at : s ≡ after_sealed n) where
  pub withheld : (row : ℕ) → rows (released n mask) ≡ row ∷ [] → answer ≡ Withheld row
  withheld row published = told_row (released n mask) answer row (subst (λ (s : Reception). Released (decided s (Word mask)).1 answer) at said) published

  pub handed_out : rows (released n mask) ≡ [] → (p : ℕ) × (answer ≡ Reading p)
  handed_out published = told_reading (released n mask) answer (subst (λ (s : Reception). Released (decided s (Word mask)).1 answer) at said) published
