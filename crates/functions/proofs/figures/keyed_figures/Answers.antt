use Rattle.std.proofs.Common.{◌≡◌, ℕ, List, [], ◌∷◌, ap, ◌∙◌, Ok}
use Rattle.std.proofs.lemmas.Bool.Decides.{Decides-eqb}
use Rattle.std.proofs.lemmas.Slice.Eq.{slice_eq-Decides}
use Rattle.sss.specs.Cipher.{keyed}
use Rattle.functions.proofs.KnownFigures.{figure}
use Rattle.functions.proofs.figures.keyed_figures.Goals as goal

-- The image of a word by the table that a function has.
image : (S T : List ℕ) (a : ℕ) {r n : ℕ} → r ≡ keyed S a → S ≡ T → keyed T a ≡ n → r ≡ n
image S T a said is figure = said ∙ ap (λ (S : List ℕ). keyed S a) is ∙ figure

pub returns : goal.returns
returns c =
    let f₁ = c.in_ok-of.ensures in
    let f₂ = c.in_ok-of-2.ensures in
    let f₃ = c.in_ok-of-3.ensures in
    let f₄ = c.in_ok-of-4.ensures in
    let first = image _ _ _ (c.apply.ensures.value f₁.2) f₁.1 (figure 0 0) in
    let second = image _ _ _ (c.apply-2.ensures.value f₂.2) f₂.1 (figure 1 0) in
    let third = image _ _ _ (c.apply-3.ensures.value f₃.2) f₃.1 (figure 2 0) in
    let fourth = image _ _ _ (c.apply-4.ensures.value f₄.2) f₄.1 (figure 3 0) in
    ap Ok ((slice_eq-Decides Decides-eqb _ _ _ c.eq.ensures).1 (λ i. first i ∷ second i ∷ third i ∷ fourth i ∷ []))
