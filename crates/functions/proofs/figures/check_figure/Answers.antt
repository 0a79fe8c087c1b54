use Rattle.std.proofs.Common.{ℕ, List, get_or, ap, ◌∙◌}
use Rattle.std.proofs.lemmas.Bool.{eq-eqb}
use Rattle.sss.specs.Cipher.{check_step, product}
use Rattle.functions.proofs.KnownFigures.{figure}
use Rattle.functions.proofs.figures.check_figure.Goals as goal

pub returns : goal.returns
returns c =
    let stepped = c.words.ensures ∙ c.step.ensures ∙ ap (λ (r : List ℕ). check_step product r 1) c.from_words-register.ensures in
    eq-eqb _ _ (ap (λ (r : List ℕ). get_or r 16 0) stepped ∙ figure 12 0)
