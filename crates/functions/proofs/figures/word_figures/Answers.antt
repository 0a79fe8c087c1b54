use Rattle.std.proofs.Common.{◌≡◌, true, ap, Ok}
use Rattle.std.proofs.lemmas.Bool.{and_from}
use Rattle.functions.proofs.KnownFigures.{word_figure}
use Rattle.functions.proofs.figures.word_figures.Goals as goal

pub returns : goal.returns
returns c =
    let first : c.in_ok-word_is.field-0 ≡ true = cc (c.in_ok-word_is.was, word_figure 9) in
    let second : c.in_ok-word_is-2.field-0 ≡ true = cc (c.in_ok-word_is-2.was, word_figure 10) in
    let third : c.in_ok-word_is-3.field-0 ≡ true = cc (c.in_ok-word_is-3.was, word_figure 11) in
    ap Ok (and_from _ _ (and_from _ _ first second) third)
