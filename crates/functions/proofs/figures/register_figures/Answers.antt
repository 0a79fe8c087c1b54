use Rattle.std.proofs.Common.{◌≡◌, [], map, get_or, ap, Ok}
use Rattle.std.proofs.lemmas.Bool.{eq-eqb, and_from}
use Rattle.std.proofs.lemmas.Bool.Decides.{Decides-eqb}
use Rattle.std.proofs.lemmas.Slice.Eq.{slice_eq-Decides}
use Rattle.functions.specs.Figures.{figures}
use Rattle.functions.proofs.KnownFigures.{figure, register_figure}
use Rattle.functions.proofs.figures.register_figures.Goals as goal

pub returns : goal.returns
returns c =
    let key = c.in_ok-f.ensures in
    let asked = c.keystream-v.ensures in
    let v = asked.promise key.2 in
    let stepped = (c.step.ensures.promise (asked.kept.sound key.2)).0 in
    let stream : c.keystream-v.result ≡ 0x902C = cc (figure 4 0) in
    let register : c.words.result ≡ get_or (map (λ x. x.published) figures) 5 [] = cc register_figure in
    ap Ok (and_from _ _ (eq-eqb _ _ stream) ((slice_eq-Decides Decides-eqb _ _ _ c.eq.ensures).1 register))
