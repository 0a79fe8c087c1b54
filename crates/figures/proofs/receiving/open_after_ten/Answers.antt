use Rattle.std.proofs.Common.{◌≡◌, ap, Ok}
use Rattle.link.specs.declared.reception.Answer.TheVariants.{Withheld}
use Rattle.figures.proofs.Answering.{withheld}
use Rattle.figures.proofs.KnownFigures.{figure}
use Rattle.figures.proofs.receiving.open_after_ten.Goals as goal

pub returns : goal.returns
returns c =
    let answer : c.word.result ≡ Withheld 0 = withheld 10 0x0000 c.word.ensures.released c.in_ok-after_sealed.ensures 0 (figure 16) in
    ap Ok (simp answer at c.eq.ensures)
