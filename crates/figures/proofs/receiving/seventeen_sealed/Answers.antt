use Rattle.std.proofs.Common.{◌≡◌, true, ap, Ok}
use Rattle.std.proofs.lemmas.Bool.{and_from}
use Rattle.link.specs.declared.reception.Answer.TheVariants.{Withheld}
use Rattle.figures.proofs.Answering.{handed_out, one_more, withheld}
use Rattle.figures.proofs.KnownFigures.{figure}
use Rattle.figures.proofs.receiving.seventeen_sealed.Goals as goal
use Rattle.figures.proofs.receiving.seventeen_sealed.Goals.{in-Reading, in_default}

pub returns : goal.returns
returns c =
    let first = c.word-sixteenth.ensures in
    let second = c.word-seventeenth.ensures in
    let third = c.word-eighteenth.ensures in
    let fifteen = c.in_ok-receiver.ensures in
    let sixteen = one_more 15 fifteen first.reception in
    let seventeen = one_more 16 sixteen second.reception in
    let sixteenth : c.word-sixteenth.result ≡ Withheld 16 = withheld 15 0xFFFF first.released fifteen 16 (figure 13) in
    let seventeenth : c.word-seventeenth.result ≡ Withheld 17 = withheld 16 0xFFFF second.released sixteen 17 (figure 14) in
    let eighteenth = handed_out 17 0xFFFF third.released seventeen (figure 15) in
    let row_16 = simp sixteenth at c.eq.ensures in
    let row_17 = simp seventeenth at c.eq-2.ensures in
    let reading : c.match-matches.matches ≡ true =
    elim c.match-matches.branch [ in-Reading w ↦ w.matches-is | in_default w ↦ absurd (w.in_default.not-Reading _ eighteenth.1) ] in
    ap Ok (and_from _ _ (and_from _ _ row_16 row_17) reading)
