use Rattle.sss.proofs.Asked.{asked_then}
use Rattle.vectors.specs.declared.compare.CoefficientName.TheVariants.{PrintedTable, FieldRule}
use Rattle.vectors.specs.declared.compare.Way.{Way}
use Rattle.vectors.specs.Ways.{One}
use Rattle.vectors.proofs.Added.{finds_then, noted_made}
use Rattle.vectors.proofs.compare.Comparer.two_ways.Goals as goal

pub returns-clause-found : goal.returns-clause-found
returns-clause-found g c =
    let before = c.args.self.now in
    let between = c.note.new.self in
    let after = c.note-2.new.self in
    let printed : Way = record { function = c.args.function; coefficient = PrintedTable } in
    let ruled : Way = record { function = c.args.function; coefficient = FieldRule } in
    asked_then c.in_ok-printed.ensures.made c.in_ok-ruled.ensures.made
    (λ f made more. finds_then (λ v. One f v printed) (λ v. One f v ruled) before between after
    (noted_made f c.in_ok-printed.printed printed before between made c.in_ok-note.ensures)
    (noted_made f c.in_ok-ruled.ruled ruled between after more c.in_ok-note-2.ensures))
