use Rattle.std.proofs.Common.{arith, subst}
use Rattle.std.specs.Fmt.{decimal}
use Rattle.std.specs.Io.KnownBytes.{Appends}
use Rattle.std.proofs.lemmas.List.{take_all}
use Rattle.fields.specs.Texts.{numbered}
use Rattle.fields.proofs.Appended.{nothing_more, appends_then, one_more}
use Rattle.vectors.specs.Reports.{differences_text}
use Rattle.vectors.specs.Texts.{difference_text}
use Rattle.vectors.specs.declared.compare.Difference.{Difference}
use Rattle.vectors.specs.declared.compare.Comparison.TheVariants.{Wire}
use Rattle.vectors.specs.declared.compare.FunctionName.TheVariants.{FromKey}
use Rattle.vectors.specs.declared.compare.CoefficientName.TheVariants.{PrintedTable}
use Rattle.vectors.proofs.Texts.{numbered_is}
use Rattle.vectors.proofs.report.differences.Goals as goal

pub loop-difference-init : goal.loop-difference-init
loop-difference-init g c = nothing_more (g.W.Write.contents c.args.writer.now)

pub loop-difference-preserved : goal.loop-difference-preserved
loop-difference-preserved g c =
    let contents = g.W.Write.contents in
    let n = c.args.number in
    let found = c.args.found.now in
    let i = c.loop-difference.difference-index in
    let line : Difference → _ = λ d. numbered n (difference_text d) in
    subst (Appends (contents c.args.writer.now) (contents c.writeln.new.self)) (one_more line found i (record { way = record { function = FromKey; coefficient = PrintedTable }; comparison = Wire }) (omega arith))
    (appends_then _ _ _ _ _ c.loop-difference.invariant (subst (Appends (contents c.loop-difference.writer) (contents c.writeln.new.self)) (numbered_is (decimal n) _) c.in_ok-writeln.ensures.bytes))

pub returns : goal.returns
returns g c =
    subst (λ ds. Appends (g.W.Write.contents c.args.writer.now) (g.W.Write.contents c.loop-difference.writer) (differences_text c.args.number ds)) (take_all c.loop-difference.difference-index c.args.found.now (omega arith)) c.loop-difference.invariant
