use Rattle.std.proofs.Common.{◌≡◌, true, [], ◌++◌, ap, sym, ◌∙◌, subst}
use Rattle.std.proofs.lemmas.Bool.{cond-true}
use Rattle.std.proofs.lemmas.Result.{on_ok_weaker}
use Rattle.std.specs.Io.KnownBytes.{Appends}
use Rattle.fields.proofs.Appended.{appends_then}
use Rattle.vectors.specs.Reports.{differences_text, heading_text}
use Rattle.vectors.proofs.report.comparison.Goals as goal

pub returns : goal.returns
returns g c =
    let n = c.args.number in
    let v = c.args.vector.now in
    let found = c.args.found.now in
    let shown : c.args.shown ≡ true = c.if-not-shown.false in
    let contents = g.W.Write.contents in
    let whole = ap (λ b. heading_text n v b ++ differences_text n found) c.is_empty.ensures ∙ ap (λ l. l ++ differences_text n found) (sym (cond-true c.args.shown _ [] shown)) in
    on_ok_weaker c.differences-2.result
    (λ more. subst (Appends (contents c.args.writer.now) (contents c.differences-2.new.writer)) whole (appends_then (contents c.args.writer.now) (contents c.heading.new.writer) (contents c.differences-2.new.writer) _ _ c.in_ok-heading.ensures more))
    c.differences-2.ensures
