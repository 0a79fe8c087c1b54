use Rattle.std.proofs.Common.{◌++◌, subst}
use Rattle.std.specs.Fmt.{decimal}
use Rattle.std.proofs.lemmas.Result.{on_ok_weaker}
use Rattle.std.specs.Io.KnownBytes.{Appends}
use Rattle.fields.proofs.Appended.{appends_then}
use Rattle.vectors.specs.Reports.{coefficients_text, counts_text, differ_text, functions_text, worked_text}
use Rattle.vectors.proofs.Texts.{counts_is, differ_is, worked_is}
use Rattle.vectors.proofs.report.summary.Goals as goal

pub returns : goal.returns
returns g c =
    let t = c.args.tally in
    let contents = g.W.Write.contents in
    let a = contents c.args.writer.now in
    let b = contents c.writeln.new.self in
    let d = contents c.writeln-2.new.self in
    let e = contents c.writeln-3.new.self in
    let f = contents c.writeln-4.new.self in
    let h = contents c.writeln-5.new.self in
    let one = subst (Appends a b) (worked_is (decimal t.compared) (decimal t.worked)) c.in_ok-writeln.ensures.bytes in
    let two = appends_then a b d (worked_text t) functions_text one c.in_ok-writeln-2.ensures.bytes in
    let three = appends_then a d e (worked_text t ++ functions_text) coefficients_text two c.in_ok-writeln-3.ensures.bytes in
    let last = subst (Appends e f) (differ_is (decimal t.differ)) c.in_ok-writeln-4.ensures.bytes in
    let four = appends_then a e f (worked_text t ++ functions_text ++ coefficients_text) (differ_text t) three last in
    on_ok_weaker c.writeln-5.result
    (λ more. appends_then a f h (worked_text t ++ functions_text ++ coefficients_text ++ differ_text t) (counts_text t) four (subst (Appends f h) (counts_is (decimal t.messages) (decimal t.words) (decimal t.differ)) more))
    c.writeln-5.ensures.bytes
