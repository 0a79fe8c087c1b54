use Rattle.std.proofs.Common.{◌++◌, ap, codes, subst}
use Rattle.std.proofs.lemmas.Result.{on_ok_weaker}
use Rattle.std.specs.Io.KnownBytes.{Appends}
use Rattle.fields.specs.Texts.{ended}
use Rattle.vectors.proofs.report.figures.Goals as goal

pub returns : goal.returns
returns g c =
    on_ok_weaker c.writeln.result
    (subst (Appends (g.W.Write.contents c.args.writer.now) (g.W.Write.contents c.writeln.new.self)) (ap (λ t. codes "known figures of the cipher: " ++ (t ++ ended (codes " as published"))) c.extent-extent.ensures))
    c.writeln.ensures.bytes
