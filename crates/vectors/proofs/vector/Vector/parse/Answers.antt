use Rattle.std.proofs.Common.{ℕ, List, refl, subst, inr, IsUtf8}
use Rattle.std.proofs.lemmas.Result.{MatchResult-weaker}
use Rattle.fields.specs.Cutting.{Cut}
use Rattle.vectors.specs.Fields.{texts_of}
use Rattle.vectors.proofs.vector.Vector.parse.Goals as goal

pub returns : goal.returns
returns c =
    let line = c.args.line.now in
    let texts = texts_of c.in_ok-cut.field-0 in
    let cut : Cut line texts = subst (λ (l : List ℕ). Cut l texts) c.in-Ok.ensures.cases.0 c.in_ok-cut.ensures.value in
    let text : IsUtf8 line = c.in-Ok.ensures.cases.1 in
    record { value = MatchResult-weaker c.read.result c.read.ensures.value (λ v h. (texts, refl, cut, h)) (λ e h. inr (text, inr (texts, refl, cut, h))) }
