use Rattle.std.proofs.Common.{rules, ◌≡◌, ◌==◌, ℕ, List, length, inl, inr, refl, subst, ap, nat_lt, vec_items, ◌∙◌}
use Rattle.std.specs.Fmt.{decimal}
use Rattle.std.proofs.lemmas.Result.{on_ok_weaker}
use Rattle.std.specs.Io.KnownBytes.{Appends}
use Rattle.fields.specs.Texts.{numbered}
use Rattle.vectors.specs.declared.compare.Difference.{Difference}
use Rattle.vectors.specs.Reports.{comparison_text}
use Rattle.vectors.specs.Tallies.{after_compared, after_refused}
use Rattle.vectors.specs.Texts.{stopped_text}
use Rattle.vectors.proofs.Texts.{numbered_is}
use Rattle.vectors.proofs.compared.Goals as goal

pub returns-in-Ok-clause-printed : goal.returns-in-Ok-clause-printed
returns-in-Ok-clause-printed g c =
    let found = vec_items c.in-Ok.found in
    let text : List Difference → List ℕ = comparison_text c.args.number c.args.vector.now (nat_lt c.args.tally.now.messages 5) in
    let none : c.is_empty.result ≡ (length found == 0) = search rules in
    let counted = c.compared.ensures.after ∙ (λ i. after_compared (c.len-words.ensures i) (none i) c.args.tally.now) in
    on_ok_weaker c.comparison.result
    (λ appends. (text found, inl (found, c.in-Ok.ensures.fits, c.in-Ok.ensures.value, c.in-Ok.ensures.none, counted, refl), subst (λ l. Appends (g.W.Write.contents c.args.writer.now) (g.W.Write.contents c.comparison.new.writer) (text l)) c.deref.ensures.value appends))
    c.comparison.ensures

pub returns-in-Err-clause-printed : goal.returns-in-Err-clause-printed
returns-in-Err-clause-printed g c =
    let text = numbered c.args.number (stopped_text c.in-Err.why) in
    let counted = c.refused.ensures.after ∙ ap (λ n. after_refused n c.args.tally.now) c.len-words.ensures in
    on_ok_weaker c.writeln.result
    (λ appends. (text, inr (c.in-Err.why, c.in-Err.ensures.fits, counted, refl), subst (Appends (g.W.Write.contents c.args.writer.now) (g.W.Write.contents c.writeln.new.self)) (numbered_is (decimal c.args.number) (stopped_text c.in-Err.why)) appends))
    c.writeln.ensures.bytes
