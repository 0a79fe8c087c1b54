use Rattle.std.proofs.Common.{◌≡◌, ◌⊎◌, inl, inr, true, false, [], vec_items, refl, sym, ap, ◌∙◌}
use Rattle.std.specs.Prelude.{◌==◌}
use Rattle.std.proofs.lemmas.Result.{IfOk-at_ok, on_ok_weaker}
use Rattle.std.specs.Io.Buffered.{reader_remaining}
use Rattle.std.specs.Io.Iter.{split_byte, split_known_bytes}
use Rattle.fields.proofs.Ahead.{all_ahead}
use Rattle.vectors.proofs.Printed.{Rests, Tells, at_end, at_start, one_line, tells_as}
use Rattle.vectors.proofs.take_all.Goals.{then-held+in_ok-take, else-held, then-not-held+in_ok-take-2, else-not-held}
use Rattle.vectors.proofs.take_all.Goals as goal

pub loop-read-init : goal.loop-read-init
loop-read-init g c =
    let same = c.into_iter-read-iterator.ensures.into_iter_gives in
    let ahead = all_ahead g.R.Read.remaining c.in_ok-new.field-0 c.args.reader c.in_ok-new.ensures.inner c.in_ok-new.ensures.empty c.in_ok-new.ensures.capacity in (
      ap split_byte same ∙ c.split-read-items.ensures.byte,
      at_start (g.R.Read.remaining c.args.reader) (g.W.Write.contents c.figures.new.writer) _ _ (ap (split_known_bytes (reader_remaining g.R.Read.remaining)) same ∙ c.split-read-items.ensures.bytes ∙ ahead) c.new-tally.ensures.value,
    )

pub loop-read-preserved : goal.loop-read-preserved
loop-read-preserved g c =
    let contents = g.W.Write.contents in
    let steps = c.in-Some.ensures.steps in
    let read = IfOk-at_ok _ c.in_ok-line.was steps.2 in
    let line = c.in_ok-line.line in
    let at = contents c.loop-read.writer in
    let first : ((c.loop-read.held ≡ true) × Tells [] c.loop-read.number c.loop-read.tally at c.if-held.number c.if-held.tally (contents c.if-held.writer)) ⊎ ((c.loop-read.held ≡ false) × Rests c.loop-read.number c.loop-read.tally at c.if-held.number c.if-held.tally (contents c.if-held.writer)) =
    elim c.if-held.branch [
      | then-held+in_ok-take w ↦ inl (w.if-held.true, tells_as [] _ c.loop-read.number _ _ c.loop-read.tally _ _ at _ _ refl w.number-is w.tally-is (ap contents w.writer-is) (w.saturating_add-number.ensures, w.in_ok-take.ensures.printed))
      | else-held w ↦ inr (w.if-held.false, (sym w.number-is, sym w.tally-is, ap contents (sym w.writer-is)))
    ] in
    let then = contents c.if-held.writer in
    let held = c.is_empty-held.result in
    let second : ((held ≡ false) × Tells (vec_items line) c.if-held.number c.if-held.tally then c.if-not-held.number c.if-not-held.tally (contents c.if-not-held.writer)) ⊎ ((held ≡ true) × Rests c.if-held.number c.if-held.tally then c.if-not-held.number c.if-not-held.tally (contents c.if-not-held.writer)) =
    elim c.if-not-held.branch [
      | then-not-held+in_ok-take-2 w ↦ inl (w.if-not-held.true, tells_as (vec_items line) _ c.if-held.number _ _ c.if-held.tally _ _ then _ _ w.as_slice.ensures.value w.number-is w.tally-is (ap contents w.writer-is) (w.saturating_add-number-then-not-held.ensures, w.in_ok-take-2.ensures.printed))
      | else-not-held w ↦ inr (w.if-not-held.false, (sym w.number-is, sym w.tally-is, ap contents (sym w.writer-is)))
    ] in (
      steps.1 ∙ c.loop-read.invariant.0,
      one_line (contents c.figures.new.writer) (g.R.Read.remaining c.args.reader) _ _ c.loop-read.held held _ _ _ _ _ _ at then _ (vec_items line) _ c.loop-read.invariant.0 c.loop-read.invariant.1 read first (c.is_empty-held.ensures ∙ ap (λ n. n == 0) line.ok.0) second,
    )

pub returns : goal.returns
returns g c =
    let contents = g.W.Write.contents in
    on_ok_weaker c.summary.result
    (at_end (g.R.Read.remaining c.args.reader) (contents c.args.writer.now) (contents c.figures.new.writer) (contents c.loop-read.writer) (contents c.summary.new.writer) _ c.self_test.result c.loop-read.held c.loop-read.number c.loop-read.tally c.self_test.ensures.value c.in_ok-figures.ensures c.loop-read.invariant.1 c.in-None.ensures.steps.2)
    c.summary.ensures
