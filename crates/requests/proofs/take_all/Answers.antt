use Rattle.std.proofs.Common.{ℕ, List, vec_items, ap, subst, ◌∙◌}
use Rattle.std.proofs.lemmas.Result.{IfOk-at_ok}
use Rattle.std.specs.Io.Buffered.{reader_remaining}
use Rattle.std.specs.Io.Iter.{split_byte, split_known_bytes}
use Rattle.fields.proofs.Ahead.{all_ahead}
use Rattle.requests.specs.Runs.{Takes}
use Rattle.requests.proofs.Printed.{at_start, one_line}
use Rattle.requests.proofs.take_all.Goals as goal

pub loop-line-init : goal.loop-line-init
loop-line-init g c =
    let same = c.into_iter-line-iterator.ensures.into_iter_gives in
    let ahead = all_ahead g.R.Read.remaining c.in_ok-new.field-0 c.args.reader c.in_ok-new.ensures.inner c.in_ok-new.ensures.empty c.in_ok-new.ensures.capacity in (
      ap split_byte same ∙ c.split-line-items.ensures.byte,
      at_start (g.R.Read.remaining c.args.reader) (g.W.Write.contents c.args.writer.now) _ _ (ap (split_known_bytes (reader_remaining g.R.Read.remaining)) same ∙ c.split-line-items.ensures.bytes ∙ ahead) c.new-tally.ensures,
    )

pub loop-line-preserved : goal.loop-line-preserved
loop-line-preserved g c =
    let steps = c.in-Some.ensures.steps in
    let read = IfOk-at_ok _ c.in_ok-line.was steps.2 in
    let contents = g.W.Write.contents in
    let takes : Takes (vec_items c.in_ok-line.field-0) c.loop-line.tally c.take.new.tally (contents c.loop-line.writer) (contents c.take.new.writer) =
    subst (λ (l : List ℕ). Takes l c.loop-line.tally c.take.new.tally (contents c.loop-line.writer) (contents c.take.new.writer)) c.as_slice.ensures.value c.in_ok-take.ensures in (
      steps.1 ∙ c.loop-line.invariant.0,
      one_line _ _ _ _ _ _ _ _ (g.R.Read.remaining c.args.reader) _ c.loop-line.invariant.0 c.loop-line.invariant.1 read takes,
    )
