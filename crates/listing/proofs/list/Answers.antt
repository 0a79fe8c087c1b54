use Rattle.std.proofs.lemmas.Result.{on_ok_weaker}
use Rattle.listing.proofs.Enough.{printed}
use Rattle.listing.proofs.list.Goals as goal

pub returns : goal.returns
returns g c =
    on_ok_weaker c.write_all.result
    (λ appends.
    printed (g.R.Read.remaining c.args.reader) (g.W.Write.contents c.args.writer.now) (g.W.Write.contents c.write_all.new.self) _ _
    (rw (c.take.ensures.limit, c.take.ensures.inner, c.new-input.ensures.items) at c.in_ok-read_to_end.ensures.bytes)
    (rw c.deref.ensures.value at c.in_ok-text.ensures)
    (rw c.as_bytes.ensures.value at appends))
    c.write_all.ensures.bytes
