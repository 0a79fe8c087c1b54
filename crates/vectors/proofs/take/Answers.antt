use Rattle.std.proofs.Common.{inl}
use Rattle.std.proofs.lemmas.Result.{on_ok_weaker}
use Rattle.vectors.proofs.take.Goals as goal

pub returns-in-Ok : goal.returns-in-Ok
returns-in-Ok g c = record {
  after = inl (c.in-Ok.vector, c.in-Ok.ensures.value, c.compared.ensures.after);
  printed = on_ok_weaker c.compared.result (λ p. (p.0, inl (c.in-Ok.vector, c.in-Ok.ensures.value, p.1), p.2)) c.compared.ensures.printed;
}
