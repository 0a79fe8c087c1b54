use Rattle.std.proofs.Common.{◌≡◌}
use Rattle.figures.specs.Figures.{after_sealed}
use Rattle.figures.proofs.receiving.after_sealed.Given as goal

abbrev pub invariant-loop : goal.invariant-loop
invariant-loop l = l.receiver.footing.reception ≡ after_sealed l.counter
