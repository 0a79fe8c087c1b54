use Rattle.std.proofs.Common.{sym, subst, Decides}
use Rattle.vectors.specs.declared.compare.Comparison.{Comparison}
use Rattle.vectors.specs.Ways.{Holds}
use Rattle.vectors.proofs.SameWords.{words_decided}
use Rattle.vectors.proofs.compare.Outcome.holds.Goals as goal

pub returns-in-Wire : goal.returns-in-Wire
returns-in-Wire c =
    record { value = subst (λ (k : Comparison). Decides c.eq.result (Holds c.args.self.now c.args.vector.now k)) (sym c.in-Wire.is) (words_decided _ _ c.eq.result c.eq.ensures) }

pub returns-in-Plaintext : goal.returns-in-Plaintext
returns-in-Plaintext c =
    record { value = subst (λ (k : Comparison). Decides c.eq-in-Plaintext.result (Holds c.args.self.now c.args.vector.now k)) (sym c.in-Plaintext.is) (words_decided _ _ c.eq-in-Plaintext.result c.eq-in-Plaintext.ensures) }
