use Rattle.std.proofs.Common.{List, ℕ, [], sym, subst, arith}
use Rattle.sss.specs.Cipher.{Lawful, key_table}
use Rattle.functions.proofs.Keys.{key_table_lawful}
use Rattle.functions.proofs.key.Key.none.Goals as goal

pub invariant_of-result : goal.invariant_of-result
invariant_of-result c =
    record { lawful = subst (λ (k : List ℕ). Lawful (key_table k)) (sym c.new.ensures) (key_table_lawful [] (λ i. omega arith)) }
