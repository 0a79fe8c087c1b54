use Rattle.std.proofs.Common.{◌≡◌, List, ℕ, sym, subst, rules}
use Rattle.sss.specs.Cipher.{Lawful, key_table}
use Rattle.functions.proofs.Keys.{key_table_lawful}
use Rattle.functions.proofs.key.KeyTryFromRefSliceU8.try_from.Goals as goal

pub invariant_of-result : goal.invariant_of-result
invariant_of-result c =
    let taken : c.in_ok-bytes.bytes.items ≡ c.args.bytes.now = search rules in
    let lawful = key_table_lawful c.args.bytes.now (λ i. (c.type_inv.bytes i).fits) in
    record { lawful = subst (λ (k : List ℕ). Lawful (key_table k)) (sym taken) lawful }
