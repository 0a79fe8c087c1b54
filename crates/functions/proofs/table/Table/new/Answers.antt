use Rattle.std.proofs.Common.{arith}
use Rattle.functions.proofs.Keys.{one_word_lawful}
use Rattle.functions.proofs.table.Table.new.Goals as goal

pub invariant_of-result : goal.invariant_of-result
invariant_of-result g c = record { lawful = one_word_lawful _ (omega arith) }
