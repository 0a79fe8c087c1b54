use Rattle.std.proofs.Common.{rules}
use Rattle.sss.specs.Cipher.{key_entry, key_table}
use Rattle.sss.proofs.Arrays.{made_by}
use Rattle.functions.proofs.key.Key.entries.Goals as goal

pub returns : goal.returns
unfolding key_table
returns c = made_by c.from_fn.ensures.items (key_entry c.args.self.now.bytes.items) (λ x r q called. search rules)
