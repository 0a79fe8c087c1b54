use Rattle.std.proofs.Common.{ap, ◌∙◌}
use Rattle.functions.specs.Functions.{from_key_table}
use Rattle.examples.proofs.sound.lazy_twice.Goals as goal

pub returns : goal.returns
returns c = record {
  sound = c.new.ensures.sound c.lazy_from_key.ensures.sound;
  table = ap (λ l. from_key_table l.below) c.new.ensures.below ∙ c.lazy_from_key.ensures.table;
}
