use Rattle.std.proofs.Common.{◌∙◌}
use Rattle.tape.specs.declared.item.Item.TheVariants.{Word, Tag}
use Rattle.tape.proofs.Spelled.{spelled}
use Rattle.tape.proofs.item.Item.bytes.Goals as goal

pub returns-in-Word-clause-spelled : goal.returns-in-Word-clause-spelled
returns-in-Word-clause-spelled c = rw c.in-Word.is (c.bytes-in-Word.ensures ∙ spelled (Word c.in-Word.word))

pub returns-in-Tag-clause-spelled : goal.returns-in-Tag-clause-spelled
returns-in-Tag-clause-spelled c = rw c.in-Tag.is (c.bytes-in-Tag.ensures ∙ spelled (Tag c.in-Tag.piece))
