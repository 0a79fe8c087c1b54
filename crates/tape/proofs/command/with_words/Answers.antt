use Rattle.sss.specs.Cipher.{Word}
use Rattle.link.proofs.Every.{every_place}
use Rattle.tape.proofs.command.with_words.Goals as goal

pub returns-clause-words : goal.returns-clause-words
returns-clause-words c = every_place Word c.args.operands.now 0 (λ i lt. (c.type_inv.operands i).fits)
