use Rattle.capi.proofs.Receivings.{lost_withholds}
use Rattle.capi.proofs.receiver.futsamboly_receiver_word.Goals as goal

pub returns-clause-withheld : goal.returns-clause-withheld
returns-clause-withheld c = lost_withholds _ _ _ _ _ _ _ c.word.ensures
