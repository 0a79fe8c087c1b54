use Rattle.std.proofs.Common.{refl}
use Rattle.tape.proofs.Listed.{gives_lines}
use Rattle.tape.proofs.replay.Replay.new.Goals as goal

pub returns-clause-lines : goal.returns-clause-lines
returns-clause-lines g c = gives_lines g.K.KeyedFunction g.C.Coefficient _ refl
