use Rattle.std.proofs.Common.{subst}
use Rattle.requests.specs.Lines.{Parses}
use Rattle.requests.specs.declared.request.Request.TheVariants.{Seal, Open}
use Rattle.requests.proofs.answer.Goals as goal

pub returns-in_ok-seal-in-Seal : goal.returns-in_ok-seal-in-Seal
returns-in_ok-seal-in-Seal c =
    (Seal c.in-Seal.request, subst (Parses c.args.line.now) c.in-Seal.is c.in_ok-request.ensures, c.in_ok-seal-in-Seal.ensures)

pub returns-in_ok-open-in-Open : goal.returns-in_ok-open-in-Open
returns-in_ok-open-in-Open c =
    (Open c.in-Open.request, subst (Parses c.args.line.now) c.in-Open.is c.in_ok-request.ensures, c.in_ok-open-in-Open.ensures)
