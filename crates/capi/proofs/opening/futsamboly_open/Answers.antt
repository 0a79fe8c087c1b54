use Rattle.std.proofs.Common.{ap, ◌∙◌}
use Rattle.sss.specs.Cipher.{keyed}
use Rattle.capi.specs.Calls.{number_answered}
use Rattle.capi.proofs.OpenAfterSeal.{opens_again_too}
use Rattle.capi.proofs.opening.futsamboly_open.Goals as goal
use Rattle.capi.proofs.opening.futsamboly_open.Goals.{in-Ok, in-Err}

pub returns-clause-back : goal.returns-clause-back
returns-clause-back c = λ fits. elim c.match-of.branch [
  | in-Ok w ↦
      let a = c.args in
      let loaded = w.in-Ok.ensures in
      opens_again_too a.nonce.now a.masks.now a.input.now a.tag.now a.output.now (w.open-answer.ensures.back.promise loaded.2) (ap keyed loaded.1)
      (c.number.ensures ∙ ap number_answered w.answer-is) w.output-is
  | in-Err w ↦ absurd (w.in-Err.ensures.0 fits)
]
