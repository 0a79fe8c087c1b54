use Rattle.std.proofs.Common.{List, ◌∷◌, [], ◌++◌, vec_items, ap, ◌∙◌}
use Rattle.link.specs.Ends.{receiving, sealing, sealer_engine}
use Rattle.sss.specs.Asked.{function_of}
use Rattle.link.specs.declared.call.Entry.{Entry}
use Rattle.link.proofs.Calls.{receiver_noted, sealer_noted}
use Rattle.link.proofs.history.History.take.Goals as goal
use Rattle.link.proofs.history.History.take.Goals.{in-OnSealer, in-OnReceiver}

pub returns-clause-value : goal.returns-clause-value
returns-clause-value g c =
    let old = c.args.self in
    let s = sealer_engine old.sealer in
    let e = old.receiver.engine in
    let f = function_of g.SK.KeyedFunction s.function in
    let A = g.SC.Coefficient.image s.coefficient in
    let f' = function_of g.RK.KeyedFunction e.function in
    let A' = g.RC.Coefficient.image e.coefficient in
    let before : List Entry = vec_items old.log in
    let after : List Entry = vec_items c.push.new.self in
    let at = sealing old.sealer in
    let r = receiving old.receiver in
    elim c.match-call.branch [
      | in-OnSealer w ↦
          let noted = c.in_ok-push.ensures.items ∙ ap {B = List Entry} (λ p. before ++ p.1 ∷ []) w.sealer-is in
          rw (w.in-OnSealer.is, w.receiver-is, w.sealer-is) (λ t u.
          sealer_noted f A f' A' at (sealing w.take-sealer.result.0) r r before after w.in-OnSealer.call w.take-sealer.result.1
          (w.take-sealer.ensures.made.asked.promise t) noted)
      | in-OnReceiver w ↦
          let noted = c.in_ok-push.ensures.items ∙ ap {B = List Entry} (λ p. before ++ p.1 ∷ []) w.sealer-is in
          rw (w.in-OnReceiver.is, w.receiver-is, w.sealer-is) (λ t u.
          receiver_noted f A f' A' at at r (receiving w.take.new.self) before after w.in-OnReceiver.call w.take.result
          (w.take.ensures.made.asked.promise u) noted)
    ]
