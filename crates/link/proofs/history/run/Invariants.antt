use Rattle.std.proofs.Common.{◌≡◌, vec_items}
use Rattle.std.specs.Vec.Iter.{into_iter_items}
use Rattle.std.specs.List.{AllByRecursion as Every}
use Rattle.sss.specs.Cipher.{keyed}
use Rattle.sss.specs.Asked.{Keeps}
use Rattle.link.specs.Ends.{CallFits, sealer_engine, open_count}
use Rattle.link.specs.Histories.{after}
use Rattle.link.specs.Log.{stretches}
use Rattle.link.specs.Law.{BrokenExactly}
use Rattle.link.proofs.Noted.{Made}
use Rattle.link.proofs.Progress.{Enough, ToCome}
use Rattle.link.proofs.Withheld.{Standing}
use Rattle.link.proofs.history.run.Given as goal

abbrev pub invariant-loop-call : goal.invariant-loop-call
invariant-loop-call g l =
    let S = g.SK.KeyedFunction in
    let R = g.RK.KeyedFunction in
    let s = (sealer_engine l.initial.history.sealer).function in
    let r = l.initial.history.receiver.engine.function in
    let a = (sealer_engine l.initial.history.sealer).coefficient in
    let b = l.initial.history.receiver.engine.coefficient in
    let all = into_iter_items l.initial.call-iterator in
    let rest = into_iter_items l.call-iterator in
    (S.sound s → R.sound r →
    ToCome (keyed (S.table s)) (g.SC.Coefficient.image a) (keyed (R.table r)) (g.RC.Coefficient.image b) (after l.initial.history) all (after l.history) rest) ×
    (Every CallFits rest → Every CallFits all) ×
    Keeps S s (sealer_engine l.history.sealer).function ×
    Keeps R r l.history.receiver.engine.function ×
    ((sealer_engine l.history.sealer).coefficient ≡ a) ×
    (l.history.receiver.engine.coefficient ≡ b) ×
    Enough l.initial.history.log all l.history.log rest ×
    Standing (stretches (vec_items l.history.log)) l.history.receiver.footing.reception ×
    Made all rest (vec_items l.history.log) (open_count l.history.sealer) ×
    BrokenExactly (vec_items l.history.log)
