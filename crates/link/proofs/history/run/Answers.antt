use Rattle.std.proofs.Common.{◌≡◌, List, [], length, vec_items, vec_len, sym, refl, ap, ◌∙◌, subst, arith, rules}
use Rattle.std.specs.Vec.Iter.{into_iter_items}
use Rattle.std.specs.List.{AllByRecursion as Every}
use Rattle.sss.specs.Cipher.{keyed}
use Rattle.sss.specs.Asked.{Keeps}
use Rattle.sss.specs.declared.keyed.KeyedFunction.{Ghosts as Keyed}
use Rattle.sss.proofs.Asked.{keeps_on}
use Rattle.sss.proofs.OneToOne.{keyed_one_to_one}
use Rattle.link.specs.Ends.{Ends, CallFits, history, new_ends, one_call, ready, receiving, sealer_engine, open_count}
use Rattle.link.specs.Histories.{after}
use Rattle.link.specs.Log.{stretches}
use Rattle.link.specs.declared.call.Call.{Call}
use Rattle.link.specs.declared.call.Entry.{Entry}
use Rattle.link.proofs.Progress.{ToCome, enough_more, refused_by, to_come_by, too_small, to_come_more, to_come_none, fits_more, fits_none, history_law}
use Rattle.link.specs.Noting.{NotesAll}
use Rattle.link.proofs.Noted.{all_made, entry_leads, none_made, one_made}
use Rattle.link.proofs.Withheld.{all_withheld, entry_broken, entry_stands, new_broken, new_stands, stands_after}
use Rattle.link.proofs.history.run.Goals as goal

-- A function that an end was made with.
from_start : {K : Type 0} (F : Keyed K) {k k' : K} (k'' : K) → k ≡ k' → Keeps F k k'' → Keeps F k' k''
from_start {K} F k'' e kept = subst (λ (x : K). Keeps F x k'') e kept

pub loop-call-init : goal.loop-call-init
loop-call-init g c = (
  λ s r. refl,
  λ h. h,
  record { meaning = refl; sound = λ s. s },
  record { meaning = refl; sound = λ s. s },
  refl,
  refl,
  λ h. h,
  rw (c.clear.ensures.items, c.new-2.ensures.reception) new_stands,
  rw c.clear.ensures.items (none_made (into_iter_items c.into_iter-call-iterator.result)),
  rw c.clear.ensures.items new_broken,
)

pub loop-call-preserved : goal.loop-call-preserved
loop-call-preserved g c =
    let S = g.SK.KeyedFunction in
    let R = g.RK.KeyedFunction in
    let s = c.new.result.engine.function in
    let r = c.new-2.result.engine.function in
    let f = keyed (S.table s) in
    let f' = keyed (R.table r) in
    let A = g.SC.Coefficient.image c.new.result.engine.coefficient in
    let A' = g.RC.Coefficient.image c.new-2.result.engine.coefficient in
    let inv = c.loop-call.invariant in
    let said = c.in_ok-history.ensures in
    let first = c.in-Some.ensures.steps.0 in
    let next = c.in_ok-history.history in
    let x : Call = c.in-Some.call in
    let left : List Call = into_iter_items c.loop-call.call-iterator in
    let rest : List Call = into_iter_items c.next.new.self in
    let all : List Call = into_iter_items c.into_iter-call-iterator.result in
    let start : Ends × List Entry =
    (record { sealer = ready (c.new.result.engine.registers); receiver = receiving c.new-2.result }, vec_items c.clear.new.self) in (
      λ t u.
          let step : after next ≡ one_call f A f' A' (after c.loop-call.history) x =
          let took = said.value (inv.2.sound t) (inv.3.sound u) in
          let table = inv.2.meaning in
          let table' = inv.3.meaning in
          let product = inv.4 in
          let product' = inv.5 in
          cc in
          to_come_more f A f' A' start (after c.loop-call.history) (after next) all left rest x (inv.0 t u) first step,
      λ h. inv.1 (fits_more left rest x first said.fits h),
      keeps_on S inv.2 said.meaning.sealer,
      keeps_on R inv.3 said.meaning.receiver,
      said.meaning.sealer_same ∙ inv.4,
      said.meaning.receiver_same ∙ inv.5,
      enough_more c.clear.new.self c.loop-call.history.log next.log all left rest x inv.6 first said.room.length said.room.room,
      rw said.entry.1
          (entry_stands (vec_items c.loop-call.history.log) c.loop-call.history.receiver.footing.reception next.receiver.footing.reception
          said.entry.0 (entry_leads c.loop-call.history next x said.entry.0 said.entry.2) inv.7),
      one_made c.loop-call.history next all left rest (vec_items c.loop-call.history.log) (vec_items next.log) x said.entry.0 inv.8 first
          said.entry.1 said.entry.2,
      rw said.entry.1
          (entry_broken (vec_items c.loop-call.history.log) c.loop-call.history.receiver.footing.reception next.receiver.footing.reception
          said.entry.0 (entry_leads c.loop-call.history next x said.entry.0 said.entry.2) inv.7 inv.9),
    )

pub returns-in_err-history : goal.returns-in_err-history
returns-in_err-history g c =
    let all : List Call = into_iter_items c.into_iter-call-iterator.result in
    let left : List Call = into_iter_items c.loop-call.call-iterator in
    let rest : List Call = into_iter_items c.next.new.self in
    let count : length all ≡ vec_len c.args.calls = omega (arith, ap length c.into_iter-call-iterator.ensures.into_iter_gives.0, c.args.calls.ok) in
    record {
      value = search rules;
      law = search rules;
      noted = search rules;
      withheld = search rules;
      broken = search rules;
      standing = search rules;
      meaning = search rules;
      room =
          refused_by c.from_residual.result
          (too_small c.clear.new.self c.loop-call.history.log c.args.log all left rest (vec_len c.args.calls) c.in-Some.call
          c.loop-call.invariant.6 c.in-Some.ensures.steps.0 c.in_err-history.ensures.room c.clear.ensures.len
          c.clear.ensures.capacity count);
    }

pub returns : goal.returns
returns g c =
    let S = g.SK.KeyedFunction in
    let R = g.RK.KeyedFunction in
    let f = keyed (S.table c.args.sealer.0) in
    let f' = keyed (R.table c.args.receiver.0) in
    let A = g.SC.Coefficient.image c.args.sealer.1 in
    let A' = g.RC.Coefficient.image c.args.receiver.1 in
    let inv = c.loop-call.invariant in
    let rest : List Call = into_iter_items c.loop-call.call-iterator in
    let none : length rest ≡ 0 = omega (arith, c.in-None.ensures.steps.0, c.loop-call.call-iterator.rest.ok) in
    let all : List Call = into_iter_items c.into_iter-call-iterator.result in
    let calls = vec_items c.args.calls in
    let sealer = c.new.ensures in
    let receiver = c.new-2.ensures in
    let start : Ends × List Entry =
    (record { sealer = ready (c.new.result.engine.registers); receiver = receiving c.new-2.result }, vec_items c.clear.new.self) in
    let new : start ≡ (new_ends, []) =
    λ i. (
      record { sealer = ready (sealer.registers i); receiver = record { reception = receiver.reception i; registers = receiver.registers i } },
      c.clear.ensures.items i,
    ) in
    let withheld = all_withheld (stretches (vec_items c.loop-call.history.log)) c.loop-call.history.receiver.footing.reception inv.7 in
    let value : S.sound c.args.sealer.0 → R.sound c.args.receiver.0 → after c.loop-call.history ≡ history f A f' A' calls = λ s r.
    let so : ToCome f A f' A' start all (after c.loop-call.history) rest =
    to_come_by (keyed (S.table c.new.result.engine.function)) (g.SC.Coefficient.image c.new.result.engine.coefficient)
    (keyed (R.table c.new-2.result.engine.function)) (g.RC.Coefficient.image c.new-2.result.engine.coefficient) f A f' A' start (after c.loop-call.history) all rest (ap (λ x. keyed (S.table x)) sealer.function)
    (ap g.SC.Coefficient.image sealer.coefficient) (ap (λ x. keyed (R.table x)) receiver.function)
    (ap g.RC.Coefficient.image receiver.coefficient)
    (inv.0 (subst S.sound (sym sealer.function) s) (subst R.sound (sym receiver.function) r)) in
    to_come_none f A f' A' start (after c.loop-call.history) all rest calls so none new c.into_iter-call-iterator.ensures.into_iter_gives.0 in
    record {
      value = value;
      law = λ s r table image.
          history_law f A f' A' (keyed_one_to_one (S.table c.args.sealer.0) (g.met.SK.KeyedFunction.lawful c.args.sealer.0 s))
          (g.met.SC.Coefficient.lawful c.args.sealer.1) (ap keyed table) image calls
          (subst (Every CallFits) c.into_iter-call-iterator.ensures.into_iter_gives.0 (inv.1 (fits_none rest none)))
          (after c.loop-call.history) (value s r) withheld;
      noted =
          subst (λ (z : List Call). NotesAll [] z (vec_items c.loop-call.history.log)) c.into_iter-call-iterator.ensures.into_iter_gives.0
          (all_made all rest (vec_items c.loop-call.history.log) (open_count c.loop-call.history.sealer) inv.8 none);
      withheld = withheld;
      broken = inv.9;
      standing =
          record {
            sealer = sym inv.8.open_is;
            receiver = stands_after (stretches (vec_items c.loop-call.history.log)) c.loop-call.history.receiver.footing.reception inv.7;
          };
      meaning =
          record {
            sealer = from_start S (sealer_engine c.loop-call.history.sealer).function sealer.function inv.2;
            sealer_same = inv.4 ∙ sealer.coefficient;
            receiver = from_start R c.loop-call.history.receiver.engine.function receiver.function inv.3;
            receiver_same = inv.5 ∙ receiver.coefficient;
          };
      room = tt;
    }
