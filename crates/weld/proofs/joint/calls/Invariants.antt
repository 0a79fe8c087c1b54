use Rattle.std.proofs.Common.{◌≡◌, List, map, fold, Bor}
use Rattle.std.specs.Slice.Iter.{iter_rest}
use Rattle.link.specs.declared.call.Call.{Call}
use Rattle.link.specs.declared.call.Entry.{Entry}
use Rattle.weld.specs.Joint.{Joined, fates_after}
use Rattle.weld.proofs.joint.calls.Given as goal

-- Calls on the sealer with their entries.
abbrev pub made : List (Call × Bor Entry) → List (Call × Entry)
made calls = map (λ call. (call.0, call.1.now)) calls

-- The calls so far, and the fates that are left.
abbrev pub invariant-loop-call : goal.invariant-loop-call
invariant-loop-call l = record {
  calls : Joined (iter_rest l.initial.fates) (made l.yielded) l.calls.items;
  fates : iter_rest l.fates ≡ fold (λ fates call. fates_after call.1 fates) (iter_rest l.initial.fates) (made l.yielded);
}
