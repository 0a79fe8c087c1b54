use Rattle.std.proofs.Common.{◌≡◌, ℕ, zero, suc, ◌<◌, List, [], ◌∷◌, ◌++◌, length, get_or, take, Option, Some, None, fold, refl, ap, ◌∙◌, sym, subst, append_assoc, append-nil, Bor, arith, inl, inr, Result, Ok, Err, IsErrAnd, MatchResult}
use Rattle.std.specs.Iterator.Adapters.{zip_first, zip_second}
use Rattle.std.specs.Slice.Iter.{iter_rest}
use Rattle.std.specs.List.{zip}
use Rattle.std.specs.Vec.Iter.{into_iter_items, into_iter_len, into_iter_steps}
use Rattle.std.specs.declared.iter.Zip.{Zip}
use Rattle.std.specs.declared.slice.Iter.{Iter}
use Rattle.std.specs.declared.vec.IntoIter.{IntoIter}
use Rattle.std.proofs.lemmas.Fn.{fronts}
use Rattle.std.proofs.lemmas.Iterator.{YieldsList, YieldsList-from_slice, YieldsList-from_zip, zips}
use Rattle.std.proofs.lemmas.Iterator.Adapters.{YieldsList-from_vec}
use Rattle.std.proofs.lemmas.Iterator.Consumers.{YieldsList-end, YieldsList-so_far, YieldsList-turn}
use Rattle.std.proofs.lemmas.Option.{none-some}
use Rattle.std.proofs.lemmas.List.{map-append}
use Rattle.std.specs.Option.{option_or}
use Rattle.std.proofs.lemmas.List.Sums.{fold_push}
use Rattle.link.specs.declared.call.Call.{Call}
use Rattle.link.specs.declared.call.Entry.{Entry}
use Rattle.link.specs.declared.call.Entry.TheVariants.{OfSealer, OfReceiver}
use Rattle.link.specs.declared.call.ReceiverCall.{ReceiverCall}
use Rattle.link.specs.declared.call.SealerEntry.TheVariants.{Begun, Sealed, Refused, Finished, Abandoned, OutOfTurn}
use Rattle.weld.specs.Failures.{Fails, joint_failure, joint_log_failure}
use Rattle.weld.specs.Joint.{ComesOf, Joined, at_receiver, fates_after, next_fate}
use Rattle.weld.specs.declared.failure.Failure.{Failure}
use Rattle.weld.specs.declared.scenario.Fate.{Fate}
use Rattle.weld.proofs.joint.calls.Invariants.{made}
use Rattle.weld.proofs.joint.calls.Goals as goal

-- The fates that are left behind calls with their entries.
left_after : List Fate → List (Call × Entry) → List Fate
left_after fates calls = fold (λ fates call. fates_after call.1 fates) fates calls

-- One call more, and what comes of it.
joined_more : (fates : List Fate) (before : List (Call × Entry)) (calls : List Call) (call : Call × Entry) (came : Option ReceiverCall) →
    Joined fates before calls → ComesOf call.1 (next_fate (left_after fates before)) came →
    Joined fates (before ++ call ∷ []) (calls ++ (call.0 ∷ at_receiver came))
unfolding left_after
joined_more fates [] calls call came joined is = (came, [], is, (λ i. joined i ++ (call.0 ∷ at_receiver came)) ∙ sym (append-nil (call.0 ∷ at_receiver came)), refl)
joined_more fates (first ∷ before) calls call came (own, rest, own_is, as_made, joined) is =
    let more = call.0 ∷ at_receiver came in (
      own,
      rest ++ more,
      own_is,
      (λ i. as_made i ++ more) ∙ append_assoc (first.0 ∷ at_receiver own) rest more,
      joined_more (fates_after first.1 fates) before rest call came joined is,
    )

-- The same fates and the same calls.
joined_at : {fates fates' : List Fate} {before before' : List (Call × Entry)} (calls : List Call) →
    fates ≡ fates' → before ≡ before' → Joined fates before calls → Joined fates' before' calls
joined_at {fates} {fates'} {before} {before'} calls same_fates same joined =
    subst (λ (fates : List Fate). Joined fates before' calls) same_fates (subst (λ (before : List (Call × Entry)). Joined fates before calls) same joined)

-- The loop is one call further.
module _ (fates : List Fate) (before : List (Call × Bor Entry)) {now : List Fate} (call : Call) (entry : Bor Entry) (left : now ≡ left_after fates (made before)) where
  made_more : made before ++ (call, entry.now) ∷ [] ≡ made (before ++ (call, entry) ∷ [])
  made_more = sym (map-append (λ (c : Call × Bor Entry). (c.0, c.1.now)) before ((call, entry) ∷ []))

  calls_more : (calls calls' : List Call) (came : Option ReceiverCall) → Joined fates (made before) calls →
      ComesOf entry.now (next_fate now) came → calls' ≡ calls ++ (call ∷ at_receiver came) → Joined fates (made (before ++ (call, entry) ∷ [])) calls'
  calls_more calls calls' came joined is as_made =
      let Comes : List Fate → Type 0 = λ now. ComesOf entry.now (next_fate now) came in
      let more = joined_more fates (made before) calls (call, entry.now) came joined (subst Comes left is) in
      subst (λ (calls : List Call). Joined fates (made (before ++ (call, entry) ∷ [])) calls) (sym as_made) (joined_at _ refl made_more more)

  fates_more : {after : List Fate} → after ≡ fates_after entry.now now → after ≡ left_after fates (made (before ++ (call, entry) ∷ []))
  unfolding left_after
  fates_more after =
      after ∙ ap (λ (now : List Fate). fates_after entry.now now) left ∙
      sym (fold_push (λ fates c. fates_after c.1 fates) fates (made before) (call, entry.now)) ∙ ap (left_after fates) made_more

-- A call of which something may come shows no failure.
none_shown : (entry : Entry) (fate : Fate) (came : Option ReceiverCall) → ComesOf entry fate came → joint_failure entry ≡ None
none_shown (OfSealer (Begun nonce)) fate came is = refl
none_shown (OfSealer (Sealed mask plain wire)) fate came is = refl
none_shown (OfSealer (Refused mask plain fault)) fate came is = absurd is
none_shown (OfSealer (Finished tag)) fate came is = refl
none_shown (OfSealer Abandoned) fate came is = refl
none_shown (OfSealer (OutOfTurn call)) fate came is = absurd is
none_shown (OfReceiver entry) fate came is = refl

-- Nor do the calls so far.
none_so_far : (fates : List Fate) (before : List (Call × Entry)) (calls : List Call) → Joined fates before calls → joint_log_failure before ≡ None
none_so_far fates [] calls joined = refl
none_so_far fates (first ∷ before) calls (came, rest, is, as_made, joined) =
    (λ i. option_or (none_shown first.1 (next_fate fates) came is i) (joint_log_failure before)) ∙ none_so_far (fates_after first.1 fates) before rest joined

neither_shown : (one other : Option Failure) → option_or one other ≡ None → (one ≡ None) × (other ≡ None)
neither_shown None other none = (refl, none)
neither_shown (Some e) other none = absurd (none-some e (sym none))

-- What the call at a place shows is the first that is shown, where those before show nothing.
first_shown : (all : List (Call × Entry)) (n : ℕ) (d : Call × Entry) → n < length all →
    joint_log_failure (take n all) ≡ None → (shown : Failure) → joint_failure (get_or all n d).1 ≡ Some shown → joint_log_failure all ≡ Some shown
first_shown [] n d within none shown is = absurd (omega arith)
first_shown (first ∷ all) zero d within none shown is = λ i. option_or (is i) (joint_log_failure all)
first_shown (first ∷ all) (suc n) d within none shown is =
    let neither = neither_shown (joint_failure first.1) (joint_log_failure (take n all)) none in
    (λ i. option_or (neither.0 i) (joint_log_failure all)) ∙ first_shown all n d (omega arith) neither.1 shown is

-- The same of a failure that may be want of memory.
first_fails : (all : List (Call × Entry)) (n : ℕ) (d : Call × Entry) → n < length all → joint_log_failure (take n all) ≡ None →
    (e : Failure) → Fails (joint_failure (get_or all n d).1) e → Fails (joint_log_failure all) e
first_fails all n d within none e (inl memory) = inl memory
first_fails all n d within none e (inr is) = inr (first_shown all n d within none e is)

pub loop-call-preserved : goal.loop-call-preserved
unfolding left_after
loop-call-preserved c =
    let call = c.in-Some.call in
    let entry = c.in-Some.entry in
    let so_far = c.loop-call.invariant in
    record {
      calls = calls_more (iter_rest c.iter-fates.result) c.loop-call.yielded call entry so_far.fates _ _ _ so_far.calls c.in_ok-came.ensures.call c.in_ok-join.ensures;
      fates = fates_more (iter_rest c.iter-fates.result) c.loop-call.yielded call entry so_far.fates c.in_ok-came.ensures.fates;
    }

-- The loop goes over the calls with their entries.
yields_made : {Z : Type 0} {s t : Zip (IntoIter Call Z) (Iter Entry)} {it : IntoIter Call Z} {calls : List Call} {log : List Entry} →
    s ≡ t → zip_first t ≡ it → into_iter_items it ≡ calls → into_iter_len it ≡ length calls → iter_rest (zip_second t) ≡ log →
    YieldsList (zips into_iter_steps fronts) (λ made. (made.0, made.1.now)) s (zip calls log)
yields_made {calls = calls} {log} same first items count entries =
    YieldsList-from_zip
    (YieldsList-from_vec calls (ap (λ z. into_iter_items (zip_first z)) same ∙ ap into_iter_items first ∙ items) (ap (λ z. into_iter_len (zip_first z)) same ∙ ap into_iter_len first ∙ count))
    (YieldsList-from_slice log (ap (λ z. iter_rest (zip_second z)) same ∙ entries))

pub returns : goal.returns
returns c =
    let road = yields_made c.into_iter-call-iterator.ensures.into_iter_gives c.zip-call-items.ensures.first c.into_iter.ensures.rest (c.into_iter.ensures.len ∙ c.args.sealing.ok.0) c.zip-call-items.ensures.second.0 in
    let all = YieldsList-end road c.loop-call.yielded _ c.loop-call.yielded_by _ c.next.new.self c.in-None.is c.next.ensures.steps in
    let fates = c.iter-fates.ensures.rest ∙ c.deref.ensures.value in
    (c.in_ok-fates.fates.items, c.in_ok-fates.ensures, joined_at _ fates all.0 c.loop-call.invariant.calls)

-- The result that is made of an error has that error.
fails_with : {X : Type 0} (r : Result X Failure) (P : X → Type 0) (shown : Option Failure) (e : Failure) →
    IsErrAnd r (λ e'. e' ≡ e) → Fails shown e → MatchResult r P (Fails shown)
fails_with (Ok x) P shown e is fails = absurd is
fails_with (Err e') P shown e is fails = subst (Fails shown) (sym is) fails

pub returns-in_err-came : goal.returns-in_err-came
returns-in_err-came c =
    let road = yields_made c.into_iter-call-iterator.ensures.into_iter_gives c.zip-call-items.ensures.first c.into_iter.ensures.rest (c.into_iter.ensures.len ∙ c.args.sealing.ok.0) c.zip-call-items.ensures.second.0 in
    let so_far = YieldsList-so_far road c.loop-call.yielded _ c.loop-call.yielded_by in
    let turn = YieldsList-turn road c.loop-call.yielded _ c.loop-call.yielded_by _ c.next.new.self (c.in-Some.call, c.in-Some.entry) c.in-Some.is c.next.ensures.steps in
    let none = ap joint_log_failure (sym so_far) ∙ none_so_far _ _ _ c.loop-call.invariant.calls in
    let e = c.in_err-came.field-0.0 in
    let fails = first_fails _ _ _ turn.0 none e (subst (λ (made : Call × Entry). Fails (joint_failure made.1) e) turn.1 c.in_err-came.ensures.call) in
    fails_with c.from_residual-in_err-came.result _ _ e c.from_residual-in_err-came.ensures.1 fails
