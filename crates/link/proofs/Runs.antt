-- What holds of both ends holds after any calls, and each beginning of a log is the log of a run.
use Rattle.std.proofs.Common.{◌≡◌, ℕ, ◌⊎◌, List, [], ◌∷◌, ◌++◌, None, fold, sym, refl, subst, inl, inr, ⊎_elim, append-nil, ◌∙◌}
use Rattle.std.specs.List.{AllByRecursion as Every}
use Rattle.std.proofs.lemmas.List.Sums.{fold_push}
use Rattle.sss.specs.Cipher.{OneToOne}
use Rattle.link.specs.Ends.{Ends, new_ends, made, one_call, history, CallFits}
use Rattle.link.specs.Log.{messages_then, messages, new, marked, stretches_then, stretches, reset_to, sent_then, sent_since, heard_then, heard_since}
use Rattle.link.specs.declared.call.Call.{Call}
use Rattle.link.specs.declared.call.Call.TheVariants.{OnSealer, OnReceiver}
use Rattle.link.specs.declared.call.Entry.{Entry}
use Rattle.link.proofs.Received.{all_received, zeroed_sized}
use Rattle.link.proofs.Invariants.{SealerGood, ReceiverGood, Good, Run, none, more}
use Rattle.link.specs.Histories.{SameOnWords}
use Rattle.link.proofs.OneImage.{made_same}
use Rattle.link.proofs.Sealing.{sealer_keeps}
use Rattle.link.proofs.Hearing.{receiver_keeps}

-- What one more entry of a log says.
pub messages_push : (log : List Entry) (e : Entry) → messages (log ++ e ∷ []) ≡ messages_then (messages log) e
unfolding messages
messages_push log e = fold_push messages_then [] log e

pub stretches_push : (log : List Entry) (e : Entry) → stretches (log ++ e ∷ []) ≡ stretches_then (stretches log) e
unfolding stretches
stretches_push log e = fold_push stretches_then (marked new []) log e

pub sent_push : (log : List Entry) (e : Entry) → sent_since (log ++ e ∷ []) ≡ sent_then (sent_since log) e
unfolding sent_since
sent_push log e = fold_push sent_then (reset_to None) log e

pub heard_push : (log : List Entry) (e : Entry) → heard_since (log ++ e ∷ []) ≡ heard_then (heard_since log) e
unfolding heard_since
heard_push log e = fold_push heard_then (reset_to None) log e

-- A list with one more at its end, cut before some element: that element is the last, or the cut is in the list.
pub cut_push : {X : Type 0} (xs before later : List X) (x e : X) → xs ++ x ∷ [] ≡ before ++ e ∷ later →
    ((xs ≡ before) × (x ≡ e) × (later ≡ [])) ⊎ ((earlier : List X) × (xs ≡ before ++ e ∷ earlier) × (later ≡ earlier ++ x ∷ []))
cut_push [] [] later x e q = inl (refl, cc, cc)
cut_push (a ∷ xs) [] later x e q = let h : a ≡ e = cc in inr (xs, (λ i. h i ∷ xs), cc)
cut_push [] (b ∷ []) later x e q = absurd cc
cut_push [] (b ∷ c ∷ before) later x e q = absurd cc
cut_push (a ∷ xs) (b ∷ before) later x e q =
    let h : a ≡ b = cc in
    let t : xs ++ x ∷ [] ≡ before ++ e ∷ later = cc in
    ⊎_elim (λ l. inl ((λ i. h i ∷ l.0 i), l.1, l.2)) (λ r. inr (r.0, (λ i. h i ∷ r.1 i), r.2)) (cut_push xs before later x e t)

module _ (f A : ℕ → ℕ) where
  -- Both ends with one more entry.
  good_push : (s : Ends) (log : List Entry) (e : Entry) →
      SealerGood f A s.sealer (messages_then (messages log) e) (sent_then (sent_since log) e) →
      ReceiverGood f A s.receiver (stretches_then (stretches log) e) (heard_then (heard_since log) e) → Good f A s (log ++ e ∷ [])
  good_push s log e p q =
      record { sealer = rw (messages_push log e, sent_push log e) p; receiver = rw (stretches_push log e, heard_push log e) q }

  -- Both new ends.
  good_new : Good f A new_ends []
  unfolding messages sent_since stretches heard_since all_received
  good_new = record {
    sealer = record { sized = zeroed_sized; sealed = tt; start_fits = tt; since_sealed = tt; reached = refl; is_open = tt };
    receiver = record {
      sized = zeroed_sized;
      followed = ((new_ends.receiver.registers, zeroed_sized, tt, tt, refl, refl), tt);
      start_fits = tt;
      words_fit = tt;
      reached = refl;
    };
  }

  -- A call keeps what holds of both ends.
  good_made : OneToOne f → OneToOne A → (s : Ends) (log : List Entry) (x : Call) → CallFits x → Good f A s log →
      (let o = made f A f A s x in Good f A o.0 (log ++ o.1 ∷ []))
  unfolding made
  good_made onef oneA s log (OnSealer x) fits h =
      good_push _ log _ (sealer_keeps f A onef oneA s.sealer (messages log) (sent_since log) x fits h.sealer) h.receiver
  good_made onef oneA s log (OnReceiver x) fits h =
      good_push _ log _ h.sealer (receiver_keeps f A onef oneA s.receiver (stretches log) (heard_since log) x fits h.receiver)

  -- What holds of both ends after any calls.
  pub good : OneToOne f → OneToOne A → {s : Ends} {log : List Entry} → Run f A s log → Good f A s log
  good onef oneA none = good_new
  good onef oneA (more {s} {log} r x fits) = good_made onef oneA s log x fits (good onef oneA r)

  -- A list of calls is a run, where both coefficients are one map on words.
  module _ (onef : OneToOne f) (oneA : OneToOne A) (B : ℕ → ℕ) (same : SameOnWords A B) where
    run_on : (h : Ends × List Entry) (calls : List Call) → Every CallFits calls → Run f A h.0 h.1 →
        (let t = fold (one_call f A f B) h calls in Run f A t.0 t.1)
    run_on h [] fits r = r
    run_on h (x ∷ calls) fits r =
        run_on (one_call f A f B h x) calls fits.1
        (subst (λ (o : Ends × Entry). Run f A o.0 (h.1 ++ o.1 ∷ []))
        (sym (made_same f A B onef oneA same h.0 x (good onef oneA r).receiver.sized fits.0)) (more r x fits.0))

    pub history_run : (calls : List Call) → Every CallFits calls → Run f A (history f A f B calls).0 (history f A f B calls).1
    unfolding history
    history_run calls fits = run_on (new_ends, []) calls fits none

  -- Each beginning of a log is the log of a run, and the next entry is what a call notes there.
  pub earlier_run : {s : Ends} {log : List Entry} → Run f A s log → (before later : List Entry) (e : Entry) → log ≡ before ++ e ∷ later →
      (s' : Ends) × Run f A s' before × ((x : Call) × ((made f A f A s' x).1 ≡ e))
  earlier_run none [] later e q = absurd cc
  earlier_run none (b ∷ before) later e q = absurd cc
  earlier_run (more {s} {log} r x fits) before later e q =
      ⊎_elim (λ l. (s, subst (Run f A s) l.0 r, (x, l.1))) (λ k. earlier_run r before k.0 e k.1)
      (cut_push log before later (made f A f A s x).1 e q)

  -- What the log held at some moment is the log of a run.
  pub beginning_run : {s : Ends} {log : List Entry} → Run f A s log → (early later : List Entry) → log ≡ early ++ later → (s' : Ends) × Run f A s' early
  beginning_run {s} run early [] q = (s, subst (Run f A s) (q ∙ append-nil early) run)
  beginning_run run early (e ∷ later) q = let r = earlier_run run early later e q in (r.0, r.1)
