-- The lines of a tape are what the receiver's entries say in the log of every run that takes its commands.
use Rattle.std.proofs.Common.{◌≡◌, ℕ, ◌+◌, List, [], ◌∷◌, ◌++◌, length, fold, vec_items, refl, sym, ap, ◌∙◌, append-nil, append_assoc, arith}
use Rattle.std.proofs.Math.Nat.{zero-add}
use Rattle.std.specs.List.{AllZip, filter_map, AllByRecursion as Every}
use Rattle.std.proofs.lemmas.List.Elements.{filter_map-append}
use Rattle.link.specs.Ends.{Ends, ReceiverState, history, made, new_ends, one_call, receiver_made}
use Rattle.link.specs.declared.call.Call.{Call}
use Rattle.link.specs.declared.call.Call.TheVariants.{OnSealer, OnReceiver}
use Rattle.link.specs.declared.call.Entry.{Entry}
use Rattle.link.specs.declared.call.ReceiverCall.{ReceiverCall}
use Rattle.link.specs.declared.call.ReceiverEntry.{ReceiverEntry}
use Rattle.sss.proofs.Refusals.{nonce_fits_true}
use Rattle.tape.specs.Format.{Fits, bytes_of, places_from}
use Rattle.tape.specs.Replaying.{TapeLines, heard_line, heard_lines}
use Rattle.link.specs.OneEnd.{receiver_call, receiver_entry}
use Rattle.tape.specs.Runs.{ToldByRuns, IsCall, entry_line, entry_lines}
use Rattle.tape.specs.declared.command.Command.{Command}
use Rattle.tape.specs.declared.command.Command.TheVariants.{Nonce}
use Rattle.tape.specs.declared.line.Line.{Line}
use Rattle.tape.proofs.OneWay.{same_reading}

module _ (f A : ℕ → ℕ) where
  -- A command is heard as the call that it is.
  as_called : (s : ReceiverState) (place : ℕ) (c : Command) (x : ReceiverCall) → Fits c → IsCall c x →
      heard_line f A s place c ≡ (let o = receiver_made f A s x in (o.0, entry_line place o.1))
  unfolding receiver_made
  as_called s place (Nonce nonce) x fits (v, is, begin) =
      let six = ap length is ∙ fits.0 in
      rw (begin, nonce_fits_true (vec_items v) (rw six refl, omega (arith, six)), is) refl
  as_called s place c x fits is = rw is refl

  module _ (g B : ℕ → ℕ) where
    -- The receiver's entries that calls add to a log say the lines of the commands.
    told_on : (h : Ends × List Entry) (place : ℕ) (cs : List Command) (calls : List Call) → Every Fits cs → AllZip IsCall cs (filter_map receiver_call calls) →
        (es : List ReceiverEntry) × (filter_map receiver_entry (fold (one_call g B f A) h calls).1 ≡ filter_map receiver_entry h.1 ++ es) ×
        (heard_lines f A h.0.receiver place cs ≡ entry_lines (places_from place cs) es)
    unfolding made
    told_on h place [] [] fits same = ([], sym (append-nil _), refl)
    told_on h place (c ∷ cs) [] fits same = absurd same
    told_on h place cs (OnSealer x ∷ calls) fits same =
        let t = told_on (one_call g B f A h (OnSealer x)) place cs calls fits same in
        (t.0, simp (filter_map-append, append-nil) at t.1, t.2)
    told_on h place [] (OnReceiver x ∷ calls) fits same = absurd same
    told_on h place (c ∷ cs) (OnReceiver x ∷ calls) fits same =
        let t = told_on (one_call g B f A h (OnReceiver x)) (place + length (bytes_of c)) cs calls fits.1 same.1 in
        let o = receiver_made f A h.0.receiver x in
        let here = as_called h.0.receiver place c x fits.0 same.0 in
        (o.1 ∷ t.0, simp (filter_map-append, append_assoc) at t.1, rw here (ap (λ (ls : List Line). entry_line place o.1 ∷ ls) t.2))

-- The listing of a tape by a new receiver is told by the runs.
pub told : (f A : ℕ → ℕ) (tape : List ℕ) (lines : List Line) → TapeLines f A new_ends.receiver 0 tape lines → ToldByRuns f A tape lines
unfolding history
told f A tape lines h cs e reads g B calls called =
    let same = same_reading tape cs h.commands e h.ending reads h.reads in
    let t = told_on f A g B (new_ends, []) 0 cs calls reads.fit called in
    rw (same.0, same.1, t.2, sym t.1, zero-add) at h.are
