-- One call more, noted.
use Rattle.std.proofs.Common.{◌≡◌, ℕ, List, [], ◌∷◌, ◌++◌, length, Option, None, sym, refl, ap, ◌∙◌, subst, append_assoc, append-nil, arith}
use Rattle.std.proofs.lemmas.List.Sums.{fold_push}
use Rattle.link.specs.Ends.{open_count}
use Rattle.link.specs.Histories.{EntryOf}
use Rattle.link.specs.Noting.{Notes, NotesAll, open_then, open_words}
use Rattle.link.specs.declared.call.Call.{Call}
use Rattle.link.specs.declared.call.Call.TheVariants.{OnSealer, OnReceiver}
use Rattle.link.specs.declared.call.Entry.{Entry}
use Rattle.link.specs.declared.call.Entry.TheVariants.{OfSealer, OfReceiver}
use Rattle.link.specs.declared.history.History.{History}
use Rattle.link.proofs.Withheld.{EntryLeads}

-- The open message after one entry more.
open_push : (log : List Entry) (e : Entry) → open_words (log ++ e ∷ []) ≡ open_then (open_words log) e
unfolding open_words
open_push log e = fold_push open_then None log e

-- One call more, and its entry.
notes_push : (before : List Entry) (xs : List Call) (es : List Entry) (x : Call) (e : Entry) → NotesAll before xs es → Notes (before ++ es) x e →
    NotesAll before (xs ++ x ∷ []) (es ++ e ∷ [])
notes_push before [] [] x e h one = (subst (λ (z : List Entry). Notes z x e) (append-nil before) one, tt)
notes_push before [] (d ∷ es) x e h one = absurd h
notes_push before (y ∷ xs) [] x e h one = absurd h
notes_push before (y ∷ xs) (d ∷ es) x e h one = (
  h.0,
  notes_push (before ++ d ∷ []) xs es x e h.1 (subst (λ (z : List Entry). Notes z x e) (sym (append_assoc before (d ∷ []) es)) one),
)

-- The calls that were made, those still to come, and what the log has of them.
pub record Made (all rest : List Call) (log : List Entry) (count : Option ℕ) : Type 0 where
  pub made : List Call
  pub those : all ≡ made ++ rest
  pub noted : NotesAll [] made log
  pub open_is : open_words log ≡ count

-- No call is made yet.
pub none_made : (all : List Call) → Made all all [] None
unfolding open_words
none_made all = record { made = []; those = refl; noted = tt; open_is = refl }

-- No call is still to come.
pub all_made : (all rest : List Call) (log : List Entry) (count : Option ℕ) → Made all rest log count → length rest ≡ 0 → NotesAll [] all log
all_made all [] log count h none = subst (λ (z : List Call). NotesAll [] z log) (sym (h.those ∙ append-nil h.made)) h.noted
all_made all (x ∷ rest) log count h none = absurd (omega arith)

module _ {SK SC RK RC : Type 0} (h h' : History SK SC RK RC) where
  -- What an entry of either end says of the receiver.
  pub entry_leads : (x : Call) (e : Entry) → EntryOf h x e h' → EntryLeads h.receiver.footing.reception e h'.receiver.footing.reception
  entry_leads (OnSealer x) (OfSealer e) n = n.2
  entry_leads (OnSealer x) (OfReceiver e) n = absurd n
  entry_leads (OnReceiver x) (OfSealer e) n = absurd n
  entry_leads (OnReceiver x) (OfReceiver e) n = n.1

  -- What it says of the open message, and of its call.
  entry_opens : (x : Call) (e : Entry) → EntryOf h x e h' → open_then (open_count h.sealer) e ≡ open_count h'.sealer
  entry_opens (OnSealer x) (OfSealer e) n = sym n.1
  entry_opens (OnSealer x) (OfReceiver e) n = absurd n
  entry_opens (OnReceiver x) (OfSealer e) n = absurd n
  entry_opens (OnReceiver x) (OfReceiver e) n = sym n.2

  entry_notes : (log : List Entry) (x : Call) (e : Entry) → open_words log ≡ open_count h.sealer → EntryOf h x e h' → Notes log x e
  entry_notes log (OnSealer x) (OfSealer e) at n = rw at n.0
  entry_notes log (OnSealer x) (OfReceiver e) at n = absurd n
  entry_notes log (OnReceiver x) (OfSealer e) at n = absurd n
  entry_notes log (OnReceiver x) (OfReceiver e) at n = n.0

  -- One call more is made.
  pub one_made : (all rest rest' : List Call) (log log' : List Entry) (x : Call) (e : Entry) → Made all rest log (open_count h.sealer) →
      rest ≡ x ∷ rest' → log' ≡ log ++ e ∷ [] → EntryOf h x e h' → Made all rest' log' (open_count h'.sealer)
  one_made all rest rest' log log' x e m first added n =
      record {
        made = m.made ++ x ∷ [];
        those = m.those ∙ ap (λ (z : List Call). m.made ++ z) first ∙ sym (append_assoc m.made (x ∷ []) rest');
        noted = rw added (notes_push [] m.made log x e m.noted (entry_notes log x e m.open_is n));
        open_is = ap open_words added ∙ open_push log e ∙ ap (λ (o : Option ℕ). open_then o e) m.open_is ∙ entry_opens x e n;
      }
