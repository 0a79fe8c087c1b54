-- Which words of a stretch are withheld.
use Rattle.std.proofs.Common.{◌≡◌, ◌↔◌, ℕ, ◌+◌, ◌<◌, ◌≤◌, eqb, ◌≢◌, ◌⊎◌, List, [], ◌∷◌, ◌++◌, length, vec_items, sym, refl, ap, ◌∙◌, subst, inl, inr, append_assoc, append-nil, arith, length-append}
use Rattle.std.specs.List.{AllByRecursion as Every}
use Rattle.std.proofs.lemmas.List.{length_push, same_from_push}
use Rattle.std.proofs.lemmas.Bool.{cond_both, eqb-true, eqb-false}
use Rattle.sss.specs.Cipher.{sealed_mask}
use Rattle.link.specs.Receiving.{Given, Released, decided, row_after, with_row}
use Rattle.link.specs.Ends.{Leads}
use Rattle.link.specs.Log.{Mark, new, begin, break, finish, Heard, Stretch, marked, stretch_noted, stretches}
use Rattle.link.specs.Law.{BrokenExactly, SealedHeard, RowOf17, RowIs, IsWithheld, HandedOut, StandsAfter, Withholds}
use Rattle.link.specs.declared.reception.Reception.{Reception}
use Rattle.link.specs.declared.reception.Reception.TheVariants.{Whole, Caught, Lost}
use Rattle.link.specs.declared.reception.Event.TheVariants as event
use Rattle.link.specs.declared.reception.Release.TheVariants.{HandOut, Withhold}
use Rattle.link.specs.declared.reception.Answer.{Answer}
use Rattle.link.specs.declared.reception.Answer.TheVariants.{Reading, Withheld}
use Rattle.link.specs.declared.reception.Verdict.{Verdict}
use Rattle.link.specs.declared.reception.Verdict.TheVariants.{Agrees, Differs, Broken}
use Rattle.link.specs.declared.call.Entry.{Entry}
use Rattle.link.specs.declared.call.Entry.TheVariants.{OfSealer, OfReceiver}
use Rattle.link.specs.declared.call.ReceiverEntry.{ReceiverEntry}
use Rattle.link.specs.declared.call.ReceiverEntry.TheVariants.{Begun, Refused, Received, BrokenOff, Finished}
use Rattle.link.proofs.Every.{every_push}
use Rattle.link.proofs.Invariants.{moved}
use Rattle.link.proofs.Runs.{cut_push, stretches_push}

-- Some words are none, or they have a last one.
ends : (c : List Heard) → (c ≡ []) ⊎ ((d : List Heard) × (y : Heard) × (c ≡ d ++ y ∷ []))
ends [] = inl refl
ends (x ∷ c) = elim (ends c) [
  | inl e ↦ inr ([], x, ap (λ (z : List Heard). x ∷ z) e)
  | inr (d, y, e) ↦ inr (x ∷ d, y, ap (λ (z : List Heard). x ∷ z) e)
]

-- Sealed words at the end of some words are no more than their row: more would reach the word before the row, which is not sealed.
longest : (a b d t : List Heard) → a ++ b ≡ d ++ t → length t < length b → Every SealedHeard b →
    ((c : List Heard) (y : Heard) → d ≡ c ++ y ∷ [] → y.mask ≢ sealed_mask) → ⊥
longest a b [] t e l s n = omega (arith, ap length e, length-append a b)
longest [] b (y ∷ []) t e l s n = n [] y refl (subst (Every SealedHeard) e s).0
longest [] b (y ∷ z ∷ d) t e l s n =
    longest [] (z ∷ d ++ t) (z ∷ d) t refl (omega (arith, length-append d t)) (subst (Every SealedHeard) e s).1
    (λ c v p. n (y ∷ c) v (ap (λ (w : List Heard). y ∷ w) p))
longest (x ∷ a) b (y ∷ d) t e l s n = longest a b d t (cc) l s (λ c v p. n (y ∷ c) v (ap (λ (w : List Heard). y ∷ w) p))

-- The row of some words, and of these with one word more.
row_more : (front : List Heard) (w : Heard) (n : ℕ) → RowIs n front → RowIs (row_after n w.mask) (front ++ w ∷ [])
unfolding row_after
row_more front w n r =
    cond_both (eqb w.mask sealed_mask) (n + 1) 0 (λ (m : ℕ). RowIs m (front ++ w ∷ []))
    (λ e. record {
      before = r.before;
      those = r.those ++ w ∷ [];
      parts = ap (λ (z : List Heard). z ++ w ∷ []) r.parts ∙ append_assoc r.before r.those (w ∷ []);
      long = length_push r.those w ∙ ap (λ (k : ℕ). k + 1) r.long;
      sealed = every_push SealedHeard r.those w r.sealed (eqb-true w.mask sealed_mask e);
      no_more = r.no_more;
    })
    (λ e. record {
      before = front ++ w ∷ [];
      those = [];
      parts = sym (append-nil (front ++ w ∷ []));
      long = refl;
      sealed = tt;
      no_more = λ c y p m. eqb-false w.mask sealed_mask e (ap (λ (z : Heard). z.mask) (same_from_push front c w y p).1 ∙ m);
    })

-- Where no seventeen sealed words in a row stood before and the row with one word more is shorter than that, none stand with it.
none_yet : (front : List Heard) (w : Heard) (n : ℕ) → ¬ RowOf17 front → n ≤ 16 → RowIs n (front ++ w ∷ []) → ¬ RowOf17 (front ++ w ∷ [])
none_yet front w n none l r (a, b, c, e, s, k) = elim (ends c) [
  | inl z ↦
      longest a b r.before r.those
      (sym (e ∙ ap (λ (x : List Heard). a ++ (b ++ x)) z ∙ ap (λ (x : List Heard). a ++ x) (append-nil b)) ∙ r.parts)
      (omega (arith, r.long)) k r.no_more
  | inr (d, y, z) ↦
      let p : front ++ w ∷ [] ≡ a ++ (b ++ d) ++ y ∷ [] = e ∙ rw z (simp append_assoc) in
      none (a, b, d, (same_from_push front (a ++ (b ++ d)) w y p).0, s, k)
]

-- What a receiver's state says of the words since a mark that is no begin: it is caught after seventeen sealed words in a row, and until then
-- it is lost and counts them.
abbrev pub Counted : List Heard → Reception → Type 0
Counted seen Whole = ⊥
Counted seen Caught = RowOf17 seen
Counted seen (Lost n) = (n ≤ 16) × RowIs n seen × ¬ RowOf17 seen

-- A word adds at most 1 to a row.
pub row_within : (n mask : ℕ) → row_after n mask ≤ n + 1
unfolding row_after
row_within n mask = cond_both (eqb mask sealed_mask) (n + 1) 0 (λ (m : ℕ). m ≤ n + 1) (λ e. omega arith) (λ e. omega arith)

-- It says so still after one word more.
counted_more : (seen : List Heard) (w : Heard) (s : Reception) → Counted seen s → Counted (seen ++ w ∷ []) (moved s w.mask)
unfolding with_row
counted_more seen w Whole h = h
counted_more seen w Caught (a, b, c, e, l, k) = (a, b, c ++ w ∷ [], rw e (simp append_assoc), l, k)
counted_more seen w (Lost n) (l, r, none) =
    let m : ℕ = row_after n w.mask in
    let q : RowIs m (seen ++ w ∷ []) = row_more seen w n r in
    cond_both (eqb m 17) Caught (Lost m) (Counted (seen ++ w ∷ []))
    (λ e.
    (q.before, q.those, [], q.parts ∙ ap (λ (z : List Heard). q.before ++ z) (sym (append-nil q.those)), q.long ∙ eqb-true m 17 e, q.sealed))
    (λ e.
    let k : m ≤ 16 = omega (arith, eqb-false m 17 e, row_within n w.mask) in
    (k, q, none_yet seen w m none k q))

-- What the law says of a word after these words.
abbrev Decided : List Heard → Heard → Type 0
Decided front w = (IsWithheld front w × ¬ RowOf17 front) ⊎ (HandedOut w × RowOf17 front)

-- A word that is withheld is answered by its row alone, and one that is handed out by a reading.
pub answers_row : (n : ℕ) (answer : Answer) → Released (Withhold n) answer → answer ≡ Withheld n
answers_row n (Reading p) said = absurd said
answers_row n (Withheld m) said = ap Withheld said

pub answers_reading : (answer : Answer) → Released HandOut answer → (p : ℕ) × (answer ≡ Reading p)
answers_reading (Reading p) said = (p, refl)
answers_reading (Withheld n) said = absurd said

-- What became of a word by where the receiver stood.
abbrev Told : Reception → Heard → Type 0
Told s w = Released (decided s (event.Word w.mask)).1 w.answer

-- A word is withheld or handed out as the words before it ask.
decides : (seen : List Heard) (s : Reception) (w : Heard) → Counted seen s → Told s w → Decided seen w
decides seen Whole w c said = absurd c
decides seen Caught w c said = inr (answers_reading w.answer said, c)
decides seen (Lost n) w c said = inl ((row_after n w.mask, answers_row (row_after n w.mask) w.answer said, row_more seen w n c.1), c.2)

-- A lost receiver with no row has counted no words.
none_seen : Counted [] (Lost 0)
none_seen = (
  omega arith,
  record { before = []; those = []; parts = refl; long = refl; sealed = tt; no_more = λ c y e m. omega (arith, ap length e, length_push c y) },
  λ (a, b, c, e, s, k). omega (arith, ap length e, length-append a (b ++ c), length-append b c),
)

-- Where a receiver stands after some words of a stretch: whole if it came after a begin, and else where they were counted to.
pub record Stands (m : Mark) (ws : List Heard) (s : Reception) : Type 0 where
  pub after_begin : (nonce : List ℕ) → m ≡ begin nonce → s ≡ Whole
  pub after_other : ((nonce : List ℕ) → m ≢ begin nonce) → Counted ws s

-- The stretches of a log up to now, and where the receiver stands.
abbrev pub Standing : List Stretch → Reception → Type 0
Standing [] s = ⊥
Standing (st ∷ ss) s = Stands st.mark st.words s × Withholds st × Every Withholds ss

-- In all of them words are withheld as the law says.
pub all_withheld : (ss : List Stretch) (s : Reception) → Standing ss s → Every Withholds ss
all_withheld [] s h = absurd h
all_withheld (st ∷ ss) s h = (h.1, h.2)

-- After a begin the receiver is whole, and after any other mark it is lost with row 0.
pub begin_stands : (nonce : List ℕ) (s : Reception) → s ≡ Whole → Stands (begin nonce) [] s
begin_stands nonce s whole = record { after_begin = λ n e. whole; after_other = λ none. absurd (none nonce refl) }

pub other_stands : (m : Mark) (s : Reception) → s ≡ Lost 0 → ((nonce : List ℕ) → m ≢ begin nonce) → Stands m [] s
other_stands m s lost none =
    record { after_begin = λ n e. absurd (none n e); after_other = λ ne. subst (Counted []) (sym lost) none_seen }

-- A new mark, with no words yet.
pub none_withheld : (m : Mark) → Withholds (record { mark = m; words = [] })
none_withheld m = record {
  after_begin = λ nonce e. tt;
  after_other = λ ne front w back e. absurd (omega (arith, ap length e, length-append front (w ∷ back)));
}

pub mark_stands : (m : Mark) (ss : List Stretch) (s s' : Reception) → Stands m [] s' → Standing ss s → Standing (marked m ss) s'
mark_stands m ss s s' at h = (at, none_withheld m, all_withheld ss s h)

-- One more word of the present stretch.
module _ (m : Mark) (ws : List Heard) (s : Reception) (w : Heard) (at : Stands m ws s) (said : Told s w) where
  pub word_stands : (s' : Reception) → s' ≡ moved s w.mask → Stands m (ws ++ w ∷ []) s'
  word_stands s' to = record {
    after_begin = λ nonce e. to ∙ ap (λ (x : Reception). moved x w.mask) (at.after_begin nonce e);
    after_other = λ none. subst (Counted (ws ++ w ∷ [])) (sym to) (counted_more ws w s (at.after_other none));
  }

  pub word_withheld : Withholds (record { mark = m; words = ws }) → Withholds (record { mark = m; words = ws ++ w ∷ [] })
  word_withheld h = record {
    after_begin = λ nonce e.
        every_push HandedOut ws w (h.after_begin nonce e)
        (answers_reading w.answer (subst (λ (x : Reception). Told x w) (at.after_begin nonce e) said));
    after_other = λ none front x back e. elim (cut_push ws front back w x e) [
      | inl last ↦
          subst (λ (y : Heard). Decided front y) last.1
          (subst (λ (z : List Heard). Decided z w) last.0 (decides ws s w (at.after_other none) said))
      | inr inner ↦ h.after_other none front x inner.0 inner.1
    ];
  }

-- An entry of the receiver.
heard_stands : (ss : List Stretch) (s s' : Reception) (e : ReceiverEntry) → Leads s e s' → Standing ss s → Standing (stretch_noted e ss) s'
heard_stands ss s s' (Begun nonce) to h = mark_stands (begin (vec_items nonce)) ss s s' (begin_stands (vec_items nonce) s' to) h
heard_stands ss s s' (Refused nonce fault) to h = subst (Standing ss) (sym to) h
heard_stands [] s s' (Received mask wire answer) to h = absurd h
heard_stands (st ∷ ss) s s' (Received mask wire answer) to h =
    let w : Heard = record { mask = mask; wire = wire; answer = answer } in
    (word_stands st.mark st.words s w h.0 to.1 s' to.0, word_withheld st.mark st.words s w h.0 to.1 h.1, h.2)
heard_stands ss s s' BrokenOff to h =
    mark_stands break ss s s' (other_stands break s' to (λ n e. cc)) h
heard_stands ss s s' (Finished tag verdict) to h =
    mark_stands finish ss s s'
    (other_stands finish s' to.0 (λ n e. cc)) h

-- An entry of the sealer leaves the receiver where it stands.
abbrev pub EntryLeads : Reception → Entry → Reception → Type 0
EntryLeads s (OfSealer e) s' = s' ≡ s
EntryLeads s (OfReceiver e) s' = Leads s e s'

-- A log of no entries, and one entry more, whatever the keyed functions answer.
pub new_stands : Standing (stretches []) (Lost 0)
unfolding stretches
new_stands = (other_stands new (Lost 0) refl (λ n e. cc), none_withheld new, tt)

pub entry_stands : (log : List Entry) (s s' : Reception) (e : Entry) → EntryLeads s e s' → Standing (stretches log) s →
    Standing (stretches (log ++ e ∷ [])) s'
entry_stands log s s' (OfSealer e) to h = rw (stretches_push log (OfSealer e)) (subst (Standing (stretches log)) (sym to) h)
entry_stands log s s' (OfReceiver e) to h = rw (stretches_push log (OfReceiver e)) (heard_stands (stretches log) s s' e to h)

-- Where the receiver stands, by the present stretch.
counted_after : (ws : List Heard) (s : Reception) → Counted ws s →
    ((s ≡ Caught) × RowOf17 ws) ⊎ ((n : ℕ) × (s ≡ Lost n) × RowIs n ws × ¬ RowOf17 ws)
counted_after ws Whole c = absurd c
counted_after ws Caught c = inl (refl, c)
counted_after ws (Lost n) c = inr (n, refl, c.1, c.2)

pub stands_after : (ss : List Stretch) (s : Reception) → Standing ss s → (st : Stretch) × (others : List Stretch) × (ss ≡ st ∷ others) × StandsAfter st s
stands_after [] s h = absurd h
stands_after (st ∷ ss) s h =
    (st, ss, refl, record { after_begin = h.0.after_begin; after_other = λ none. counted_after st.words s (h.0.after_other none) })

-- A verdict that is given where none may be is broken.
broken_given : (n : ℕ) (v : Verdict) → Given (Withhold n) v → v ≡ Broken
broken_given n Agrees said = absurd said
broken_given n Differs said = absurd said
broken_given n Broken said = refl

counted_broken : (ws : List Heard) (s : Reception) (v : Verdict) → Counted ws s → Given (decided s event.Finish).1 v → v ≡ Broken
counted_broken ws Whole v c said = absurd c
counted_broken ws Caught v c said = broken_given 0 v said
counted_broken ws (Lost n) v c said = broken_given 0 v said

-- The verdict on the present stretch.
ended : (ss : List Stretch) (s : Reception) (v : Verdict) → Standing ss s → Given (decided s event.Finish).1 v →
    (st : Stretch) × (others : List Stretch) × (ss ≡ st ∷ others) × ((v ≡ Broken) ↔ ((nonce : List ℕ) → st.mark ≢ begin nonce))
ended [] s v h said = absurd h
ended (st ∷ ss) s v h said = (
  st,
  ss,
  refl,
  (
    λ broken nonce e.
        subst (λ (w : Verdict). Given HandOut w) broken
        (subst (λ (x : Reception). Given (decided x event.Finish).1 v) (h.0.after_begin nonce e) said),
    λ none. counted_broken st.words s v (h.0.after_other none) said,
  ),
)

-- A log of no entries, and one entry more.
pub new_broken : BrokenExactly []
new_broken [] later t v q = absurd cc
new_broken (b ∷ before) later t v q = absurd cc

pub entry_broken : (log : List Entry) (s s' : Reception) (e : Entry) → EntryLeads s e s' → Standing (stretches log) s → BrokenExactly log →
    BrokenExactly (log ++ e ∷ [])
entry_broken log s s' e to at h before later t v q = elim (cut_push log before later e (OfReceiver (Finished t v)) q) [
  | inl last ↦
      ended (stretches before) s v (subst (λ (l : List Entry). Standing (stretches l) s) last.0 at)
      (subst (λ (x : Entry). EntryLeads s x s') last.1 to).1
  | inr inner ↦ h before inner.0 t v inner.1
]
