-- Each verdict is the one that the tag deserves.
use Rattle.std.proofs.Common.{◌≡◌, ℕ, Bool, cond, eqb, ◌≢◌, ◌↔◌, List, [], ◌∷◌, map, sym, refl, ap, ◌∙◌}
use Rattle.std.specs.Str.{bytes_eq}
use Rattle.std.proofs.lemmas.Slice.Eq.{bytes_eq-Decides}
use Rattle.std.proofs.lemmas.Bool.{cond_both}
use Rattle.sss.specs.Cipher.{BothRegisters, begun, tag, message_tag, opened_message}
use Rattle.link.specs.Receiving.{decided, verdict_of, with_row, row_after}
use Rattle.link.specs.Ends.{ReceiverState}
use Rattle.link.specs.Log.{Mark, new, begin, break, finish, Heard, Stretch, heard_wire}
use Rattle.link.specs.Law.{Judged}
use Rattle.link.specs.declared.reception.Reception.{Reception}
use Rattle.link.specs.declared.reception.Reception.TheVariants.{Whole, Caught, Lost}
use Rattle.link.specs.declared.reception.Event.TheVariants as event
use Rattle.link.specs.declared.reception.Release.{Release}
use Rattle.link.specs.declared.reception.Release.TheVariants.{HandOut, Withhold}
use Rattle.link.specs.declared.reception.Verdict.{Verdict}
use Rattle.link.specs.declared.reception.Verdict.TheVariants.{Agrees, Differs, Broken}
use Rattle.link.proofs.Invariants.{moves, start, Present}
use Rattle.link.proofs.Received.{all_received, all_received_taken}

-- A whole receiver stays whole.
moves_whole : (ws : List Heard) → moves Whole ws ≡ Whole
moves_whole [] = refl
moves_whole (w ∷ ws) = moves_whole ws

-- A receiver that is not whole gives no verdict, and words do not make it whole.
abbrev GivesNone : Reception → Type 0
GivesNone s = (decided s event.Finish).1 ≡ Withhold 0

row_none : (n : ℕ) → GivesNone (with_row n)
unfolding with_row
row_none n = cond_both (eqb n 17) Caught (Lost n) GivesNone (λ e. refl) (λ e. refl)

moves_none : (s : Reception) (ws : List Heard) → GivesNone s → GivesNone (moves s ws)
moves_none s [] e = e
moves_none Whole (w ∷ ws) e = moves_none Whole ws e
moves_none Caught (w ∷ ws) e = moves_none Caught ws e
moves_none (Lost n) (w ∷ ws) e = moves_none (with_row (row_after n w.mask)) ws (row_none (row_after n w.mask))

-- The verdict where one is given: "agrees" exactly where the two tags are equal, and never "broken".
agrees_same : (received drawn : List ℕ) → (verdict_of HandOut received drawn ≡ Agrees) ↔ (received ≡ drawn)
agrees_same received drawn = (
  λ e. cond_both (bytes_eq received drawn) Agrees Differs (λ (v : Verdict). v ≡ Agrees → received ≡ drawn)
      (λ t. λ h. (bytes_eq-Decides received drawn).0 t)
      (λ t. λ h. absurd cc) e,
  λ e. ap (λ (b : Bool). cond b Agrees Differs) ((bytes_eq-Decides received drawn).1 e),
)

never_broken : (received drawn : List ℕ) → verdict_of HandOut received drawn ≢ Broken
never_broken received drawn =
    cond_both (bytes_eq received drawn) Agrees Differs (λ (v : Verdict). v ≢ Broken)
    (λ t h. cc)
    (λ t h. cc)

module _ (f A : ℕ → ℕ) where
  -- after a begin: the tag drawn is that of the nonce and the words as they were received
  judged_whole : (words : List Heard) (nonce received drawn : List ℕ) (v : Verdict) → v ≡ verdict_of HandOut received drawn →
      drawn ≡ message_tag f A nonce (opened_message f A nonce (map heard_wire words)) →
      Judged f A (record { mark = begin nonce; words = words }) received v
  judged_whole words nonce received drawn v is d =
      record {
        agrees = (
          λ e. (nonce, refl, (agrees_same received drawn).0 (sym is ∙ e) ∙ d),
          λ c.
              let same : nonce ≡ c.0 = let m = c.1 in cc in
              let t : List ℕ → List ℕ = λ n. message_tag f A n (opened_message f A n (map heard_wire words)) in
              is ∙ (agrees_same received drawn).1 (c.2 ∙ sym (ap t same) ∙ sym d),
        );
        broken = (λ e. absurd (never_broken received drawn (sym is ∙ e)), λ none. absurd (none nonce refl));
      }

  -- after any other mark
  judged_lost : (s : Stretch) (received : List ℕ) (v : Verdict) → v ≡ Broken → ((nonce : List ℕ) → s.mark ≢ begin nonce) → Judged f A s received v
  judged_lost s received v is none =
      record {
        agrees = (
          λ e. absurd cc,
          λ c. absurd (none c.0 c.1),
        );
        broken = (λ e. none, λ n. is);
      }

  lost_verdict : (s : Reception) (m : Mark) (words : List Heard) (received drawn : List ℕ) (v : Verdict) → s ≡ moves (start m) words →
      GivesNone (start m) → v ≡ verdict_of (decided s event.Finish).1 received drawn → v ≡ Broken
  lost_verdict s m words received drawn v at none is =
      is ∙ ap (λ (x : Reception). verdict_of (decided x event.Finish).1 received drawn) at ∙
      ap (λ (r : Release). verdict_of r received drawn) (moves_none (start m) words none)

  whole_verdict : (s : Reception) (nonce : List ℕ) (words : List Heard) (received drawn : List ℕ) (v : Verdict) →
      s ≡ moves (start (begin nonce)) words → v ≡ verdict_of (decided s event.Finish).1 received drawn → v ≡ verdict_of HandOut received drawn
  whole_verdict s nonce words received drawn v at is =
      is ∙ ap (λ (x : Reception). verdict_of (decided x event.Finish).1 received drawn) (at ∙ moves_whole words)

  judged_at : (s : ReceiverState) (m : Mark) (ws : List Heard) (received : List ℕ) (v : Verdict) → Present f A s (record { mark = m; words = ws }) →
      v ≡ verdict_of (decided s.reception event.Finish).1 received (tag f s.registers) → Judged f A (record { mark = m; words = ws }) received v
  unfolding message_tag opened_message
  judged_at s new ws received v p is =
      judged_lost (record { mark = new; words = ws }) received v
      (lost_verdict s.reception new ws received (tag f s.registers) v p.4 refl is) (λ n e. cc)
  judged_at s (begin nonce) ws received v p is =
      judged_whole ws nonce received (tag f s.registers) v
      (whole_verdict s.reception nonce ws received (tag f s.registers) v p.4 is)
      (ap (tag f)
      (p.5 ∙ ap (λ (g : BothRegisters). all_received f A g (map heard_wire ws)) p.2.0 ∙
      all_received_taken f A (begun f A nonce) (map heard_wire ws)))
  judged_at s break ws received v p is =
      judged_lost (record { mark = break; words = ws }) received v
      (lost_verdict s.reception break ws received (tag f s.registers) v p.4 refl is) (λ n e. cc)
  judged_at s finish ws received v p is =
      judged_lost (record { mark = finish; words = ws }) received v
      (lost_verdict s.reception finish ws received (tag f s.registers) v p.4 refl is) (λ n e. cc)

  pub judged : (s : ReceiverState) (st : Stretch) (received : List ℕ) (v : Verdict) → Present f A s st →
      v ≡ verdict_of (decided s.reception event.Finish).1 received (tag f s.registers) → Judged f A st received v
  judged s st received v p is = judged_at s st.mark st.words received v p is
