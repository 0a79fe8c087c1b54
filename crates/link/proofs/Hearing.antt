-- What holds of the receiver is kept by each call.
use Rattle.std.proofs.Common.{◌≡◌, ℕ, List, [], ◌∷◌, ◌++◌, map, vec_items, sym, refl, ap, ◌∙◌, subst}
use Rattle.std.specs.List.{AllByRecursion as Every}
use Rattle.std.proofs.lemmas.List.{map_push}
use Rattle.std.proofs.lemmas.Bool.{cond_both}
use Rattle.sss.specs.Cipher.{BothRegisters, Word, OneToOne, begun, zeroed, nonce_fits}
use Rattle.sss.specs.declared.Fault.TheVariants.{Nonce}
use Rattle.link.specs.Ends.{ReceiverState, receiver_made, ReceiverCallFits}
use Rattle.link.specs.Log.{Mark, begin, break, finish, Heard, Stretch, heard_too, marked, stretch_noted, Since, heard_noted, heard_wire, start_of}
use Rattle.link.specs.declared.call.ReceiverCall.{ReceiverCall}
use Rattle.link.specs.declared.call.ReceiverCall.TheVariants.{Begin as Hear, Word as Take, Break, Finish as End}
use Rattle.link.specs.declared.call.ReceiverEntry.{ReceiverEntry}
use Rattle.link.specs.declared.call.ReceiverEntry.TheVariants as receiver
use Rattle.link.specs.declared.reception.Reception.{Reception}
use Rattle.link.specs.declared.reception.Reception.TheVariants.{Whole, Lost}
use Rattle.link.proofs.Every.{every_push}
use Rattle.link.proofs.Received.{Sized, WireWord, received, all_received, all_received_push, received_sized, zeroed_sized, begun_sized}
use Rattle.link.proofs.Invariants.{moved, told, start, moves, Starts, Follows, Past, AllStretches, ReceiverGood}

module _ (f A : ℕ → ℕ) where
  -- The present stretch and those that are over.
  pub all_past : (s : ReceiverState) (ss : List Stretch) → AllStretches f A s ss → Every (Past f A) ss
  all_past s [] h = absurd h
  all_past s (st ∷ ss) h = ((h.0.0, h.0.1, h.0.2, h.0.3), h.1)

  -- One more word of a stretch.
  follows_push : (s : Reception) (g : BothRegisters) (ws : List Heard) (w : Heard) → Follows f A s g ws →
      w.answer ≡ told f (moves s ws) (all_received f A g (map heard_wire ws)) w.mask w.wire → Word w.wire →
      Follows f A s g (ws ++ w ∷ [])
  unfolding all_received
  follows_push s g [] w h e fits = (e, fits, tt)
  follows_push s g (u ∷ us) w h e fits =
      (h.0, h.1, follows_push (moved s u.mask) (received f A g u.mask u.wire) us w h.2 e fits)

  moves_push : (s : Reception) (ws : List Heard) (w : Heard) → moves s (ws ++ w ∷ []) ≡ moved (moves s ws) w.mask
  moves_push s [] w = refl
  moves_push s (u ∷ us) w = moves_push (moved s u.mask) us w

  -- One more word, read off the registers that some words led to.
  reached_push : (g h : BothRegisters) (ws : List Heard) (w : Heard) → g ≡ all_received f A h (map heard_wire ws) →
      received f A g w.mask w.wire ≡ all_received f A h (map heard_wire (ws ++ w ∷ []))
  reached_push g h ws w e =
      ap (λ (x : BothRegisters). received f A x w.mask w.wire) e ∙ sym (all_received_push f A h (map heard_wire ws) (heard_wire w)) ∙
      sym (ap (all_received f A h) (map_push heard_wire ws w))

  -- A new mark.
  mark_noted : (s s' : ReceiverState) (m : Mark) (ss : List Stretch) → Sized s'.registers → Starts f A m s'.registers →
      s'.reception ≡ start m → AllStretches f A s ss → AllStretches f A s' (marked m ss)
  unfolding all_received
  mark_noted s s' m ss k t e h = ((s'.registers, k, t, tt, e, refl), all_past s ss h)

  -- One more word of the present stretch.
  word_noted : (s : ReceiverState) (ss : List Stretch) (w : Heard) → Word w.wire →
      w.answer ≡ told f s.reception s.registers w.mask w.wire → AllStretches f A s ss →
      AllStretches f A
      (record { reception = moved s.reception w.mask; registers = received f A s.registers w.mask w.wire }) (heard_too w ss)
  word_noted s [] w fits e h = h
  word_noted s (st ∷ ss) w fits e h =
      let p = h.0 in
      let from : Reception = start st.mark in (
        (
          p.0,
          p.1,
          p.2,
          follows_push from p.0 st.words w p.3
              (e ∙ ap (λ (x : Reception). told f x s.registers w.mask w.wire) p.4 ∙
              ap (λ (x : BothRegisters). told f (moves from st.words) x w.mask w.wire) p.5) fits,
          ap (λ (x : Reception). moved x w.mask) p.4 ∙ sym (moves_push from st.words w),
          reached_push s.registers p.0 st.words w p.5,
        ),
        h.1,
      )

module _ (f A : ℕ → ℕ) (onef : OneToOne f) (oneA : OneToOne A) where
  -- What holds of the receiver holds after each call on it.
  pub receiver_keeps : (s : ReceiverState) (ss : List Stretch) (since : Since Heard) (x : ReceiverCall) → ReceiverCallFits x →
      ReceiverGood f A s ss since →
      (let o = receiver_made f A s x in ReceiverGood f A o.0 (stretch_noted o.1 ss) (heard_noted since o.1))
  unfolding receiver_made received all_received
  receiver_keeps s ss since (Hear nonce) fits h =
      let g : BothRegisters = begun f A (vec_items nonce) in
      let s' : ReceiverState = record { reception = Whole; registers = g } in
      let k : Sized g = begun_sized f A onef oneA (vec_items nonce) fits in
      cond_both (nonce_fits (vec_items nonce)) (s', receiver.Begun nonce) (s, receiver.Refused nonce Nonce)
      (λ (o : ReceiverState × ReceiverEntry). ReceiverGood f A o.0 (stretch_noted o.1 ss) (heard_noted since o.1))
      (λ e.
      record {
        sized = k;
        followed = mark_noted f A s s' (begin (vec_items nonce)) ss k (refl, fits) refl h.followed;
        start_fits = fits;
        words_fit = tt;
        reached = refl;
      })
      (λ e. h)
  receiver_keeps s ss since (Take mask m) fits h =
      let w : Heard = record { mask = mask; wire = m; answer = told f s.reception s.registers mask m } in
      record {
        sized = received_sized f A onef oneA s.registers mask m h.sized fits;
        followed = word_noted f A s ss w fits refl h.followed;
        start_fits = h.start_fits;
        words_fit =
            subst (Every WireWord) (sym (map_push heard_wire since.words w))
            (every_push WireWord (map heard_wire since.words) (heard_wire w) h.words_fit fits);
        reached = reached_push f A s.registers (start_of f A since.start) since.words w h.reached;
      }
  receiver_keeps s ss since Break fits h =
      record {
        sized = h.sized;
        followed = mark_noted f A s (record { reception = Lost 0; registers = s.registers }) break ss h.sized tt refl h.followed;
        start_fits = h.start_fits;
        words_fit = h.words_fit;
        reached = h.reached;
      }
  receiver_keeps s ss since (End t) fits h =
      let s' : ReceiverState = record { reception = Lost 0; registers = zeroed } in
      record {
        sized = zeroed_sized;
        followed = mark_noted f A s s' finish ss zeroed_sized tt refl h.followed;
        start_fits = tt;
        words_fit = tt;
        reached = refl;
      }
