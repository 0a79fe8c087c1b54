-- What holds of the sealer is kept by each call, and what the words that it sealed do to the registers.
use Rattle.std.proofs.Common.{◌≡◌, ℕ, zero, suc, ◌+◌, ◌/◌, ◌<◌, ltb, List, [], ◌∷◌, ◌++◌, map, sym, refl, ap, ◌∙◌, subst, arith}
use Rattle.std.specs.List.{AllByRecursion as Every}
use Rattle.std.proofs.lemmas.List.{map_push}
use Rattle.std.proofs.lemmas.Bool.{cond_both}
use Rattle.sss.specs.Cipher.{BothRegisters, Word, OneToOne, taken, wire_word, all_taken, wire_words}
use Rattle.sss.specs.declared.Fault.TheVariants.{Full}
use Rattle.sss.specs.Bytes.{low_bytes}
use Rattle.link.specs.Sealing.{longest_message}
use Rattle.link.specs.Issuing.{nonce_bytes}
use Rattle.link.specs.Ends.{SealerState, ready, in_message, sealer_made, SealerCallFits}
use Rattle.link.specs.Log.{Sent, Message, sent_too, message_noted, Since, one_more, sent_noted, plain_of, wire_of, start_of}
use Rattle.link.specs.declared.issuer.Nonce.{Nonce}
use Rattle.link.specs.declared.call.SealerCall.{SealerCall}
use Rattle.link.specs.declared.call.SealerCall.TheVariants.{Begin, Word as Seal, Finish, Abandon}
use Rattle.link.specs.declared.call.SealerEntry.{SealerEntry}
use Rattle.link.specs.declared.call.SealerEntry.TheVariants as sealer
use Rattle.link.proofs.Every.{every_joined}
use Rattle.link.proofs.Received.{received, all_received, received_wire, all_received_push, taken_sized, wire_is_word, zeroed_sized, begun_sized}
use Rattle.link.proofs.Invariants.{Bytes, SealedFrom, SealedMessage, SealerGood}

-- The bytes of a nonce are bytes.
low_bytes_below : (n x : ℕ) → Bytes (low_bytes n x)
low_bytes_below zero x = tt
low_bytes_below (suc n) x = (omega arith, low_bytes_below n (x / 256))

pub nonce_below : (n : Nonce) → Bytes (nonce_bytes n)
unfolding nonce_bytes
nonce_below n =
    every_joined (λ b. b < 256) (low_bytes 4 n.run) (low_bytes 2 n.message) (low_bytes_below 4 n.run) (low_bytes_below 2 n.message)

module _ (f A : ℕ → ℕ) where
  -- A sealed word takes both registers where its wire word takes them.
  word_taken : (g : BothRegisters) (w : Sent) → w.wire ≡ wire_word f g w.mask w.plain →
      taken f A g w.mask w.plain ≡ received f A g w.mask w.wire
  word_taken g w e = sym (received_wire f A g w.mask w.plain) ∙ ap (received f A g w.mask) (sym e)

  -- The plaintext words and the wire words of sealed words lead to the same registers.
  pub sealed_taken : (g : BothRegisters) (ws : List Sent) → SealedFrom f A g ws →
      all_taken f A g (map plain_of ws) ≡ all_received f A g (map wire_of ws)
  unfolding all_taken all_received
  sealed_taken g [] s = refl
  sealed_taken g (w ∷ ws) s =
      ap (λ (h : BothRegisters). all_taken f A h (map plain_of ws)) (word_taken g w s.0) ∙
      sealed_taken (received f A g w.mask w.wire) ws s.2

  -- The wire words that the published cipher gives for sealed words are those that were sent.
  pub sealed_wires : (g : BothRegisters) (ws : List Sent) → SealedFrom f A g ws → wire_words f A g (map plain_of ws) ≡ map wire_of ws
  unfolding wire_words
  sealed_wires g [] s = refl
  sealed_wires g (w ∷ ws) s =
      let here : wire_word f g w.mask w.plain ≡ w.wire = sym s.0 in
      let rest : wire_words f A (taken f A g w.mask w.plain) (map plain_of ws) ≡ map wire_of ws =
      ap (λ (h : BothRegisters). wire_words f A h (map plain_of ws)) (word_taken g w s.0) ∙
      sealed_wires (received f A g w.mask w.wire) ws s.2 in
      λ i. record { mask = w.mask; text = here i } ∷ rest i

  -- One more sealed word.
  sealed_push : (g : BothRegisters) (ws : List Sent) (w : Sent) → SealedFrom f A g ws →
      w.wire ≡ wire_word f (all_received f A g (map wire_of ws)) w.mask w.plain → Word w.wire → SealedFrom f A g (ws ++ w ∷ [])
  unfolding all_received
  sealed_push g [] w s e fits = (e, fits, tt)
  sealed_push g (u ∷ us) w s e fits = (s.0, s.1, sealed_push (received f A g u.mask u.wire) us w s.2 e fits)

module _ (f A : ℕ → ℕ) (onef : OneToOne f) (oneA : OneToOne A) where
  -- A word of the open message: it is sealed from where the words since the latest reset led, and these are the message's.
  word_keeps : (n : ℕ) (g : BothRegisters) (ms : List Message) (since : Since Sent) (mask p : ℕ) → Word p → SealerGood f A (in_message n g) ms since →
      (let w : Sent = record { mask = mask; plain = p; wire = wire_word f g mask p } in
      SealerGood f A (in_message (n + 1) (taken f A g mask p)) (sent_too w ms) (one_more since w))
  word_keeps n g ms since mask p fits h =
      let w : Sent = record { mask = mask; plain = p; wire = wire_word f g mask p } in
      let from : BothRegisters = start_of f A since.start in
      let m : Message = h.is_open.0 in
      let sealed_too : SealedFrom f A from (since.words ++ w ∷ []) =
      sealed_push f A from since.words w h.since_sealed (ap (λ (x : BothRegisters). wire_word f x mask p) h.reached)
      (wire_is_word f A onef oneA g mask p h.sized fits) in
      let before : Every (SealedMessage f A) (m ∷ h.is_open.1) = subst (Every (SealedMessage f A)) h.is_open.2 h.sealed in
      record {
        sized = taken_sized f A onef oneA g mask p h.sized fits;
        sealed =
            subst (λ (l : List Message). Every (SealedMessage f A) (sent_too w l)) (sym h.is_open.2) (
              (
                before.0.0,
                subst (λ (s : Since Sent). SealedFrom f A (start_of f A s.start) (s.words ++ w ∷ [])) h.is_open.3 sealed_too,
              ),
              before.1,
            );
        start_fits = h.start_fits;
        since_sealed = sealed_too;
        reached =
            word_taken f A g w refl ∙ ap (λ (x : BothRegisters). received f A x mask w.wire) h.reached ∙
            sym (all_received_push f A from (map wire_of since.words) (wire_of w)) ∙
            sym (ap (all_received f A from) (map_push wire_of since.words w));
        is_open = (
          record { nonce = m.nonce; words = m.words ++ w ∷ [] },
          h.is_open.1,
          ap (sent_too w) h.is_open.2,
          ap (λ (s : Since Sent). one_more s w) h.is_open.3,
        );
      }

  -- What holds of the sealer holds after each call on it.
  pub sealer_keeps : (s : SealerState) (ms : List Message) (since : Since Sent) (x : SealerCall Nonce) → SealerCallFits x → SealerGood f A s ms since →
      (let o = sealer_made f A s x in SealerGood f A o.0 (message_noted o.1 ms) (sent_noted since o.1))
  unfolding sealer_made all_received
  sealer_keeps (ready g) ms since (Begin n) fits h =
      let below : Bytes (nonce_bytes n) = nonce_below n in
      record {
        sized = begun_sized f A onef oneA (nonce_bytes n) below;
        sealed = ((below, tt), h.sealed);
        start_fits = below;
        since_sealed = tt;
        reached = refl;
        is_open = (record { nonce = nonce_bytes n; words = [] }, ms, refl, refl);
      }
  sealer_keeps (ready g) ms since (Seal mask p) fits h = h
  sealer_keeps (ready g) ms since Finish fits h = h
  sealer_keeps (ready g) ms since Abandon fits h = h
  sealer_keeps (in_message n g) ms since (Begin k) fits h = h
  sealer_keeps (in_message n g) ms since (Seal mask p) fits h =
      cond_both (ltb n longest_message) (in_message (n + 1) (taken f A g mask p), sealer.Sealed mask p (wire_word f g mask p))
      (in_message n g, sealer.Refused mask p Full)
      (λ (o : SealerState × SealerEntry). SealerGood f A o.0 (message_noted o.1 ms) (sent_noted since o.1))
      (λ e. word_keeps n g ms since mask p fits h) (λ e. h)
  sealer_keeps (in_message n g) ms since Finish fits h =
      record { sized = zeroed_sized; sealed = h.sealed; start_fits = tt; since_sealed = tt; reached = refl; is_open = tt }
  sealer_keeps (in_message n g) ms since Abandon fits h =
      record { sized = zeroed_sized; sealed = h.sealed; start_fits = tt; since_sealed = tt; reached = refl; is_open = tt }
