-- The link's sealer and receiver on a whole message.
use Rattle.std.proofs.Common.{◌≡◌, ℕ, suc, ◌+◌, ◌%◌, ◌≤◌, ◌<◌, Bool, true, false, cond, List, [], ◌∷◌, ◌++◌, fold, length, map, zip, take, Vec, vec_items, refl, sym, ap, ◌∙◌, arith, None, ◌≢◌, Ok, Err}
use Rattle.std.specs.Str.{bytes_eq}
use Rattle.std.specs.declared.alloc.Global.{Global}
use Rattle.std.proofs.lemmas.Slice.Eq.{bytes_eq-Decides}
use Rattle.std.proofs.lemmas.List.{append-nil, append_assoc}
use Rattle.std.proofs.lemmas.List.Elements.{filter_map-append}
use Rattle.std.specs.List.{filter_map}
use Rattle.std.specs.List.{AllByRecursion as Every}
use Rattle.sss.specs.Bytes.{Octets, bytes_of_words}
use Rattle.sss.proofs.Bytes.{respelled}
use Rattle.sss.specs.Cipher.{OneToOne, BothRegisters, Word, all_taken, begun, message_tag, opened_message, sealed_message, plain_word, plain_words, tag as tag_of, taken, wire_word, wire_words, words_of, nonce_fits}
use Rattle.sss.specs.Directions.{text_of}
use Rattle.sss.specs.declared.message.MaskedWord.{MaskedWord}
use Rattle.link.specs.Ends.{Ends, ReceiverState, SealerState, in_message, made, one_call, ready, receiver_made, sealer_made}
use Rattle.link.specs.Issuing.{nonce_bytes}
use Rattle.link.specs.OneEnd.{receiver_call, receiver_entry, sealer_call, sealer_entry}
use Rattle.message.specs.Checks.{open_fault}
use Rattle.link.specs.declared.issuer.Nonce.{Nonce}
use Rattle.link.specs.declared.call.Call.{Call}
use Rattle.link.specs.declared.call.Call.TheVariants.{OnSealer, OnReceiver}
use Rattle.link.specs.declared.call.Entry.{Entry}
use Rattle.link.specs.declared.call.SealerCall.{SealerCall}
use Rattle.link.specs.declared.call.SealerCall.TheVariants as on_sealer
use Rattle.link.specs.declared.call.SealerEntry.{SealerEntry}
use Rattle.link.specs.declared.call.SealerEntry.TheVariants as sealer
use Rattle.link.specs.declared.call.ReceiverCall.{ReceiverCall}
use Rattle.link.specs.declared.call.ReceiverCall.TheVariants as on_receiver
use Rattle.link.specs.declared.call.ReceiverEntry.{ReceiverEntry}
use Rattle.link.specs.declared.call.ReceiverEntry.TheVariants as receiver
use Rattle.link.specs.declared.reception.Answer.TheVariants.{Reading}
use Rattle.link.specs.declared.reception.Reception.TheVariants.{Whole}
use Rattle.link.specs.declared.reception.Verdict.TheVariants.{Agrees, Differs}
use Rattle.sss.specs.declared.fault.Fault.TheVariants.{Nonce as UnfitNonce, TagDiffers}
use Rattle.link.proofs.Calls.{bytes_fit, word_sealed}
use Rattle.link.proofs.Received.{every_text, Sized, WireWord, begun_sized}
use Rattle.link.proofs.Sealing.{nonce_below}
use Rattle.message.specs.Buffers.{due_tag, plain_bytes, sealed_tag, wire_bytes, words_under}
use Rattle.message.specs.Laws.{LikeReceiver, LikeSealer, OpenLaws, ReceiverAdds, receiver_calls, receiver_entries, sealer_calls, sealer_entries}
use Rattle.message.specs.Outcomes.{CallAnswer, OpenOutcome, left_by_open, left_by_seal, open_outcome, seal_outcome}
use Rattle.message.proofs.Buffers.{length-words_under}
use Rattle.message.proofs.Checked.{lengths_fit, nonce_held, not_same}
use Rattle.message.proofs.Messages.{all_taken_sized, plains_fit, tag_words, wires_fit, words_again, words_under_fit}
use Rattle.message.proofs.Returned.{back_again, front_is, length-plain_bytes, length-wire_bytes, opening_well, refused_tag, seal_told, well_exactly}

-- One end by itself, with its entries.
abbrev sealer_step : (f A : ℕ → ℕ) → SealerState × List SealerEntry → SealerCall Nonce → SealerState × List SealerEntry
sealer_step f A s x = let o = sealer_made f A s.0 x in (o.0, s.1 ++ o.1 ∷ [])

abbrev receiver_step : (f A : ℕ → ℕ) → ReceiverState × List ReceiverEntry → ReceiverCall → ReceiverState × List ReceiverEntry
receiver_step f A s x = let o = receiver_made f A s.0 x in (o.0, s.1 ++ o.1 ∷ [])

-- What a log has of each word, sealed and received.
abbrev sealed_entries : List MaskedWord → List ℕ → List SealerEntry
sealed_entries ws wires = map (λ x. sealer.Sealed x.0.mask x.0.text x.1) (zip ws wires)

abbrev received_entries : List MaskedWord → List ℕ → List ReceiverEntry
received_entries ws plains = map (λ x. receiver.Received x.0.mask x.0.text (Reading x.1)) (zip ws plains)

module _ (f A f' A' : ℕ → ℕ) where
  -- In a run, either end does what it does by itself.
  sealer_alone : (h : Ends × List Entry) (calls : List Call) →
      filter_map sealer_entry (fold (one_call f A f' A') h calls).1 ≡ (fold (sealer_step f A) (h.0.sealer, filter_map sealer_entry h.1) (filter_map sealer_call calls)).1
  unfolding made
  sealer_alone h [] = refl
  sealer_alone h (OnSealer x ∷ calls) = let t = sealer_alone (one_call f A f' A' h (OnSealer x)) calls in simp (filter_map-append) at t
  sealer_alone h (OnReceiver x ∷ calls) = let t = sealer_alone (one_call f A f' A' h (OnReceiver x)) calls in simp (filter_map-append, append-nil) at t

  receiver_alone : (h : Ends × List Entry) (calls : List Call) →
      filter_map receiver_entry (fold (one_call f A f' A') h calls).1 ≡ (fold (receiver_step f' A') (h.0.receiver, filter_map receiver_entry h.1) (filter_map receiver_call calls)).1
  unfolding made
  receiver_alone h [] = refl
  receiver_alone h (OnSealer x ∷ calls) = let t = receiver_alone (one_call f A f' A' h (OnSealer x)) calls in simp (filter_map-append, append-nil) at t
  receiver_alone h (OnReceiver x ∷ calls) = let t = receiver_alone (one_call f A f' A' h (OnReceiver x)) calls in simp (filter_map-append) at t

module _ (f A : ℕ → ℕ) where
  -- The words of a message, sealed one after another.
  words_sealed : (k : ℕ) (g : BothRegisters) (es : List SealerEntry) (ws : List MaskedWord) (rest : List (SealerCall Nonce)) → k + length ws ≤ 65536 →
      fold (sealer_step f A) (in_message k g, es) (map (λ w. on_sealer.Word w.mask w.text) ws ++ rest) ≡
      fold (sealer_step f A) (in_message (k + length ws) (all_taken f A g ws), es ++ sealed_entries ws (map text_of (wire_words f A g ws))) rest
  unfolding all_taken wire_words
  words_sealed k g es [] rest few =
      let same : k ≡ k + 0 = omega arith in
      (λ j. fold (sealer_step f A) (in_message (same j) g, sym (append-nil es) j) rest)
  words_sealed k g es (w ∷ ws) rest few =
      let g' : BothRegisters = taken f A g w.mask w.text in
      let wire : ℕ = wire_word f g w.mask w.text in
      let e : SealerEntry = sealer.Sealed w.mask w.text wire in
      let made : (in_message (k + 1) g', e) ≡ sealer_made f A (in_message k g) (on_sealer.Word w.mask w.text) =
      word_sealed f A k (k + 1) g g' w.mask w.text wire (omega arith) refl refl refl in
      let count : k + 1 + length ws ≡ k + suc (length ws) = omega arith in
      sym (ap (λ (o : SealerState × SealerEntry). fold (sealer_step f A) (o.0, es ++ o.1 ∷ []) (map (λ w. on_sealer.Word w.mask w.text) ws ++ rest)) made) ∙
      words_sealed (k + 1) g' (es ++ e ∷ []) ws rest (omega arith) ∙
      (λ j. fold (sealer_step f A) (in_message (count j) (all_taken f A g' ws), append_assoc es (e ∷ []) (sealed_entries ws (map text_of (wire_words f A g' ws))) j) rest)

  -- The words of a message, taken by a whole receiver one after another.
  words_taken : (g : BothRegisters) (es : List ReceiverEntry) (ms : List MaskedWord) (rest : List ReceiverCall) →
      fold (receiver_step f A) (record { reception = Whole; registers = g }, es) (map (λ w. on_receiver.Word w.mask w.text) ms ++ rest) ≡
      fold (receiver_step f A) (record { reception = Whole; registers = all_taken f A g (plain_words f A g ms) }, es ++ received_entries ms (map text_of (plain_words f A g ms))) rest
  unfolding all_taken plain_words receiver_made
  words_taken g es [] rest = (λ j. fold (receiver_step f A) (record { reception = Whole; registers = g }, sym (append-nil es) j) rest)
  words_taken g es (m ∷ ms) rest =
      let p : ℕ = plain_word f g m.mask m.text in
      let g' : BothRegisters = taken f A g m.mask p in
      let e : ReceiverEntry = receiver.Received m.mask m.text (Reading p) in
      words_taken g' (es ++ e ∷ []) ms rest ∙
      (λ j.
      fold (receiver_step f A)
      (record { reception = Whole; registers = all_taken f A g' (plain_words f A g' ms) }, append_assoc es (e ∷ []) (received_entries ms (map text_of (plain_words f A g' ms))) j)
      rest)

  -- What a ready sealer notes of a whole message.
  sealer_notes : (g₀ : BothRegisters) (es : List SealerEntry) (n : Nonce) (ws : List MaskedWord) → length ws ≤ 65536 →
      let g : BothRegisters = begun f A (nonce_bytes n) in
      (fold (sealer_step f A) (ready g₀, es) (sealer_calls n ws)).1 ≡ es ++ sealer_entries (nonce_bytes n) ws (map text_of (wire_words f A g ws)) (tag_of f (all_taken f A g ws))
  unfolding sealer_made
  sealer_notes g₀ es n ws few =
      let g : BothRegisters = begun f A (nonce_bytes n) in
      let b : List SealerEntry = sealer.Begun (nonce_bytes n) ∷ [] in
      let ws' : List SealerEntry = sealed_entries ws (map text_of (wire_words f A g ws)) in
      let t : List SealerEntry = sealer.Finished (tag_of f (all_taken f A g ws)) ∷ [] in
      ap (λ (s : SealerState × List SealerEntry). s.1) (words_sealed 0 g (es ++ b) ws (on_sealer.Finish ∷ []) (omega (arith, few))) ∙
      append_assoc (es ++ b) ws' t ∙ append_assoc es b (ws' ++ t)

  -- What a receiver notes of one.
  receiver_notes : (s₀ : ReceiverState) (es : List ReceiverEntry) (v : Vec ℕ Global) (ms : List MaskedWord) (t : List ℕ) → nonce_fits (vec_items v) ≡ true →
      let g : BothRegisters = begun f A (vec_items v) in
      let ps : List MaskedWord = plain_words f A g ms in
      (fold (receiver_step f A) (s₀, es) (receiver_calls v ms t)).1 ≡
      es ++ receiver_entries v ms (map text_of ps) t (cond (bytes_eq t (tag_of f (all_taken f A g ps))) Agrees Differs)
  unfolding receiver_made
  receiver_notes s₀ es v ms t fits =
      let g : BothRegisters = begun f A (vec_items v) in
      let ps : List MaskedWord = plain_words f A g ms in
      let b : List ReceiverEntry = receiver.Begun v ∷ [] in
      let ms' : List ReceiverEntry = received_entries ms (map text_of ps) in
      let e : List ReceiverEntry = receiver.Finished t (cond (bytes_eq t (tag_of f (all_taken f A g ps))) Agrees Differs) ∷ [] in
      ap (λ (c : Bool).
      let o = cond {A = ReceiverState × ReceiverEntry} c (record { reception = Whole; registers = g }, receiver.Begun v) (s₀, receiver.Refused v UnfitNonce) in
      (fold (receiver_step f A) (o.0, es ++ o.1 ∷ []) (map (λ w. on_receiver.Word w.mask w.text) ms ++ on_receiver.Finish t ∷ [])).1) fits ∙
      ap (λ (s : ReceiverState × List ReceiverEntry). s.1) (words_taken g (es ++ b) ms (on_receiver.Finish t ∷ [])) ∙
      append_assoc (es ++ b) ms' e ∙ append_assoc es b (ms' ++ e)

module _ (f A : ℕ → ℕ) (onef : OneToOne f) (oneA : OneToOne A) where
  -- What seal makes is what the link's sealer makes.
  pub like_sealer : (n : Nonce) (masks input output tag : List ℕ) (answer : CallAnswer) (output' tag' : List ℕ) → Octets input →
      left_by_seal answer output' tag' ≡ seal_outcome f A (nonce_bytes n) masks input output tag →
      LikeSealer f A n masks input answer output' tag'
  unfolding wire_bytes sealed_tag sealed_message message_tag
  like_sealer n masks input output tag answer output' tag' octets so well g B h registers stands calls called =
      let nonce : List ℕ = nonce_bytes n in
      let ws : List MaskedWord = words_under masks input in
      let told = seal_told f A nonce masks input output tag output' tag' ((λ j. left_by_seal (sym well j) output' tag') ∙ so) in
      let fits = lengths_fit masks input output tag told.0 in
      let start : Sized (begun f A nonce) = begun_sized f A onef oneA nonce (nonce_below n) in
      let words = words_under_fit masks input octets in
      let front = front_is (wire_bytes f A nonce masks input) output (length input) (length-wire_bytes f A onef oneA nonce masks input (nonce_below n) octets fits.mask_each fits.even) in
      let wires : map text_of (wire_words f A (begun f A nonce) ws) ≡ words_of (take (length input) output') =
      sym (ap words_of (ap (take (length input)) told.1 ∙ front) ∙ words_again _ (wires_fit f A onef oneA (begun f A nonce) ws start words)) in
      let drawn : message_tag f A nonce ws ≡ words_of tag' =
      sym (ap words_of told.2 ∙ words_again _ (tag_words f onef _ (all_taken_sized f A onef oneA (begun f A nonce) ws start words))) in
      let count = length-words_under masks input fits.mask_each in
      let es : List SealerEntry = filter_map sealer_entry h.1 in
      sealer_alone f A g B h calls ∙
      (λ j. (fold (sealer_step f A) (stands j, es) (called j)).1) ∙
      sealer_notes f A registers es n ws (omega (arith, count, fits.most)) ∙
      (λ j. es ++ sealer_entries nonce ws (wires j) (drawn j))

  -- What open answers is what the link's receiver answers.
  pub like_receiver : (nonce masks input output tag : List ℕ) (answer : CallAnswer) (output' : List ℕ) → Every (λ b. b < 256) nonce → Octets input → Octets tag →
      left_by_open answer output' ≡ open_outcome f A nonce masks input output tag → LikeReceiver f A nonce masks input tag answer output'
  unfolding plain_bytes opened_message due_tag message_tag
  like_receiver nonce masks input output tag answer output' below octets tag-octets so g B h v is calls called = (well, ill)
    where
      ms : List MaskedWord
      ms = words_under masks input

      ps : List MaskedWord
      ps = plain_words f A (begun f A nonce) ms

      due : List ℕ
      due = tag_of f (all_taken f A (begun f A nonce) ps)

      es : List ReceiverEntry
      es = filter_map receiver_entry h.1

      noted : open_fault nonce masks input output tag ≡ None →
          ReceiverAdds g B f A h calls (receiver_entries v ms (map text_of ps) (words_of tag) (cond (bytes_eq (words_of tag) due) Agrees Differs))
      noted none =
          receiver_alone g B f A h calls ∙
          (λ j. (fold (receiver_step f A) (h.0.receiver, es) (called j)).1) ∙
          receiver_notes f A h.0.receiver es v ms (words_of tag) (ap nonce_fits is ∙ (nonce_held nonce masks input output tag none).0) ∙
          (λ j.
          es ++ receiver_entries v ms (map text_of (plain_words f A (begun f A (is j)) ms)) (words_of tag)
          (cond (bytes_eq (words_of tag) (tag_of f (all_taken f A (begun f A (is j)) (plain_words f A (begun f A (is j)) ms)))) Agrees Differs))

      -- The words that are handed out, and the tag that is due, as words.
      words : open_fault nonce masks input output tag ≡ None → Every WireWord ps
      words none = plains_fit f A onef oneA (begun f A nonce) ms (begun_sized f A onef oneA nonce below) (words_under_fit masks input octets)

      due-words : open_fault nonce masks input output tag ≡ None → Every Word due
      due-words none =
          tag_words f onef (all_taken f A (begun f A nonce) ps)
          (all_taken_sized f A onef oneA (begun f A nonce) ps (begun_sized f A onef oneA nonce below) (words none))

      plains : open_fault nonce masks input output tag ≡ None → map text_of ps ≡ words_of (plain_bytes f A nonce masks input)
      plains none = sym (words_again (map text_of ps) (every_text ps (words none)))

      agrees : open_fault nonce masks input output tag ≡ None → tag ≡ due_tag f A nonce masks input → bytes_eq (words_of tag) due ≡ true
      agrees none same = (bytes_eq-Decides (words_of tag) due).1 (ap words_of same ∙ words_again due (due-words none))

      differs : open_fault nonce masks input output tag ≡ None → tag ≢ due_tag f A nonce masks input → bytes_eq (words_of tag) due ≡ false
      differs none other =
          let fits = lengths_fit masks input output tag (nonce_held nonce masks input output tag none).1 in
          let again : bytes_of_words (words_of tag) ≡ tag = respelled tag tag-octets (ap (λ (k : ℕ). k % 2) fits.sixteen) in
          not_same (words_of tag) due (λ equal. other (sym again ∙ ap bytes_of_words equal))

      well : answer ≡ Ok tt → ReceiverAdds g B f A h calls (receiver_entries v ms (words_of (take (length input) output')) (words_of tag) Agrees)
      well good =
          let p = (well_exactly f A nonce masks input output tag answer output' so).0 good in
          let fits = lengths_fit masks input output tag (nonce_held nonce masks input output tag p.0).1 in
          let front : take (length input) output' ≡ plain_bytes f A nonce masks input =
          ap (λ (r : OpenOutcome). take (length input) r.output) (so ∙ opening_well f A nonce masks input output tag p.0 p.1) ∙
          front_is (plain_bytes f A nonce masks input) output (length input) (length-plain_bytes f A nonce masks input fits.mask_each fits.even) in
          noted p.0 ∙
          (λ j. es ++ receiver_entries v ms ((plains p.0 ∙ ap words_of (sym front)) j) (words_of tag) (cond (agrees p.0 p.1 j) Agrees Differs))

      ill : answer ≡ Err TagDiffers → ReceiverAdds g B f A h calls (receiver_entries v ms (words_of (plain_bytes f A nonce masks input)) (words_of tag) Differs)
      ill bad =
          let p = refused_tag f A nonce masks input output tag answer output' so bad in
          noted p.0 ∙ (λ j. es ++ receiver_entries v ms (plains p.0 j) (words_of tag) (cond (differs p.0 p.1 j) Agrees Differs))

  -- All that is promised of open in these terms.
  pub open_laws : (nonce masks input output tag : List ℕ) (answer : CallAnswer) (output' : List ℕ) → Octets nonce → Octets input → Octets tag →
      left_by_open answer output' ≡ open_outcome f A nonce masks input output tag →
      OpenLaws f A nonce masks input output tag answer output'
  open_laws nonce masks input output tag answer output' below octets tag-octets so =
      record {
        back = back_again f A onef oneA nonce masks input output tag answer output' (bytes_fit nonce below) so;
        exactly = well_exactly f A nonce masks input output tag answer output' so;
        like_receiver = like_receiver nonce masks input output tag answer output' (bytes_fit nonce below) octets tag-octets so;
      }
