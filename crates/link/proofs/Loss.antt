-- The law of a loss.
use Rattle.std.proofs.Common.{◌≡◌, ◌↔◌, ℕ, ◌+◌, ltb, List, [], ◌∷◌, ◌++◌, map, Some, None, vec_items, Option, sym, refl, ap, ◌∙◌, subst}
use Rattle.std.specs.List.{AllByRecursion as Every}
use Rattle.std.proofs.lemmas.Bool.{cond_both}
use Rattle.sss.specs.Cipher.{BothRegisters, OneToOne, begun, plain_word, tag, taken, wire_word, drawn_from, sealed_message, opened_message, message_tag, nonce_fits}
use Rattle.link.specs.Sealing.{longest_message}
use Rattle.link.specs.Receiving.{answer_of, decided, verdict_of}
use Rattle.link.specs.Ends.{registers_of, SealerState, ready, in_message, ReceiverState, Ends, sealer_made, receiver_made, made}
use Rattle.link.specs.Log.{Sent, Message, messages, Mark, begin, Heard, Stretch, stretches, Since, sent_since, heard_since, plain_of, wire_of, heard_wire, start_of, sealer_registers, receiver_registers}
use Rattle.link.specs.Law.{Law, Beginning, Judged, SeventeenSealed, Unbroken, Withholds, heard_wires, latest_17, sent_wires, wires}
use Rattle.link.specs.declared.reception.Event.TheVariants as event
use Rattle.link.specs.declared.reception.Reception.TheVariants.{Whole}
use Rattle.link.specs.declared.reception.Release.{Release}
use Rattle.link.specs.declared.reception.Release.TheVariants.{HandOut, Withhold}
use Rattle.link.specs.declared.reception.Answer.TheVariants.{Reading}
use Rattle.link.specs.declared.reception.Verdict.{Verdict}
use Rattle.link.specs.declared.reception.Verdict.TheVariants.{Agrees}
use Rattle.sss.specs.declared.message.MaskedWord.{MaskedWord}
use Rattle.sss.proofs.Returned.{message_back}
use Rattle.link.specs.declared.call.SealerCall.{SealerCall}
use Rattle.link.specs.declared.issuer.Nonce.{Nonce as IssuedNonce}
use Rattle.link.specs.declared.call.SealerCall.TheVariants.{Begin, Word as Seal, Finish, Abandon}
use Rattle.link.specs.declared.call.ReceiverCall.{ReceiverCall}
use Rattle.link.specs.declared.call.ReceiverCall.TheVariants.{Begin as Hear, Word as Take, Break, Finish as End}
use Rattle.link.specs.declared.call.Call.{Call}
use Rattle.link.specs.declared.call.Call.TheVariants.{OnSealer, OnReceiver}
use Rattle.link.specs.declared.call.SealerEntry.{SealerEntry}
use Rattle.link.specs.declared.call.SealerEntry.TheVariants.{Finished, Sealed, Refused}
use Rattle.link.specs.declared.call.ReceiverEntry.{ReceiverEntry}
use Rattle.link.specs.declared.call.ReceiverEntry.TheVariants.{Received, Finished as Ended, Begun as BegunThere, Refused as RefusedThere}
use Rattle.link.specs.declared.call.Entry.{Entry}
use Rattle.link.specs.declared.call.Entry.TheVariants.{OfSealer, OfReceiver}
use Rattle.sss.specs.declared.Fault.TheVariants.{Full, Nonce}
use Rattle.link.proofs.Every.{every_one, every_so}
use Rattle.link.proofs.Received.{Sized, WireWord, all_received, all_received_taken, zeroed_sized, begun_sized}
use Rattle.link.proofs.Invariants.{StartFits, SealedMessage, OpenAt, Starts, Past, Present, AllStretches, Run}
use Rattle.link.proofs.Sealing.{sealed_taken, sealed_wires}
use Rattle.link.proofs.Hearing.{all_past}
use Rattle.link.proofs.Runs.{beginning_run, good, earlier_run}
use Rattle.link.proofs.Readings.{first_same, sealed_wire_words, follows_wire_words, placed_true, assigned_no_false, comes_back}
use Rattle.link.proofs.InStep.{in_step}
use Rattle.link.proofs.Alteration.{one_altered_check, one_altered_tag}
use Rattle.link.proofs.Judging.{judged}

-- A tag in the log comes from a finish while a message is open: it is drawn from the registers as they were.
module _ (f A : ℕ → ℕ) where
  tag_drawn : (s : SealerState) (x : SealerCall IssuedNonce) (t : List ℕ) (ms : List Message) (since : Since Sent) → OpenAt f A s ms since →
      (sealer_made f A s x).1 ≡ Finished t →
      ((m : Message) × (earlier : List Message) × (ms ≡ m ∷ earlier) × (since ≡ record { start = Some m.nonce; words = m.words })) ×
      (t ≡ tag f (registers_of s))
  unfolding sealer_made
  tag_drawn (ready g) (Begin n) t ms since o e = absurd cc
  tag_drawn (ready g) (Seal mask p) t ms since o e = absurd cc
  tag_drawn (ready g) Finish t ms since o e = absurd cc
  tag_drawn (ready g) Abandon t ms since o e = absurd cc
  tag_drawn (in_message n g) (Begin k) t ms since o e = absurd cc
  tag_drawn (in_message n g) (Seal mask p) t ms since o e =
      absurd (cond_both (ltb n longest_message) (in_message (n + 1) (taken f A g mask p), Sealed mask p (wire_word f g mask p))
      (in_message n g, Refused mask p Full) (λ (o : SealerState × SealerEntry). o.1 ≡ Finished t → ⊥)
      (λ b h. cc) (λ b h. cc) e)
  tag_drawn (in_message n g) Finish t ms since o e = (o, cc)
  tag_drawn (in_message n g) Abandon t ms since o e = absurd cc

  -- A verdict in the log comes from a finish.
  verdict_given : (s : ReceiverState) (x : ReceiverCall) (t : List ℕ) (v : Verdict) → (receiver_made f A s x).1 ≡ Ended t v →
      v ≡ verdict_of (decided s.reception event.Finish).1 t (tag f s.registers)
  unfolding receiver_made
  verdict_given s (Hear nonce) t v e =
      absurd (cond_both (nonce_fits (vec_items nonce))
      (record { reception = Whole; registers = begun f A (vec_items nonce) }, BegunThere nonce)
      (s, RefusedThere nonce Nonce) (λ (o : ReceiverState × ReceiverEntry). o.1 ≡ Ended t v → ⊥)
      (λ b h. cc) (λ b h. cc) e)
  verdict_given s (Take mask m) t v e = absurd cc
  verdict_given s Break t v e = absurd cc
  verdict_given s (End u) t v e =
      let same : u ≡ t = cc in
      let is : verdict_of (decided s.reception event.Finish).1 u (tag f s.registers) ≡ v = cc in
      sym is ∙ ap (λ (x : List ℕ). verdict_of (decided s.reception event.Finish).1 x (tag f s.registers)) same

  -- A reading in the log is that of a word: it is opened with the registers as they were.
  told_reading : (r : Release) (q p : ℕ) → answer_of r q ≡ Reading p → q ≡ p
  told_reading HandOut q p e = cc
  told_reading (Withhold n) q p e = absurd cc

  reading_given : (s : ReceiverState) (x : ReceiverCall) (mask wire p : ℕ) → (receiver_made f A s x).1 ≡ Received mask wire (Reading p) →
      p ≡ plain_word f s.registers mask wire
  unfolding receiver_made
  reading_given s (Hear nonce) mask wire p e =
      absurd (cond_both (nonce_fits (vec_items nonce))
      (record { reception = Whole; registers = begun f A (vec_items nonce) }, BegunThere nonce)
      (s, RefusedThere nonce Nonce) (λ (o : ReceiverState × ReceiverEntry). o.1 ≡ Received mask wire (Reading p) → ⊥)
      (λ b h. cc) (λ b h. cc) e)
  reading_given s (Take k m) mask wire p e =
      let masks : k ≡ mask = cc in
      let wires : m ≡ wire = cc in
      let told : answer_of (decided s.reception (event.Word k)).1 (plain_word f s.registers k m) ≡ Reading p = cc in
      sym (told_reading (decided s.reception (event.Word k)).1 (plain_word f s.registers k m) p told) ∙
      (λ i. plain_word f s.registers (masks i) (wires i))
  reading_given s Break mask wire p e = absurd cc
  reading_given s (End t) mask wire p e = absurd cc

  -- The latest stretch, which the receiver is in.
  latest : (s : ReceiverState) (ss : List Stretch) → AllStretches f A s ss →
      (st : Stretch) × (others : List Stretch) × (ss ≡ st ∷ others) × Present f A s st
  latest s [] h = absurd h
  latest s (st ∷ ss) h = (st, ss, refl, h.0)

module _ (f A : ℕ → ℕ) (onef : OneToOne f) (oneA : OneToOne A) where
  start_sized : (start : Option (List ℕ)) → StartFits start → Sized (start_of f A start)
  start_sized None h = zeroed_sized
  start_sized (Some nonce) h = begun_sized f A onef oneA nonce h

  -- The registers of each end are those that its words since its latest reset define.
  sealer_holds : {s : Ends} {log : List Entry} → Run f A s log → registers_of s.sealer ≡ sealer_registers f A log
  unfolding sealer_registers
  sealer_holds {s} {log} run =
      let g = (good f A onef oneA run).sealer in
      g.reached ∙ sym (sealed_taken f A (start_of f A (sent_since log).start) (sent_since log).words g.since_sealed)

  receiver_holds : {s : Ends} {log : List Entry} → Run f A s log → s.receiver.registers ≡ receiver_registers f A log
  unfolding receiver_registers
  receiver_holds {s} {log} run =
      (good f A onef oneA run).receiver.reached ∙
      all_received_taken f A (start_of f A (heard_since log).start) (map heard_wire (heard_since log).words)

  -- A finish of the sealer: the message that it closes, and the registers just before.
  record Closing (before : List Entry) (t : List ℕ) : Type 0 where
    message : Message
    earlier : List Message
    latest_is : messages before ≡ message ∷ earlier
    sealed : SealedMessage f A message
    registers : sealer_registers f A before ≡ all_received f A (begun f A message.nonce) (map wire_of message.words)
    drawn : t ≡ tag f (sealer_registers f A before)

  closing_at : (before : List Entry) (t : List ℕ) (s : Ends) (x : Call) → Run f A s before → (made f A f A s x).1 ≡ OfSealer (Finished t) → Closing before t
  unfolding made
  closing_at before t s (OnReceiver x) r h = absurd cc
  closing_at before t s (OnSealer x) r h =
      let g = (good f A onef oneA r).sealer in
      let answer : (sealer_made f A s.sealer x).1 ≡ Finished t = cc in
      let o = tag_drawn f A s.sealer x t (messages before) (sent_since before) g.is_open answer in
      record {
        message = o.0.0;
        earlier = o.0.1;
        latest_is = o.0.2;
        sealed = (subst (Every (SealedMessage f A)) o.0.2 g.sealed).0;
        registers =
            sym (sealer_holds r) ∙ g.reached ∙
            ap (λ (z : Since Sent). all_received f A (start_of f A z.start) (map wire_of z.words)) o.0.3;
        drawn = o.1 ∙ ap (tag f) (sealer_holds r);
      }

  closing : {s : Ends} {log : List Entry} → Run f A s log → (before later : List Entry) (t : List ℕ) →
      log ≡ before ++ OfSealer (Finished t) ∷ later → Closing before t
  closing run before later t e =
      let r = earlier_run f A run before later (OfSealer (Finished t)) e in
      closing_at before t r.0 r.2.0 r.1 r.2.1

  -- A finish of the receiver: the stretch that it ends, and where the receiver stood just before.
  record Ending (before : List Entry) (t : List ℕ) (v : Verdict) : Type 0 where
    stretch : Stretch
    others : List Stretch
    latest_is : stretches before ≡ stretch ∷ others
    receiver : ReceiverState
    present : Present f A receiver stretch
    registers : receiver_registers f A before ≡ receiver.registers
    given : v ≡ verdict_of (decided receiver.reception event.Finish).1 t (tag f receiver.registers)

  ending_at : (before : List Entry) (t : List ℕ) (v : Verdict) (s : Ends) (x : Call) → Run f A s before →
      (made f A f A s x).1 ≡ OfReceiver (Ended t v) → Ending before t v
  unfolding made
  ending_at before t v s (OnSealer x) r h = absurd cc
  ending_at before t v s (OnReceiver x) r h =
      let answer : (receiver_made f A s.receiver x).1 ≡ Ended t v = cc in
      let o = latest f A s.receiver (stretches before) (good f A onef oneA r).receiver.followed in
      record {
        stretch = o.0;
        others = o.1;
        latest_is = o.2;
        receiver = s.receiver;
        present = o.3;
        registers = sym (receiver_holds r);
        given = verdict_given f A s.receiver x t v answer;
      }

  reading_at : (before : List Entry) (mask wire p : ℕ) (s : Ends) (x : Call) → Run f A s before →
      (made f A f A s x).1 ≡ OfReceiver (Received mask wire (Reading p)) → p ≡ plain_word f (receiver_registers f A before) mask wire
  unfolding made
  reading_at before mask wire p s (OnSealer x) r h = absurd cc
  reading_at before mask wire p s (OnReceiver x) r h =
      let answer : (receiver_made f A s.receiver x).1 ≡ Received mask wire (Reading p) = cc in
      reading_given f A s.receiver x mask wire p answer ∙ ap (λ (g : BothRegisters). plain_word f g mask wire) (receiver_holds r)

  ending : {s : Ends} {log : List Entry} → Run f A s log → (before later : List Entry) (t : List ℕ) (v : Verdict) →
      log ≡ before ++ OfReceiver (Ended t v) ∷ later → Ending before t v
  ending run before later t v e =
      let r = earlier_run f A run before later (OfReceiver (Ended t v)) e in
      ending_at before t v r.0 r.2.0 r.1 r.2.1

  -- A reading is what the published cipher makes of the wire word after the words received before.
  reading_published : {s : Ends} {log : List Entry} → Run f A s log → (before later : List Entry) (mask wire p : ℕ) →
      log ≡ before ++ OfReceiver (Received mask wire (Reading p)) ∷ later → p ≡ plain_word f (receiver_registers f A before) mask wire
  reading_published run before later mask wire p e =
      let r = earlier_run f A run before later (OfReceiver (Received mask wire (Reading p))) e in
      reading_at before mask wire p r.0 r.2.0 r.1 r.2.1

  -- At any moment of either end: equal cipher registers, and equal wire words.
  step_by_step : {s : Ends} {log : List Entry} → Run f A s log → (sent heard : List Entry) → Beginning log sent → Beginning log heard →
      SeventeenSealed (sent_wires sent) → SeventeenSealed (heard_wires heard) →
      ((sealer_registers f A sent).r ≡ (receiver_registers f A heard).r) ↔
      (wires (latest_17 (sent_wires sent)) ≡ wires (latest_17 (heard_wires heard)))
  step_by_step run sent heard (later, e) (later', e') =
      let (s, at) = beginning_run f A run sent later e in
      let (s', at') = beginning_run f A run heard later' e' in
      let p = (good f A onef oneA at).sealer in
      let q = (good f A onef oneA at').receiver in
      let from : Option (List ℕ) → BothRegisters = λ o. start_of f A o in
      in_step f A onef oneA (sealer_registers f A sent) (receiver_registers f A heard) (from (sent_since sent).start)
      (from (heard_since heard).start) (sent_wires sent) (heard_wires heard) (start_sized (sent_since sent).start p.start_fits)
      (start_sized (heard_since heard).start q.start_fits)
      (sealed_wire_words f A (from (sent_since sent).start) (sent_since sent).words p.since_sealed) q.words_fit
      (sym (sealer_holds at) ∙ p.reached) (sym (receiver_holds at') ∙ q.reached)

  -- The two ends of an unbroken message come from one begin.
  record FromOne (u-message : Message) (sealer receiver : BothRegisters) (heard : List Heard) : Type 0 where
    sized : Sized (begun f A u-message.nonce)
    sent_fit : Every WireWord (map wire_of u-message.words)
    heard_fit : Every WireWord (map heard_wire heard)
    sealer_is : sealer ≡ all_received f A (begun f A u-message.nonce) (map wire_of u-message.words)
    receiver_is : receiver ≡ all_received f A (begun f A u-message.nonce) (map heard_wire heard)

  -- What the sealer finished is the message, and what the receiver ended is the stretch.
  sent_of : {s : Ends} {log : List Entry} → Run f A s log → (u : Unbroken log) →
      (c : Closing u.sealer_before u.sent_tag) × (c.message ≡ u.message)
  sent_of run u =
      let c = closing run u.sealer_before u.sealer_later u.sent_tag u.sealer_finished in
      (c, first_same c.message u.message c.earlier u.earlier (sym c.latest_is ∙ u.message_is))

  heard_of : {s : Ends} {log : List Entry} → Run f A s log → (u : Unbroken log) →
      (d : Ending u.receiver_before u.heard_tag u.verdict) × (d.stretch ≡ u.stretch)
  heard_of run u =
      let d = ending run u.receiver_before u.receiver_later u.heard_tag u.verdict u.receiver_finished in
      (d, first_same d.stretch u.stretch d.others u.others (sym d.latest_is ∙ u.stretch_is))

  same_nonce : (n k : List ℕ) → begin n ≡ begin k → n ≡ k
  same_nonce n k e = cc

  unbroken : {s : Ends} {log : List Entry} → Run f A s log → (u : Unbroken log) →
      FromOne u.message (sealer_registers f A u.sealer_before) (receiver_registers f A u.receiver_before) u.stretch.words
  unbroken run u =
      let (c, m) = sent_of run u in
      let (d, st) = heard_of run u in
      let b : List ℕ → BothRegisters = λ n. begun f A n in
      let sealed : SealedMessage f A u.message = subst (SealedMessage f A) m c.sealed in
      let p : Present f A d.receiver u.stretch = subst (Present f A d.receiver) st d.present in
      let starts = subst (λ (k : Mark). Starts f A k p.0) u.begun_with p.2 in
      record {
        sized = begun_sized f A onef oneA u.message.nonce sealed.0;
        sent_fit = sealed_wire_words f A (b u.message.nonce) u.message.words sealed.1;
        heard_fit = follows_wire_words f A _ p.0 u.stretch.words p.3;
        sealer_is = c.registers ∙ ap (λ (x : Message). all_received f A (b x.nonce) (map wire_of x.words)) m;
        receiver_is = d.registers ∙ p.5 ∙ ap (λ (g : BothRegisters). all_received f A g (map heard_wire u.stretch.words)) starts.0;
      }

  -- A tag that the sealer drew is that of the message it closed.
  drawn_tag : (before : List Entry) (t : List ℕ) (c : Closing before t) → t ≡ message_tag f A c.message.nonce (map plain_of c.message.words)
  unfolding message_tag
  drawn_tag before t c =
      let m = c.message in
      c.drawn ∙ ap (tag f) (c.registers ∙ sym (sealed_taken f A (begun f A m.nonce) m.words c.sealed.1))

  -- An unbroken message that was received as it was sent: the tag of what was received is the one that was sent.
  tag_agrees : {s : Ends} {log : List Entry} → Run f A s log → (u : Unbroken log) →
      map heard_wire u.stretch.words ≡ map wire_of u.message.words → (u.verdict ≡ Agrees) ↔ (u.heard_tag ≡ u.sent_tag)
  unfolding sealed_message
  tag_agrees run u same =
      let (c, m) = sent_of run u in
      let (d, st) = heard_of run u in
      let nonce : List ℕ = u.message.nonce in
      let heard : List MaskedWord = map heard_wire u.stretch.words in
      let sealed : SealedMessage f A u.message = subst (SealedMessage f A) m c.sealed in
      let sent : u.sent_tag ≡ message_tag f A nonce (map plain_of u.message.words) =
      drawn_tag u.sealer_before u.sent_tag c ∙ ap (λ (x : Message). message_tag f A x.nonce (map plain_of x.words)) m in
      let back : message_tag f A nonce (opened_message f A nonce heard) ≡ u.sent_tag =
      (message_back f A nonce heard (opened_message f A nonce heard) (message_tag f A nonce (opened_message f A nonce heard)) refl refl
      (map plain_of u.message.words) (same ∙ sym (sealed_wires f A (begun f A nonce) u.message.words sealed.1))).1 ∙ sym sent in
      let j : Judged f A u.stretch u.heard_tag u.verdict =
      subst (λ (x : Stretch). Judged f A x u.heard_tag u.verdict) st (judged f A d.receiver d.stretch u.heard_tag u.verdict d.present d.given) in (
        λ agrees.
            let (n, mark, is) = j.agrees.0 agrees in
            let one : n ≡ nonce = same_nonce n nonce (sym mark ∙ u.begun_with) in
            is ∙ ap (λ (k : List ℕ). message_tag f A k (opened_message f A k heard)) one ∙ back,
        λ is. j.agrees.1 (nonce, u.begun_with, is ∙ sym back),
      )

  -- The law of a loss: which words are withheld holds of every log, and all else of the log of a run.
  pub law : {s : Ends} {log : List Entry} → Every Withholds (stretches log) → Run f A s log → Law f A log (registers_of s.sealer) s.receiver.registers
  unfolding sealed_message message_tag sealer_registers
  law {s} {log} withheld run =
      let g = good f A onef oneA run in
      let past : Every (Past f A) (stretches log) = all_past f A s.receiver (stretches log) g.receiver.followed in
      let sealed : Every (SealedMessage f A) (messages log) = g.sealer.sealed in
      record {
        of_sealer = sealer_holds run;
        of_receiver = receiver_holds run;
        in_step = step_by_step run;
        true_readings = λ st h p. placed_true f A onef oneA log st (every_one (Past f A) (stretches log) st past h) sealed p;
        no_false_reading = assigned_no_false f A onef oneA log (stretches log) past sealed;
        withheld = withheld;
        altered_check = λ u a e.
            let o = unbroken run u in
            one_altered_check f A onef oneA (begun f A u.message.nonce) o.sized (map wire_of u.message.words)
            (map heard_wire u.stretch.words) o.sent_fit o.heard_fit a
            (ap (λ (x : BothRegisters). x.c) (sym o.sealer_is) ∙ e ∙ ap (λ (x : BothRegisters). x.c) o.receiver_is);
        altered_tag = λ u a e.
            let o = unbroken run u in
            one_altered_tag f A onef oneA (begun f A u.message.nonce) o.sized (map wire_of u.message.words)
            (map heard_wire u.stretch.words) o.sent_fit o.heard_fit a
            (ap (drawn_from f) (sym o.sealer_is) ∙ e ∙ ap (drawn_from f) o.receiver_is);
        published =
            every_so (SealedMessage f A) (λ m h. sym (sealed_wires f A (begun f A m.nonce) m.words h.1)) (messages log) sealed;
        published_tags = λ before later t e.
            let c = closing run before later t e in
            (c.message, c.earlier, c.latest_is, drawn_tag before t c);
        published_readings = reading_published run;
        comes_back = λ st h m k mark same.
            comes_back f A onef oneA log st (every_one (Past f A) (stretches log) st past h) m
            (every_one (SealedMessage f A) (messages log) m sealed k) mark same;
        tag_agrees = tag_agrees run;
        verdicts = λ before later t v e.
            let d = ending run before later t v e in
            (d.stretch, d.others, d.latest_is, judged f A d.receiver d.stretch t v d.present d.given);
      }
