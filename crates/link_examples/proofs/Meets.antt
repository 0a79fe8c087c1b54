-- The worked history meets each premise of the law, and the law says the rest.
use Rattle.std.proofs.Common.{◌≡◌, ℕ, ◌+◌, ◌≢◌, List, [], ◌∷◌, ◌++◌, map, length, take, drop, Some, None, get_or, sym, refl, ap, ◌∙◌, subst, inl, inr, vec_items, arith, length-append}
use Rattle.std.specs.List.{AllByRecursion as Every}
use Rattle.std.specs.Global.{Vec}
use Rattle.std.specs.Prelude.{IfOk, Result, Ok, Err}
use Rattle.sss.specs.Cipher.{BothRegisters, product}
use Rattle.link.specs.Log.{Heard, Mark, Message, Stretch, begin, break, finish, new, heard_since, heard_wire, messages, sent_since, stretches, wire_of}
use Rattle.link.specs.Law.{AfterOther, Assigned, Law, OneAltered, Placed, RowOf17, SeventeenSealed, Unbroken, Withholds, heard_wires, latest_17, sent_wires, wires}
use Rattle.link.specs.declared.reception.Answer.TheVariants.{Reading, Withheld}
use Rattle.link.specs.declared.reception.Verdict.TheVariants.{Agrees, Broken, Differs}
use Rattle.link.specs.Ends.{history}
use Rattle.link.specs.declared.call.Call.{Call}
use Rattle.link.specs.declared.call.Entry.{Entry}
use Rattle.link_examples.specs.Worked.{AreWorked, tag_0, tag_1, tag_2, bytes_of, zero_function}
use Rattle.link_examples.specs.Instances.{AlteredWord, BrokenOff, CameAsSent, CaughtAgain, InStep, MeetsEach, Moments, NoneFalse, OutOfStep}
use Rattle.link_examples.proofs.History.{log_of_worked, spelled, worked_log}

-- The nonce of a begin.
abbrev nonce_of : Mark → List ℕ
nonce_of new = []
nonce_of (begin nonce) = nonce
nonce_of break = []
nonce_of finish = []

-- Sixteen words have no row of seventeen.
too_short : (ws : List Heard) → length ws ≡ 16 → ¬ RowOf17 ws
too_short ws long (x, y, z, parts, seventeen, sealed) =
    let whole = sym long ∙ ap length parts ∙ length-append x (y ++ z) ∙ ap (λ (n : ℕ). length x + n) (length-append y z) in
    absurd (omega (arith, whole, seventeen))

module _ (a b c d : Vec ℕ) (of_a : vec_items a ≡ bytes_of 0) (of_b : vec_items b ≡ bytes_of 1) (of_c : vec_items c ≡ bytes_of 2) (of_d : vec_items d ≡ bytes_of 3) where
  abbrev pub log : List Entry
  log = worked_log (spelled a _ of_a) (spelled b _ of_b) (spelled c _ of_c) (spelled d _ of_d)

  -- The messages and the stretches of the log, each by its place, the latest first.
  abbrev message : ℕ → Message
  message n = get_or (messages log) n (record { nonce = []; words = [] })

  abbrev stretch : ℕ → Stretch
  stretch n = get_or (stretches log) n (record { mark = new; words = [] })

  -- Four stretches are placed.
  last_placed : Placed log (stretch 0)
  unfolding messages stretches
  last_placed = record {
    message = message 0;
    of_sealer = (0, omega arith, refl);
    front = [];
    those = (message 0).words;
    back = [];
    within = refl;
    as_sent = refl;
    from_first = λ nonce e. (sym (ap nonce_of e), refl);
  }

  across_placed : Placed log (stretch 2)
  unfolding messages stretches
  across_placed = record {
    message = message 1;
    of_sealer = (1, omega arith, refl);
    front = take 2 (message 1).words;
    those = drop 2 (message 1).words;
    back = [];
    within = refl;
    as_sent = refl;
    from_first = λ nonce e. cc;
  }

  before_placed : Placed log (stretch 3)
  unfolding messages stretches
  before_placed = record {
    message = message 1;
    of_sealer = (1, omega arith, refl);
    front = [];
    those = take 1 (message 1).words;
    back = drop 1 (message 1).words;
    within = refl;
    as_sent = refl;
    from_first = λ nonce e. (sym (ap nonce_of e), refl);
  }

  first_placed : Placed log (stretch 7)
  unfolding messages stretches
  first_placed = record {
    message = message 3;
    of_sealer = (3, omega arith, refl);
    front = [];
    those = (message 3).words;
    back = [];
    within = refl;
    as_sent = refl;
    from_first = λ nonce e. (sym (ap nonce_of e), refl);
  }

  assignment : Every (Assigned log) (stretches log)
  unfolding messages stretches
  assignment = (Some last_placed, (None, (Some across_placed, (Some before_placed, (None, (None, (None, (Some first_placed, (None, tt)))))))))

  -- Two moments: after all words of the message 2, and one word of the receiver earlier.
  abbrev all_sent : List Entry
  all_sent = take 39 log

  sealed_17 : SeventeenSealed (sent_wires all_sent)
  unfolding sent_since
  sealed_17 =
      let long : length (sent_wires all_sent) ≡ 20 = refl in
      record { enough = omega (arith, long); sealed = (refl, (refl, (refl, (refl, (refl, (refl, (refl, (refl, (refl, (refl, (refl, (refl, (refl, (refl, (refl, (refl, (refl, tt))))))))))))))))) }

  heard_19 : SeventeenSealed (heard_wires (take 61 log))
  unfolding heard_since
  heard_19 =
      let long : length (heard_wires (take 61 log)) ≡ 19 = refl in
      record { enough = omega (arith, long); sealed = (refl, (refl, (refl, (refl, (refl, (refl, (refl, (refl, (refl, (refl, (refl, (refl, (refl, (refl, (refl, (refl, (refl, tt))))))))))))))))) }

  heard_18 : SeventeenSealed (heard_wires (take 60 log))
  unfolding heard_since
  heard_18 =
      let long : length (heard_wires (take 60 log)) ≡ 18 = refl in
      record { enough = omega (arith, long); sealed = (refl, (refl, (refl, (refl, (refl, (refl, (refl, (refl, (refl, (refl, (refl, (refl, (refl, (refl, (refl, (refl, (refl, tt))))))))))))))))) }

  after_19 : Moments log
  after_19 = record { sent = all_sent; heard = take 61 log; sent_then = (drop 39 log, refl); heard_then = (drop 61 log, refl); sent_sealed = sealed_17; heard_sealed = heard_19 }

  after_18 : Moments log
  after_18 = record { sent = all_sent; heard = take 60 log; sent_then = (drop 39 log, refl); heard_then = (drop 60 log, refl); sent_sealed = sealed_17; heard_sealed = heard_18 }

  module _ {at_sealer at_receiver : BothRegisters} (law : Law zero_function product log at_sealer at_receiver) where
    none_false : NoneFalse log 22
    unfolding messages stretches assignment last_placed across_placed before_placed first_placed
    none_false = record { assignment = assignment; placed = refl; none_false = law.no_false_reading assignment }

    in_step : InStep zero_function product log
    unfolding sent_since heard_since after_19
    in_step =
        let both = law.in_step all_sent (take 61 log) (drop 39 log, refl) (drop 61 log, refl) sealed_17 heard_19 in
        record { at = after_19; same_words = refl; same_register = both.1 refl }

    other_words : wires (latest_17 (sent_wires all_sent)) ≢ wires (latest_17 (heard_wires (take 60 log)))
    unfolding sent_since heard_since
    other_words e = absurd (omega (arith, ap (λ (ws : List ℕ). get_or ws 16 0) e))

    out_of_step : OutOfStep zero_function product log
    unfolding after_18
    out_of_step =
        let both = law.in_step all_sent (take 60 log) (drop 39 log, refl) (drop 60 log, refl) sealed_17 heard_18 in
        record { at = after_18; other_words = other_words; other_register = λ e. other_words (both.0 e) }

    caught_again : CaughtAgain log
    unfolding stretches
    caught_again =
        let words = (stretch 2).words in
        let sixteen = take 16 words in
        let seventeenth : Heard = record { mask = 65535; wire = 50494; answer = Withheld 17 } in
        let eighteenth : Heard = record { mask = 65535; wire = 49155; answer = Reading 1019 } in
        let after_other : AfterOther (stretch 2) = λ nonce e. cc in
        let withholds : Withholds (stretch 2) = law.withheld.1.1.0 in
        let row : RowOf17 (sixteen ++ seventeenth ∷ []) = ([], take 17 words, [], refl, refl, (refl, (refl, (refl, (refl, (refl, (refl, (refl, (refl, (refl, (refl, (refl, (refl, (refl, (refl, (refl, (refl, (refl, tt)))))))))))))))))) in
        record {
          stretch = stretch 2;
          of_receiver = (2, omega arith, refl);
          after_other = after_other;
          sixteen = sixteen;
          seventeenth = seventeenth;
          eighteenth = eighteenth;
          back = [];
          parts = refl;
          one_short = refl;
          withheld = elim (withholds.after_other after_other sixteen seventeenth (eighteenth ∷ []) refl) [
            | inl w ↦ w.0
            | inr h ↦ absurd (too_short sixteen refl h.1)
          ];
          row = row;
          handed_out = elim (withholds.after_other after_other (sixteen ++ seventeenth ∷ []) eighteenth [] refl) [
            | inl w ↦ absurd (w.1 row)
            | inr h ↦ h.0
          ];
        }

    -- The message 1, which both ends finished, and one word of it that was altered.
    altered_message : Unbroken log
    unfolding messages stretches
    altered_message = record {
      sealer_before = take 12 log;
      sealer_later = drop 13 log;
      sent_tag = tag_1;
      sealer_finished = refl;
      message = message 2;
      earlier = drop 3 (messages log);
      message_is = refl;
      receiver_before = take 17 log;
      receiver_later = drop 18 log;
      heard_tag = tag_1;
      verdict = Differs;
      receiver_finished = refl;
      stretch = stretch 5;
      others = drop 6 (stretches log);
      stretch_is = refl;
      begun_with = refl;
    }

    one_altered : OneAltered (map wire_of altered_message.message.words) (map heard_wire altered_message.stretch.words)
    unfolding messages stretches altered_message
    one_altered = record {
      front = record { mask = 65535; text = 16320 } ∷ [];
      mask = 65535;
      was = 10035;
      became = 9779;
      later = record { mask = 65535; text = 18738 } ∷ [];
      sent_is = refl;
      heard_is = refl;
      altered = λ e. absurd (omega (arith, e));
      later_sealed = (refl, tt);
    }

    altered_word : AlteredWord zero_function product log
    unfolding altered_message
    altered_word = record {
      unbroken = altered_message;
      one_altered = one_altered;
      differs = refl;
      other_check = law.altered_check altered_message one_altered;
      other_drawn = law.altered_tag altered_message one_altered;
    }

    -- The message 0, which both ends finished.
    unaltered_message : Unbroken log
    unfolding messages stretches
    unaltered_message = record {
      sealer_before = take 3 log;
      sealer_later = drop 4 log;
      sent_tag = tag_0;
      sealer_finished = refl;
      message = message 3;
      earlier = [];
      message_is = refl;
      receiver_before = take 7 log;
      receiver_later = drop 8 log;
      heard_tag = tag_0;
      verdict = Agrees;
      receiver_finished = refl;
      stretch = stretch 7;
      others = drop 8 (stretches log);
      stretch_is = refl;
      begun_with = refl;
    }

    came_as_sent : CameAsSent log 2
    unfolding messages stretches unaltered_message
    came_as_sent = record {
      unbroken = unaltered_message;
      long = refl;
      as_sent = refl;
      its_tag = refl;
      as_given = law.comes_back (stretch 7) (7, omega arith, refl) (message 3) (3, omega arith, refl) refl refl;
      agrees = (law.tag_agrees unaltered_message refl).1 refl;
    }

    broken_off : BrokenOff log
    broken_off =
        let (s, others, is, judged) = law.verdicts (take 61 log) (drop 62 log) tag_2 Broken refl in
        record { before = take 61 log; later = drop 62 log; tag = tag_2; verdict = refl; after_other = (s, others, is, judged.broken.0 refl) }

    pub meets_each : MeetsEach zero_function product log
    unfolding messages stretches
    meets_each = record {
      sealed = refl;
      received = refl;
      none_false = none_false;
      in_step = in_step;
      out_of_step = out_of_step;
      caught_again = caught_again;
      altered = altered_word;
      came_as_sent = came_as_sent;
      broken_off = broken_off;
    }

-- A log of the worked calls that keeps the law meets each premise.
pub met_by_worked : {calls : List Call} {log : List Entry} {at_sealer at_receiver : BothRegisters} → AreWorked calls →
    log ≡ (history zero_function product zero_function product calls).1 → Law zero_function product log at_sealer at_receiver →
    MeetsEach zero_function product log
met_by_worked {at_sealer} {at_receiver} worked is law =
    let the_log = is ∙ log_of_worked worked.a worked.b worked.c worked.d worked.of_a worked.of_b worked.of_c worked.of_d worked.are in
    subst (MeetsEach zero_function product) (sym the_log)
    (meets_each worked.a worked.b worked.c worked.d worked.of_a worked.of_b worked.of_c worked.of_d
    (subst (λ (log : List Entry). Law zero_function product log at_sealer at_receiver) the_log law))

-- What follows of a value from two things that hold of it.
pub if_both : {T E : Type 0} {P Q R : T → Type 0} (r : Result T E) → ((x : T) → P x → Q x → R x) → IfOk r P → IfOk r Q → IfOk r R
if_both (Ok x) both p q = both x p q
if_both (Err e) both p q = tt
