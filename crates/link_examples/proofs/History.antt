-- The worked history, computed: its log.
use Rattle.std.proofs.Common.{◌≡◌, ℕ, ◌≤◌, List, [], ◌∷◌, refl, ap, ◌∙◌, vec_items, length}
use mathlib.Core.HLevel.{is_prop→PathP}
use native.Mathlib.Nat.{ℕ_set}
use native.Mathlib.Bridge.{le_prop}
use Rattle.std.specs.Global.{Vec}
use Rattle.link.specs.Ends.{history, made, sealer_made, receiver_made}
use Rattle.link.specs.Issuing.{nonce_bytes}
use Rattle.link.specs.Receiving.{row_after, with_row}
use Rattle.link.specs.declared.call.Call.{Call}
use Rattle.link.specs.declared.call.Entry.{Entry}
use Rattle.link.specs.declared.call.Entry.TheVariants.{OfSealer, OfReceiver}
use Rattle.link.specs.declared.call.SealerEntry.TheVariants as sealer
use Rattle.link.specs.declared.call.ReceiverEntry.TheVariants as receiver
use Rattle.link.specs.declared.reception.Answer.TheVariants.{Reading, Withheld}
use Rattle.link.specs.declared.reception.Verdict.TheVariants.{Agrees, Differs, Broken}
use Rattle.sss.specs.Tables.{products}
use Rattle.sss.specs.Cipher.{plus, rotate, complement, keyed, product, step, keystream, check_step, masked, mactext, ciphertext, taken, wire_word, plain_word, zeroed, nonce_taken, nonces_taken, open_zeros, begun, fed, all_fed, drawn_from, stepped, tag}
use Rattle.link_examples.specs.Worked.{tag_0, tag_1, tag_2, as_sent, altered, sent_across, heard_across, given_up, worked_calls, bytes_of, zero_function}

-- A vector with these items, its items written out.
abbrev pub spelled : (v : Vec ℕ) (bytes : List ℕ) → vec_items v ≡ bytes → Vec ℕ
spelled v bytes e = record { ptr = v.ptr; len = v.len; cap = v.cap; alloc = v.alloc; items = bytes; ok = (v.ok.0 ∙ ap length e, v.ok.1); small = v.small }

pub is_spelled : (v : Vec ℕ) (bytes : List ℕ) (e : vec_items v ≡ bytes) → v ≡ spelled v bytes e
is_spelled v bytes e = λ i. record {
  ptr = v.ptr;
  len = v.len;
  cap = v.cap;
  alloc = v.alloc;
  items = e i;
  ok = is_prop→PathP (λ j. (v.len ≡ length (e j)) × (v.len ≤ v.cap)) (λ j p q k. (ℕ_set _ _ p.0 q.0 k, le_prop p.1 q.1 k)) v.ok (v.ok.0 ∙ ap length e, v.ok.1) i;
  small = v.small;
}

-- The log.
abbrev pub worked_log : (a b c d : Vec ℕ) → List Entry
worked_log a b c d =
    OfSealer (sealer.Begun (1 ∷ 0 ∷ 0 ∷ 0 ∷ 0 ∷ 0 ∷ [])) ∷ OfSealer (sealer.Sealed 0 7 7) ∷ OfSealer (sealer.Sealed 65535 4660 7853) ∷
    OfSealer (sealer.Finished tag_0) ∷ OfReceiver (receiver.Begun a) ∷
    OfReceiver (receiver.Received 0 7 (Reading 7)) ∷ OfReceiver (receiver.Received 65535 7853 (Reading 4660)) ∷
    OfReceiver (receiver.Finished tag_0 Agrees) ∷
    OfSealer (sealer.Begun (1 ∷ 0 ∷ 0 ∷ 0 ∷ 1 ∷ 0 ∷ [])) ∷ OfSealer (sealer.Sealed 65535 940 16320) ∷
    OfSealer (sealer.Sealed 65535 941 10035) ∷ OfSealer (sealer.Sealed 65535 942 18738) ∷
    OfSealer (sealer.Finished tag_1) ∷ OfReceiver (receiver.Begun b) ∷
    OfReceiver (receiver.Received 65535 16320 (Reading 940)) ∷ OfReceiver (receiver.Received 65535 9779 (Reading 685)) ∷
    OfReceiver (receiver.Received 65535 18738 (Reading 937)) ∷
    OfReceiver (receiver.Finished tag_1 Differs) ∷
    OfSealer (sealer.Begun (1 ∷ 0 ∷ 0 ∷ 0 ∷ 2 ∷ 0 ∷ [])) ∷ OfSealer (sealer.Sealed 65535 1000 23527) ∷
    OfSealer (sealer.Sealed 65535 1001 18243) ∷ OfSealer (sealer.Sealed 65535 1002 33663) ∷ OfSealer (sealer.Sealed 65535 1003 55696) ∷
    OfSealer (sealer.Sealed 65535 1004 28707) ∷ OfSealer (sealer.Sealed 65535 1005 31717) ∷ OfSealer (sealer.Sealed 65535 1006 56846) ∷
    OfSealer (sealer.Sealed 65535 1007 10786) ∷ OfSealer (sealer.Sealed 65535 1008 41193) ∷ OfSealer (sealer.Sealed 65535 1009 6972) ∷
    OfSealer (sealer.Sealed 65535 1010 51368) ∷ OfSealer (sealer.Sealed 65535 1011 58430) ∷ OfSealer (sealer.Sealed 65535 1012 55133) ∷
    OfSealer (sealer.Sealed 65535 1013 53500) ∷ OfSealer (sealer.Sealed 65535 1014 45743) ∷ OfSealer (sealer.Sealed 65535 1015 8625) ∷
    OfSealer (sealer.Sealed 65535 1016 16080) ∷ OfSealer (sealer.Sealed 65535 1017 10034) ∷ OfSealer (sealer.Sealed 65535 1018 50494) ∷
    OfSealer (sealer.Sealed 65535 1019 49155) ∷
    OfSealer (sealer.Finished tag_2) ∷ OfReceiver (receiver.Begun c) ∷
    OfReceiver (receiver.Received 65535 23527 (Reading 1000)) ∷ OfReceiver receiver.BrokenOff ∷
    OfReceiver (receiver.Received 65535 33663 (Withheld 1)) ∷ OfReceiver (receiver.Received 65535 55696 (Withheld 2)) ∷
    OfReceiver (receiver.Received 65535 28707 (Withheld 3)) ∷ OfReceiver (receiver.Received 65535 31717 (Withheld 4)) ∷
    OfReceiver (receiver.Received 65535 56846 (Withheld 5)) ∷ OfReceiver (receiver.Received 65535 10786 (Withheld 6)) ∷
    OfReceiver (receiver.Received 65535 41193 (Withheld 7)) ∷ OfReceiver (receiver.Received 65535 6972 (Withheld 8)) ∷
    OfReceiver (receiver.Received 65535 51368 (Withheld 9)) ∷ OfReceiver (receiver.Received 65535 58430 (Withheld 10)) ∷
    OfReceiver (receiver.Received 65535 55133 (Withheld 11)) ∷ OfReceiver (receiver.Received 65535 53500 (Withheld 12)) ∷
    OfReceiver (receiver.Received 65535 45743 (Withheld 13)) ∷ OfReceiver (receiver.Received 65535 8625 (Withheld 14)) ∷
    OfReceiver (receiver.Received 65535 16080 (Withheld 15)) ∷ OfReceiver (receiver.Received 65535 10034 (Withheld 16)) ∷
    OfReceiver (receiver.Received 65535 50494 (Withheld 17)) ∷ OfReceiver (receiver.Received 65535 49155 (Reading 1019)) ∷
    OfReceiver (receiver.Finished tag_2 Broken) ∷
    OfSealer (sealer.Begun (1 ∷ 0 ∷ 0 ∷ 0 ∷ 3 ∷ 0 ∷ [])) ∷ OfSealer (sealer.Sealed 65535 943 44153) ∷ OfSealer sealer.Abandoned ∷
    OfReceiver (receiver.Begun d) ∷ OfReceiver (receiver.Received 65535 44153 (Reading 943)) ∷ []

-- It is the log of the worked calls, where the items of each nonce are written out.
module _ (a b c d : Vec ℕ) (of_a : vec_items a ≡ bytes_of 0) (of_b : vec_items b ≡ bytes_of 1) (of_c : vec_items c ≡ bytes_of 2) (of_d : vec_items d ≡ bytes_of 3) where
  log_of_spelled :
      let a' = spelled a _ of_a in
      let b' = spelled b _ of_b in
      let c' = spelled c _ of_c in
      let d' = spelled d _ of_d in
      (history zero_function product zero_function product (worked_calls a' b' c' d')).1 ≡ worked_log a' b' c' d'
  unfolding as_sent altered sent_across heard_across given_up history made sealer_made receiver_made nonce_bytes row_after with_row products plus rotate complement keyed product step keystream check_step masked mactext ciphertext taken wire_word plain_word zeroed nonce_taken nonces_taken open_zeros begun fed all_fed drawn_from stepped tag
  log_of_spelled = refl

  -- So it is the log of the worked calls as they are.
  pub log_of_worked : {calls : List Call} → calls ≡ worked_calls a b c d →
      (history zero_function product zero_function product calls).1 ≡ worked_log (spelled a _ of_a) (spelled b _ of_b) (spelled c _ of_c) (spelled d _ of_d)
  log_of_worked are =
      let spelled_out = are ∙ (λ i. worked_calls (is_spelled a _ of_a i) (is_spelled b _ of_b i) (is_spelled c _ of_c i) (is_spelled d _ of_d i)) in
      ap (λ (calls : List Call). (history zero_function product zero_function product calls).1) spelled_out ∙ log_of_spelled
