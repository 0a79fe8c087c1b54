-- The calls whose answer a test decides, a word of a message that may be full and a begin whose nonce may not fit; and how a call is noted.
use Rattle.std.proofs.Common.{◌≡◌, ℕ, ◌+◌, ◌<◌, ◌≤◌, List, [], ◌∷◌, ◌++◌, get_or, ap, ◌∙◌}
use Rattle.std.specs.List.{AllByRecursion as Every}
use Rattle.std.proofs.lemmas.Bool.{lt-ltb, le-ltb}
use Rattle.sss.specs.Cipher.{BothRegisters, taken, wire_word}
use Rattle.sss.specs.declared.Fault.{Fault}
use Rattle.sss.specs.declared.Fault.TheVariants.{Full}
use Rattle.link.specs.Sealing.{longest_message}
use Rattle.link.specs.Ends.{SealerState, in_message, sealer_made, ReceiverState, receiver_made, made, one_call}
use Rattle.link.specs.declared.call.SealerCall.{SealerCall}
use Rattle.link.specs.declared.issuer.Nonce.{Nonce}
use Rattle.link.specs.declared.call.SealerCall.TheVariants.{Word as Seal}
use Rattle.link.specs.declared.call.ReceiverCall.{ReceiverCall}
use Rattle.link.specs.declared.call.Call.TheVariants.{OnSealer, OnReceiver}
use Rattle.link.specs.declared.call.SealerEntry.{SealerEntry}
use Rattle.link.specs.declared.call.ReceiverEntry.{ReceiverEntry}
use Rattle.link.specs.declared.call.Entry.{Entry}
use Rattle.link.specs.declared.call.Entry.TheVariants.{OfSealer, OfReceiver}
use Rattle.link.specs.declared.call.SealerEntry.TheVariants.{Sealed, Refused}
use Rattle.link.proofs.Every.{every_place}

module _ (f A : ℕ → ℕ) (n n' : ℕ) (g g' : BothRegisters) (mask p : ℕ) where
  pub word_sealed : (wire : ℕ) → n < longest_message → n' ≡ n + 1 → wire ≡ wire_word f g mask p → g' ≡ taken f A g mask p →
      (in_message n' g', Sealed mask p wire) ≡ sealer_made f A (in_message n g) (Seal mask p)
  unfolding sealer_made
  word_sealed wire few more is after = rw (lt-ltb n longest_message few) (λ i. (in_message (more i) (after i), Sealed mask p (is i)))

  pub word_refused : (fault : Fault) → longest_message ≤ n → n' ≡ n → g' ≡ g → fault ≡ Full →
      (in_message n' g', Refused mask p fault) ≡ sealer_made f A (in_message n g) (Seal mask p)
  unfolding sealer_made
  word_refused fault many same after is = rw (le-ltb n longest_message many) (λ i. (in_message (same i) (after i), Refused mask p (is i)))

-- What a slice's type says of its bytes.
pub bytes_fit : (bs : List ℕ) → ((i : ℕ) → get_or bs i 0 < 256) → Every (λ b. b < 256) bs
bytes_fit bs h = every_place (λ b. b < 256) bs 0 (λ i l. h i)

-- A call on either end, noted in the log.
module _ (f A f' A' : ℕ → ℕ) (s s' : SealerState) (r r' : ReceiverState) (log items : List Entry) where
  pub sealer_noted : (x : SealerCall Nonce) (e : SealerEntry) → (s', e) ≡ sealer_made f A s x → items ≡ log ++ OfSealer e ∷ [] →
      (record { sealer = s'; receiver = r }, items) ≡ one_call f A f' A' (record { sealer = s; receiver = r }, log) (OnSealer x)
  unfolding made
  sealer_noted x e one added =
      let all : items ≡ log ++ OfSealer (sealer_made f A s x).1 ∷ [] = added ∙ ap {B = List Entry} (λ o. log ++ OfSealer o.1 ∷ []) one in
      λ i. (record { sealer = (one i).0; receiver = r }, all i)

  pub receiver_noted : (x : ReceiverCall) (e : ReceiverEntry) → (r', e) ≡ receiver_made f' A' r x → items ≡ log ++ OfReceiver e ∷ [] →
      (record { sealer = s; receiver = r' }, items) ≡ one_call f A f' A' (record { sealer = s; receiver = r }, log) (OnReceiver x)
  unfolding made
  receiver_noted x e one added =
      let all : items ≡ log ++ OfReceiver (receiver_made f' A' r x).1 ∷ [] = added ∙ ap {B = List Entry} (λ o. log ++ OfReceiver o.1 ∷ []) one in
      λ i. (record { sealer = s; receiver = (one i).0 }, all i)
