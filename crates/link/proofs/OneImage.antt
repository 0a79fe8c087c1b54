-- Two coefficients that are one map on words make one run: of other numbers they are never asked.
use Rattle.std.proofs.Common.{◌≡◌, ℕ, zero, suc, ◌<◌, cond, List, [], ◌∷◌, ◌++◌, drop, get_or, vec_items, sym, refl, ap, ◌∙◌, arith}
use lib.Bits.{bit_xor}
use Rattle.std.specs.List.{AllByRecursion as Every}
use Rattle.sss.specs.Cipher.{BothRegisters, Word, Words, OneToOne, begun, check_step, ciphertext, keystream, mactext, nonce_taken, nonces_taken, open_zeros, plain_word, step, taken, words_of, zeroed, nonce_fits}
use Rattle.sss.specs.declared.Fault.TheVariants.{Nonce}
use Rattle.link.specs.Receiving.{answer_of, decided}
use Rattle.link.specs.Ends.{Ends, ReceiverState, ReceiverCallFits, CallFits, made, receiver_made}
use Rattle.link.specs.Histories.{SameOnWords}
use Rattle.link.specs.declared.call.Call.{Call}
use Rattle.link.specs.declared.call.Call.TheVariants.{OnSealer, OnReceiver}
use Rattle.link.specs.declared.call.Entry.{Entry}
use Rattle.link.specs.declared.call.Entry.TheVariants.{OfReceiver}
use Rattle.link.specs.declared.call.ReceiverCall.{ReceiverCall}
use Rattle.link.specs.declared.call.ReceiverCall.TheVariants.{Begin as Hear, Word as Take, Break, Finish as End}
use Rattle.link.specs.declared.call.ReceiverEntry.{ReceiverEntry}
use Rattle.link.specs.declared.call.ReceiverEntry.TheVariants as receiver
use Rattle.link.specs.declared.reception.Event.TheVariants as event
use Rattle.link.specs.declared.reception.Reception.TheVariants.{Whole}
use Rattle.sss.proofs.Bytes.{all_words, octets_read}
use Rattle.link.proofs.Received.{Sized, nonces_sized, taken_sized, zeroed_sized}

module _ (f A B : ℕ → ℕ) (onef : OneToOne f) (oneA : OneToOne A) (same : SameOnWords A B) where
  -- A step of the check register, a word, and a begin.
  check_same : (c : List ℕ) (M : ℕ) → Words c → check_step B c M ≡ check_step A c M
  unfolding check_step
  check_same c M h =
      ap (λ (x : ℕ). drop 1 c ++ bit_xor (bit_xor (bit_xor M x) (get_or c 4 0)) (get_or c 15 0) ∷ []) (sym (same (get_or c 0 0) (h 0)))

  taken_same : (g : BothRegisters) (mask p : ℕ) → Sized g → taken f B g mask p ≡ taken f A g mask p
  unfolding taken
  taken_same g mask p h =
      ap (λ (c : List ℕ). record { r = step f g.r (ciphertext f g.r p); c = c }) (check_same g.c (mactext mask (keystream f g.r) p) h.c_words)

  nonces_same : (g : BothRegisters) (ns : List ℕ) → Sized g → Every Word ns → nonces_taken f B g ns ≡ nonces_taken f A g ns
  unfolding nonces_taken nonce_taken
  nonces_same g [] h a = refl
  nonces_same g (n ∷ ns) h a =
      ap (λ (c : List ℕ). nonces_taken f B (record { r = step f g.r n; c = c }) ns) (check_same g.c (bit_xor n (keystream f g.r)) h.c_words) ∙
      nonces_same (nonce_taken f A g n) ns (nonces_sized f A onef oneA g (n ∷ []) h (a.0, tt)) a.1

  zeros_same : (n : ℕ) (g : BothRegisters) → Sized g → open_zeros f B n g ≡ open_zeros f A n g
  unfolding open_zeros
  zeros_same zero g h = refl
  zeros_same (suc n) g h =
      ap (open_zeros f B n) (taken_same g 0 0 h) ∙ zeros_same n (taken f A g 0 0) (taken_sized f A onef oneA g 0 0 h (omega arith))

  begun_same : (nonce : List ℕ) → Every (λ b. b < 256) nonce → begun f B nonce ≡ begun f A nonce
  unfolding begun
  begun_same nonce h =
      let ns : List ℕ = words_of nonce in
      ap (open_zeros f B 17) (nonces_same zeroed ns zeroed_sized (all_words nonce (octets_read nonce h))) ∙
      zeros_same 17 (nonces_taken f A zeroed ns) (nonces_sized f A onef oneA zeroed ns zeroed_sized (all_words nonce (octets_read nonce h)))

  -- A call on the receiver.
  receiver_same : (s : ReceiverState) (x : ReceiverCall) → Sized s.registers → ReceiverCallFits x → receiver_made f B s x ≡ receiver_made f A s x
  unfolding receiver_made
  receiver_same s (Hear nonce) h fits =
      ap {B = ReceiverState × ReceiverEntry} (λ (g : BothRegisters).
      cond (nonce_fits (vec_items nonce)) (record { reception = Whole; registers = g }, receiver.Begun nonce) (s, receiver.Refused nonce Nonce))
      (begun_same (vec_items nonce) fits)
  receiver_same s (Take mask m) h fits =
      let p : ℕ = plain_word f s.registers mask m in
      let d = decided s.reception (event.Word mask) in
      ap {B = ReceiverState × ReceiverEntry} (λ (g : BothRegisters). (record { reception = d.0; registers = g }, receiver.Received mask m (answer_of d.1 p)))
      (taken_same s.registers mask p h)
  receiver_same s Break h fits = refl
  receiver_same s (End t) h fits = refl

  -- A call on either end.
  pub made_same : (s : Ends) (x : Call) → Sized s.receiver.registers → CallFits x → made f A f B s x ≡ made f A f A s x
  unfolding made
  made_same s (OnSealer x) h fits = refl
  made_same s (OnReceiver x) h fits =
      ap {B = Ends × Entry} (λ (o : ReceiverState × ReceiverEntry). (record { sealer = s.sealer; receiver = o.0 }, OfReceiver o.1))
      (receiver_same s.receiver x h fits)
