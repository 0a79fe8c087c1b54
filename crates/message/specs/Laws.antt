-- What holds of sealing and opening, in terms of each other and of the two ends of a link.
use Rattle.std.specs.Prelude.{◌≡◌, ℕ, ◌≤◌, ◌↔◌, List, [], ◌∷◌, ◌++◌, map, zip, length, take, filter_map, fold, None, Ok, Err, Vec, vec_items}
use Rattle.std.specs.declared.alloc.Global.{Global}
use Rattle.sss.specs.Bytes.{Octets}
use Rattle.sss.specs.Cipher.{NonceFits, BothRegisters, words_of}
use Rattle.sss.specs.declared.message.MaskedWord.{MaskedWord}
use Rattle.sss.specs.declared.fault.Fault.TheVariants.{TagDiffers}
use Rattle.link.specs.Ends.{Ends, one_call, ready}
use Rattle.link.specs.Issuing.{nonce_bytes}
use Rattle.link.specs.OneEnd.{receiver_call, receiver_entry, sealer_call, sealer_entry}
use Rattle.link.specs.declared.issuer.Nonce.{Nonce}
use Rattle.link.specs.declared.call.Call.{Call}
use Rattle.link.specs.declared.call.Entry.{Entry}
use Rattle.link.specs.declared.call.SealerCall.{SealerCall}
use Rattle.link.specs.declared.call.SealerCall.TheVariants as on_sealer
use Rattle.link.specs.declared.call.SealerEntry.{SealerEntry}
use Rattle.link.specs.declared.call.SealerEntry.TheVariants as sealer
use Rattle.link.specs.declared.call.ReceiverCall.{ReceiverCall}
use Rattle.link.specs.declared.call.ReceiverCall.TheVariants as on_receiver
use Rattle.link.specs.declared.call.ReceiverEntry.{ReceiverEntry}
use Rattle.link.specs.declared.call.ReceiverEntry.TheVariants as receiver
use Rattle.link.specs.declared.reception.Answer.TheVariants.{Reading}
use Rattle.link.specs.declared.reception.Verdict.{Verdict}
use Rattle.link.specs.declared.reception.Verdict.TheVariants.{Agrees, Differs}
use Rattle.message.specs.Buffers.{due_tag, plain_bytes, words_under, written_over}
use Rattle.message.specs.Checks.{open_fault}
use Rattle.message.specs.Outcomes.{CallAnswer, left_by_seal, seal_outcome}

-- The calls by which the link's sealer seals a message, and its entries in a log where these are the wire words and the tag.
abbrev pub sealer_calls : Nonce → List MaskedWord → List (SealerCall Nonce)
sealer_calls n ws = on_sealer.Begin n ∷ map (λ w. on_sealer.Word w.mask w.text) ws ++ on_sealer.Finish ∷ []

abbrev pub sealer_entries : (nonce : List ℕ) → List MaskedWord → (wires tag : List ℕ) → List SealerEntry
sealer_entries nonce ws wires tag =
    sealer.Begun nonce ∷ map (λ x. sealer.Sealed x.0.mask x.0.text x.1) (zip ws wires) ++ sealer.Finished tag ∷ []

-- The calls by which the link's receiver takes a message, and its entries where it hands out these words and says this verdict.
abbrev pub receiver_calls : Vec ℕ Global → List MaskedWord → (tag : List ℕ) → List ReceiverCall
receiver_calls nonce ws tag = on_receiver.Begin nonce ∷ map (λ w. on_receiver.Word w.mask w.text) ws ++ on_receiver.Finish tag ∷ []

abbrev pub receiver_entries : Vec ℕ Global → List MaskedWord → (plains tag : List ℕ) → Verdict → List ReceiverEntry
receiver_entries nonce ws plains tag verdict =
    receiver.Begun nonce ∷ map (λ x. receiver.Received x.0.mask x.0.text (Reading x.1)) (zip ws plains) ++ receiver.Finished tag verdict ∷ []

-- What calls of a run add to the entries of one end, from any ends and any log on, whatever calls are made on the other end in between.
module _ (f A f' A' : ℕ → ℕ) where
  abbrev pub SealerAdds : Ends × List Entry → List Call → List SealerEntry → Type 0
  SealerAdds h calls es = filter_map sealer_entry (fold (one_call f A f' A') h calls).1 ≡ filter_map sealer_entry h.1 ++ es

  abbrev pub ReceiverAdds : Ends × List Entry → List Call → List ReceiverEntry → Type 0
  ReceiverAdds h calls es = filter_map receiver_entry (fold (one_call f A f' A') h calls).1 ≡ filter_map receiver_entry h.1 ++ es

module _ (f A : ℕ → ℕ) where
  -- OPEN AFTER SEAL. What seal made of a plaintext, whatever its buffers held before, opens with the same nonce and masks to that plaintext, in
  -- any output with room for it.
  abbrev pub BackAgain : (nonce masks input output tag : List ℕ) → CallAnswer → (output' : List ℕ) → Type 0
  BackAgain nonce masks input output tag answer output' =
      (plain found found_tag wire : List ℕ) → Octets plain → NonceFits nonce →
      left_by_seal (Ok tt) wire tag ≡ seal_outcome f A nonce masks plain found found_tag → input ≡ take (length plain) wire →
      length plain ≤ length output → (answer ≡ Ok tt) × (output' ≡ written_over plain output)

  -- Open answers well exactly where no check refuses and the tag is the one due.
  abbrev pub WellExactly : (nonce masks input output tag : List ℕ) → CallAnswer → Type 0
  WellExactly nonce masks input output tag answer =
      (answer ≡ Ok tt) ↔ ((open_fault nonce masks input output tag ≡ None) × (tag ≡ due_tag f A nonce masks input))

  -- SEAL AND THE LINK'S SEALER. Where seal answers well, its wire words and its tag are those that a ready sealer makes in a run of the link when it
  -- takes the same nonce, masks and plaintexts, wherever the run stands and whatever g and B the receiver works with.
  abbrev pub LikeSealer : Nonce → (masks input : List ℕ) → CallAnswer → (output' tag' : List ℕ) → Type 0
  LikeSealer n masks input answer output' tag' =
      answer ≡ Ok tt → (g B : ℕ → ℕ) (h : Ends × List Entry) (registers : BothRegisters) → h.0.sealer ≡ ready registers →
      (calls : List Call) → filter_map sealer_call calls ≡ sealer_calls n (words_under masks input) →
      SealerAdds f A g B h calls (sealer_entries (nonce_bytes n) (words_under masks input) (words_of (take (length input) output')) (words_of tag'))

  -- OPEN AND THE LINK'S RECEIVER. Where a receiver in a run of the link takes the same nonce, masks, wire words and tag, wherever the run stands and
  -- whatever g and B the sealer works with: it hands out the words that open does and says "agrees" where open answers well; where open refuses
  -- the tag, it has handed out what open withholds, and says "differs".
  abbrev pub LikeReceiver : (nonce masks input tag : List ℕ) → CallAnswer → (output' : List ℕ) → Type 0
  LikeReceiver nonce masks input tag answer output' =
      (g B : ℕ → ℕ) (h : Ends × List Entry) (v : Vec ℕ Global) → vec_items v ≡ nonce →
      (calls : List Call) → filter_map receiver_call calls ≡ receiver_calls v (words_under masks input) (words_of tag) →
      (answer ≡ Ok tt →
      ReceiverAdds g B f A h calls (receiver_entries v (words_under masks input) (words_of (take (length input) output')) (words_of tag) Agrees)) ×
      (answer ≡ Err TagDiffers →
      ReceiverAdds g B f A h calls (receiver_entries v (words_under masks input) (words_of (plain_bytes f A nonce masks input)) (words_of tag) Differs))

-- All that is promised of open in these terms.
pub record OpenLaws (f A : ℕ → ℕ) (nonce masks input output tag : List ℕ) (answer : CallAnswer) (output' : List ℕ) : Type 0 where
  pub back : BackAgain f A nonce masks input output tag answer output'
  pub exactly : WellExactly f A nonce masks input output tag answer
  pub like_receiver : LikeReceiver f A nonce masks input tag answer output'
