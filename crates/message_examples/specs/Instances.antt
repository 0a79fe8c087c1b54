-- A message that comes back: for each premise of open's and seal's laws an instance, with what the law then says of it.
use Rattle.std.specs.Prelude.{◌≡◌, ℕ, List, [], ◌∷◌, map, length, take, replicate, Ok, Vec, vec_items}
use Rattle.std.specs.declared.alloc.Global.{Global}
use Rattle.sss.specs.Cipher.{NonceFits, keyed, product, words_of}
use Rattle.link.specs.Ends.{new_ends}
use Rattle.link.specs.declared.call.Call.TheVariants.{OnSealer, OnReceiver}
use Rattle.link.specs.declared.issuer.Nonce.{Nonce}
use Rattle.link.specs.declared.reception.Verdict.TheVariants.{Agrees}
use Rattle.link.specs.Issuing.{nonce_bytes}
use Rattle.message.specs.Buffers.{words_under}
use Rattle.message.specs.Laws.{ReceiverAdds, SealerAdds, receiver_calls, receiver_entries, sealer_calls, sealer_entries}
use Rattle.message.specs.Outcomes.{left_by_seal, seal_outcome}

-- The function of the table that is all zero.
abbrev pub zero_function : ℕ → ℕ
zero_function = keyed (replicate 256 0)

-- A sealed, an open and a part word: their masks and their plaintext.
abbrev pub the_masks : List ℕ
the_masks = 0xFF ∷ 0xFF ∷ 0x00 ∷ 0x00 ∷ 0xFF ∷ 0x0F ∷ []

abbrev pub the_plain : List ℕ
the_plain = 0xAC ∷ 0x03 ∷ 0xD0 ∷ 0x07 ∷ 0xD1 ∷ 0x03 ∷ []

-- A new sealer in a run of the link, with no call on the receiver, makes the same wire words and the same tag.
abbrev pub LikeNewSealer : Nonce → (wire tag : List ℕ) → Type 0
LikeNewSealer nonce wire tag =
    let ws = words_under the_masks the_plain in
    SealerAdds zero_function product zero_function product (new_ends, []) (map OnSealer (sealer_calls nonce ws))
    (sealer_entries (nonce_bytes nonce) ws (words_of wire) (words_of tag))

-- The three words are sealed: what seal left in buffers of zeros, by the definitions and in a run of the link.
pub record IsSealed (nonce wire tag : List ℕ) : Type 0 where
  pub drawn : Nonce
  pub nonce_is : nonce ≡ nonce_bytes drawn
  pub fits : NonceFits nonce
  pub long : length wire ≡ 6
  pub sealed : left_by_seal (Ok tt) wire tag ≡ seal_outcome zero_function product nonce the_masks the_plain (replicate 6 0) (replicate 16 0)
  pub like_sealer : LikeNewSealer drawn (take 6 wire) tag

-- A new receiver in a run of the link, with no call on the sealer, hands the same words out and says "agrees", whatever holds the bytes of the nonce.
abbrev pub LikeNewReceiver : (nonce wire tag opened : List ℕ) → Type 0
LikeNewReceiver nonce wire tag opened =
    (v : Vec ℕ Global) → vec_items v ≡ nonce →
    let ws = words_under the_masks wire in
    ReceiverAdds zero_function product zero_function product (new_ends, []) (map OnReceiver (receiver_calls v ws (words_of tag)))
    (receiver_entries v ws (words_of (take (length wire) opened)) (words_of tag) Agrees)

-- What was sealed so has come back.
pub record CameBack (opened : List ℕ) : Type 0 where
  pub nonce : List ℕ
  pub wire : List ℕ
  pub tag : List ℕ
  pub sealed : IsSealed nonce wire tag
  pub back : opened ≡ the_plain
  pub like_receiver : LikeNewReceiver nonce wire tag opened
