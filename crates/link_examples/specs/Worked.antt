-- The calls of the worked history: four messages of run 1, each by what is called on the sealer and then on the receiver. Both ends work with
-- the table that is all zero.
use Rattle.std.specs.Prelude.{◌≡◌, ℕ, List, [], ◌∷◌, ◌++◌, replicate, vec_items}
use Rattle.std.specs.Global.{Vec}
use Rattle.sss.specs.Cipher.{keyed}
use Rattle.link.specs.declared.issuer.Nonce.{Nonce}
use Rattle.link.specs.declared.call.Call.{Call}
use Rattle.link.specs.declared.call.Call.TheVariants.{OnSealer, OnReceiver}
use Rattle.link.specs.declared.call.SealerCall.TheVariants as on_sealer
use Rattle.link.specs.declared.call.ReceiverCall.TheVariants as on_receiver

-- The function of the table that is all zero.
abbrev pub zero_function : ℕ → ℕ
zero_function = keyed (replicate 256 0)

-- The nonce of a message of run 1.
abbrev pub numbered : ℕ → Nonce
numbered n = record { run = 1; message = n }

-- A begin at the sealer, a sealed word there, and one at the receiver.
abbrev pub begins : ℕ → Call
begins n = OnSealer (on_sealer.Begin (numbered n))

abbrev pub seals : ℕ → Call
seals p = OnSealer (on_sealer.Word 65535 p)

abbrev pub hears : ℕ → Call
hears m = OnReceiver (on_receiver.Word 65535 m)

-- An open word at either end.
abbrev pub sends_open : ℕ → Call
sends_open p = OnSealer (on_sealer.Word 0 p)

abbrev pub hears_open : ℕ → Call
hears_open m = OnReceiver (on_receiver.Word 0 m)

-- The tags of the messages 0, 1 and 2.
abbrev pub tag_0 : List ℕ
tag_0 = 25847 ∷ 26128 ∷ 54925 ∷ 29964 ∷ 14058 ∷ 10564 ∷ 24001 ∷ 26668 ∷ []

abbrev pub tag_1 : List ℕ
tag_1 = 51988 ∷ 50012 ∷ 32936 ∷ 47857 ∷ 16713 ∷ 40256 ∷ 58291 ∷ 52770 ∷ []

abbrev pub tag_2 : List ℕ
tag_2 = 34784 ∷ 26745 ∷ 44940 ∷ 18066 ∷ 13358 ∷ 47010 ∷ 29796 ∷ 14406 ∷ []

-- The message 0, of an open and a sealed word, comes as it was sent, with its tag.
unfoldable pub as_sent : Vec ℕ → List Call
as_sent nonce =
    begins 0 ∷ sends_open 7 ∷ seals 4660 ∷ OnSealer on_sealer.Finish ∷ OnReceiver (on_receiver.Begin nonce) ∷ hears_open 7 ∷ hears 7853 ∷
    OnReceiver (on_receiver.Finish tag_0) ∷ []

-- Of the message 1 the second word comes altered in one bit; the tag is the one that was sent.
unfoldable pub altered : Vec ℕ → List Call
altered nonce =
    begins 1 ∷ seals 940 ∷ seals 941 ∷ seals 942 ∷ OnSealer on_sealer.Finish ∷ OnReceiver (on_receiver.Begin nonce) ∷ hears 16320 ∷
    hears 9779 ∷ hears 18738 ∷ OnReceiver (on_receiver.Finish tag_1) ∷ []

-- The message 2, of twenty sealed words, as it is sent.
unfoldable pub sent_across : List Call
sent_across =
    begins 2 ∷ seals 1000 ∷ seals 1001 ∷ seals 1002 ∷ seals 1003 ∷ seals 1004 ∷ seals 1005 ∷ seals 1006 ∷ seals 1007 ∷ seals 1008 ∷
    seals 1009 ∷ seals 1010 ∷ seals 1011 ∷ seals 1012 ∷ seals 1013 ∷ seals 1014 ∷ seals 1015 ∷ seals 1016 ∷ seals 1017 ∷ seals 1018 ∷
    seals 1019 ∷ OnSealer on_sealer.Finish ∷ []

-- Its first word comes, the second is lost, and after the break the others come, with the tag.
unfoldable pub heard_across : Vec ℕ → List Call
heard_across nonce =
    OnReceiver (on_receiver.Begin nonce) ∷ hears 23527 ∷ OnReceiver on_receiver.Break ∷ hears 33663 ∷ hears 55696 ∷ hears 28707 ∷
    hears 31717 ∷ hears 56846 ∷ hears 10786 ∷ hears 41193 ∷ hears 6972 ∷ hears 51368 ∷ hears 58430 ∷ hears 55133 ∷ hears 53500 ∷
    hears 45743 ∷ hears 8625 ∷ hears 16080 ∷ hears 10034 ∷ hears 50494 ∷ hears 49155 ∷
    OnReceiver (on_receiver.Finish tag_2) ∷ []

-- The message 3 is given up by the sealer after its one word, and is never finished at the receiver.
unfoldable pub given_up : Vec ℕ → List Call
given_up nonce =
    begins 3 ∷ seals 943 ∷ OnSealer on_sealer.Abandon ∷ OnReceiver (on_receiver.Begin nonce) ∷ hears 44153 ∷ []

-- All calls, where the receiver's begins have these nonces.
abbrev pub worked_calls : (a b c d : Vec ℕ) → List Call
worked_calls a b c d = as_sent a ++ (altered b ++ (sent_across ++ (heard_across c ++ given_up d)))

-- The bytes of the nonce of a message of run 1.
abbrev pub bytes_of : ℕ → List ℕ
bytes_of n = 1 ∷ 0 ∷ 0 ∷ 0 ∷ n ∷ 0 ∷ []

-- Calls that are made with a nonce of the receiver's, where that has the bytes of this message.
abbrev pub WithNonce : ℕ → (Vec ℕ → List Call) → List Call → Type 0
WithNonce n calls made = (nonce : Vec ℕ) × (vec_items nonce ≡ bytes_of n) × (made ≡ calls nonce)

-- The calls of the worked history: the receiver begins with the nonces that the sealer has.
pub record AreWorked (calls : List Call) : Type 0 where
  pub a : Vec ℕ
  pub b : Vec ℕ
  pub c : Vec ℕ
  pub d : Vec ℕ
  pub of_a : vec_items a ≡ bytes_of 0
  pub of_b : vec_items b ≡ bytes_of 1
  pub of_c : vec_items c ≡ bytes_of 2
  pub of_d : vec_items d ≡ bytes_of 3
  pub are : calls ≡ worked_calls a b c d
