-- A receiver in C's memory: what its fields stand for, and what each call on it comes to.
use Rattle.std.specs.Prelude.{◌≡◌, ◌≢◌, ℕ, ◌≤◌, cond, List, length, replicate, take, ◌==◌, nat_le}
use Rattle.sss.specs.Cipher.{BothRegisters, begun, key_table, keyed, nonce_fits, plain_word, product, tag, taken, words_of, zeroed}
use Rattle.sss.specs.declared.fault.Fault.TheVariants.{Nonce, TagLength}
use Rattle.link.specs.Receiving.{answer_of, decided, verdict_of}
use Rattle.link.specs.declared.reception.Answer.{Answer}
use Rattle.link.specs.declared.reception.Answer.TheVariants.{Reading, Withheld}
use Rattle.link.specs.declared.reception.Event.TheVariants.{Finish, Word}
use Rattle.link.specs.declared.reception.Reception.{Reception}
use Rattle.link.specs.declared.reception.Reception.TheVariants.{Whole, Caught, Lost}
use Rattle.link.specs.declared.reception.Verdict.{Verdict}
use Rattle.link.specs.declared.reception.Verdict.TheVariants.{Agrees, Differs, Broken}
use Rattle.message.specs.Buffers.{written_over}
use Rattle.capi.specs.Calls.{Outcome, done, refused}
use Rattle.capi.specs.declared.receiver.FutsambolyReceiver.{FutsambolyReceiver}
use Rattle.capi.specs.declared.receiver.FutsambolyAnswer.{FutsambolyAnswer}

-- A receiver is set up where its key has 1 to 16 bytes. These are the key, and the map on words that it means.
abbrev pub SetUp : FutsambolyReceiver → Type 0
SetUp r = (1 ≤ r.key_length) × (r.key_length ≤ 16)

abbrev pub key_of : FutsambolyReceiver → List ℕ
key_of r = take r.key_length r.key

abbrev pub function_held : FutsambolyReceiver → ℕ → ℕ
function_held r = keyed (key_table (key_of r))

-- Its registers.
abbrev pub registers_held : FutsambolyReceiver → BothRegisters
registers_held r = record { r = r.cipher; c = r.check }

-- Where it stands, by its byte: 18 is whole, 17 is caught, 0 to 16 is lost with that row, and any other is lost with row 0.
abbrev pub reception_of : ℕ → Reception
reception_of byte = cond (byte == 18) Whole (cond (byte == 17) Caught (Lost (cond (nat_le byte 16) byte 0)))

abbrev pub byte_of : Reception → ℕ
byte_of Whole = 18
byte_of Caught = 17
byte_of (Lost row) = row

-- The receiver once it stands there with these registers: its key stays.
abbrev pub put_down : FutsambolyReceiver → BothRegisters → Reception → FutsambolyReceiver
put_down r registers reception =
    record { cipher = registers.r; check = registers.c; key = r.key; key_length = r.key_length; state = byte_of reception }

-- A new one: its key with zeros behind it, registers of zero, lost with row 0.
abbrev pub new_receiver : (key : List ℕ) → FutsambolyReceiver
new_receiver key =
    record { cipher = replicate 17 0; check = replicate 17 0; key = written_over key (replicate 16 0); key_length = length key; state = 0 }

-- An answer to a word: a reading, or 0 with the row where it is withheld.
abbrev pub answer_given : Answer → FutsambolyAnswer
answer_given (Reading plain) = record { reading = plain; handed_out = 1; row = 0 }
answer_given (Withheld row) = record { reading = 0; handed_out = 0; row = row }

abbrev pub verdict_number : Verdict → ℕ
verdict_number Agrees = 1
verdict_number Differs = 2
verdict_number Broken = 3

-- What a call may write: the receiver, and the answer or the number of the verdict.
pub record Written (T : Type 0) : Type 0 where
  pub receiver : FutsambolyReceiver
  pub answer : T

abbrev pub written : {T : Type 0} → FutsambolyReceiver → T → Written T
written receiver answer = record { receiver = receiver; answer = answer }

-- WHAT THE CALLS ON A RECEIVER THAT IS SET UP COME TO. A begin: it is whole, with the registers of the nonce. A nonce that does not fit is refused.
unfoldable pub begin_due : (nonce : List ℕ) → FutsambolyReceiver → Outcome FutsambolyReceiver
begin_due nonce r = cond (nonce_fits nonce) (done (put_down r (begun (function_held r) product nonce) Whole)) (refused Nonce r)

-- A word: both registers take it, whatever the state. State and mask decide where the receiver then stands, and what is handed out.
unfoldable pub word_due : (mask wire : ℕ) → FutsambolyReceiver → Outcome (Written FutsambolyAnswer)
word_due mask wire r =
    let plain : ℕ = plain_word (function_held r) (registers_held r) mask wire in
    done (written (put_down r (taken (function_held r) product (registers_held r) mask plain) (decided (reception_of r.state) (Word mask)).0)
    (answer_given (answer_of (decided (reception_of r.state) (Word mask)).1 plain)))

-- A break: it is lost with row 0, and no register is touched.
abbrev pub break_due : FutsambolyReceiver → Outcome FutsambolyReceiver
break_due r = done (put_down r (registers_held r) (Lost 0))

-- A finish: the verdict on the tag, and it is lost with row 0, its registers zero. A tag that has not 16 bytes is refused.
unfoldable pub finish_due : (received : List ℕ) → Written ℕ → Outcome (Written ℕ)
finish_due received found =
    let r : FutsambolyReceiver = found.receiver in
    let drawn : List ℕ = tag (function_held r) (registers_held r) in
    cond (length received == 16)
    (done (written (put_down r zeroed (Lost 0)) (verdict_number (verdict_of (decided (reception_of r.state) Finish).1 (words_of received) drawn))))
    (refused TagLength found)

-- A LOST RECEIVER WITHHOLDS, whatever its registers hold: where it is set up and its byte is neither 17 nor 18, a word is not handed out, and its
-- reading is 0.
abbrev pub LostWithholds : FutsambolyReceiver → FutsambolyAnswer → Type 0
LostWithholds r answer = SetUp r → r.state ≢ 17 → r.state ≢ 18 → (answer.handed_out ≡ 0) × (answer.reading ≡ 0)
