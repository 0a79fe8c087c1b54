-- The outcome of a call on a receiver that is set up, by what the link's receiver that stands there answers and leaves.
use Rattle.std.proofs.Common.{◌≡◌, ◌≢◌, ℕ, cond, List, length, Err, sym, ap, ◌∙◌}
use Rattle.std.specs.Prelude.{nat_le}
use Rattle.std.proofs.lemmas.Bool.{cond-true, cond-false, eq-eqb, ne_eqb}
use Rattle.sss.specs.Cipher.{NonceFits, BothRegisters, begun, keyed, plain_word, product, tag, taken, words_of, zeroed}
use Rattle.sss.specs.declared.fault.Fault.{Fault}
use Rattle.sss.specs.declared.fault.Fault.TheVariants.{Key, Nonce, TagLength}
use Rattle.sss.proofs.Refusals.{nonce_fits_true, nonce_fits_false}
use Rattle.functions.specs.Functions.{from_key_table}
use Rattle.functions.specs.declared.from_key.FromKey.{FromKey}
use Rattle.functions.specs.declared.coefficient.PrintedTable.{PrintedTable}
use Rattle.link.specs.Receiving.{answer_of, decided, verdict_of}
use Rattle.link.specs.declared.receiver.Receiver.{Receiver}
use Rattle.link.specs.declared.reception.Answer.{Answer}
use Rattle.link.specs.declared.reception.Event.TheVariants.{Finish, Word}
use Rattle.link.specs.declared.reception.Reception.{Reception}
use Rattle.link.specs.declared.reception.Reception.TheVariants.{Lost, Whole}
use Rattle.link.specs.declared.reception.Verdict.{Verdict}
use Rattle.message.specs.Outcomes.{CallAnswer}
use Rattle.capi.specs.Calls.{Outcome, WhereFits, answered, done, number_answered, outcome, refused}
use Rattle.capi.specs.Receivers.{LostWithholds, SetUp, Written, answer_given, begin_due, finish_due, function_held, put_down, reception_of, registers_held, verdict_number, word_due, written}
use Rattle.capi.specs.Standing.{Stands}
use Rattle.capi.specs.declared.receiver.FutsambolyReceiver.{FutsambolyReceiver}
use Rattle.capi.specs.declared.receiver.FutsambolyAnswer.{FutsambolyAnswer}

-- The outcome where the receiver is set up.
set_up_so : {M : Type 0} {found : M} {due : Outcome M} {number : ℕ} {left : M} (r : FutsambolyReceiver) → SetUp r → outcome number left ≡ due →
    WhereFits (SetUp r) Key found due number left
set_up_so r fits is = record { fits = λ _. is; unfit = λ unfit. absurd (unfit fits) }

-- A refusal is the outcome of the answer that names it.
refused_so : {M : Type 0} (found : M) (answer : CallAnswer) (fault due : Fault) → answer ≡ Err fault → fault ≡ due →
    answered answer found ≡ refused due found
refused_so found answer fault due is same = λ i. answered ((is ∙ ap Err same) i) found

module _ (r r' : FutsambolyReceiver) (s : Receiver FromKey PrintedTable) (stands : Stands r s) (left : BothRegisters) (reception : Reception) (kept : r' ≡ put_down r left reception) where
  pub begins : (nonce : List ℕ) → NonceFits nonce → left ≡ begun (keyed (from_key_table s.engine.function)) product nonce → reception ≡ Whole →
      WhereFits (SetUp r) Key r (begin_due nonce r) 0 r'
  unfolding begin_due
  begins nonce fits registers whole =
      set_up_so r stands.set_up
      (ap done kept ∙ (λ i. done (put_down r (registers i) (whole i))) ∙ (λ i. done (put_down r (begun (keyed (stands.function i)) product nonce) Whole)) ∙
      sym (cond-true _ _ _ (nonce_fits_true nonce fits)))

  pub takes_word : (mask wire : ℕ) (found given : FutsambolyAnswer) (answer : Answer) →
      answer ≡ answer_of (decided s.footing.reception (Word mask)).1 (plain_word (keyed (from_key_table s.engine.function)) s.engine.registers mask wire) →
      left ≡ taken (keyed (from_key_table s.engine.function)) product s.engine.registers mask (plain_word (keyed (from_key_table s.engine.function)) s.engine.registers mask wire) →
      reception ≡ (decided s.footing.reception (Word mask)).0 → given ≡ answer_given answer →
      WhereFits (SetUp r) Key (written r found) (word_due mask wire r) 0 (written r' given)
  unfolding word_due
  takes_word mask wire found given answer answered registers moved noted =
      set_up_so r stands.set_up
      ((λ i. done (written (kept i) (noted i))) ∙ (λ i. done (written (put_down r (registers i) (moved i)) (answer_given (answered i)))) ∙
      (λ i.
      let plain : ℕ = plain_word (keyed (stands.function i)) (stands.registers i) mask wire in
      done (written (put_down r (taken (keyed (stands.function i)) product (stands.registers i) mask plain) (decided (stands.reception i) (Word mask)).0)
      (answer_given (answer_of (decided (stands.reception i) (Word mask)).1 plain)))))

  pub finishes : (received words : List ℕ) (found number : ℕ) (verdict : Verdict) → length received ≡ 16 → words ≡ words_of received →
      verdict ≡ verdict_of (decided s.footing.reception Finish).1 words (tag (keyed (from_key_table s.engine.function)) s.engine.registers) →
      left ≡ zeroed → reception ≡ Lost 0 → number ≡ verdict_number verdict →
      WhereFits (SetUp r) Key (written r found) (finish_due received (written r found)) 0 (written r' number)
  unfolding finish_due
  finishes received words found number verdict long same judged registers lost noted =
      set_up_so r stands.set_up
      ((λ i. done (written (kept i) (noted i))) ∙ (λ i. done (written (put_down r (registers i) (lost i)) (verdict_number (judged i)))) ∙
      (λ i. done (written (put_down r zeroed (Lost 0))
      (verdict_number (verdict_of (decided (stands.reception i) Finish).1 (same i) (tag (keyed (stands.function i)) (stands.registers i)))))) ∙
      sym (cond-true _ _ _ (eq-eqb (length received) 16 long)))

module _ (r : FutsambolyReceiver) (s : Receiver FromKey PrintedTable) (stands : Stands r s) (answer : CallAnswer) (fault : Fault) (is : answer ≡ Err fault) where
  pub begin_refused : (nonce : List ℕ) → (NonceFits nonce → ⊥) → fault ≡ Nonce → WhereFits (SetUp r) Key r (begin_due nonce r) (number_answered answer) r
  unfolding begin_due
  begin_refused nonce unfit same =
      set_up_so r stands.set_up (refused_so r answer fault Nonce is same ∙ sym (cond-false _ _ _ (nonce_fits_false nonce unfit)))

  pub finish_refused : (received : List ℕ) (found : ℕ) → (length received ≡ 16 → ⊥) → fault ≡ TagLength →
      WhereFits (SetUp r) Key (written r found) (finish_due received (written r found)) (number_answered answer) (written r found)
  unfolding finish_due
  finish_refused received found unfit same =
      set_up_so r stands.set_up (refused_so (written r found) answer fault TagLength is same ∙ sym (cond-false _ _ _ (ne_eqb (length received) 16 unfit)))

-- What a byte that is neither 17 nor 18 says.
says_lost : (byte : ℕ) → byte ≢ 17 → byte ≢ 18 → reception_of byte ≡ Lost (cond (nat_le byte 16) byte 0)
says_lost byte not_caught not_whole = cond-false _ _ _ (ne_eqb byte 18 not_whole) ∙ cond-false _ _ _ (ne_eqb byte 17 not_caught)

-- A lost receiver withholds.
pub lost_withholds : (r : FutsambolyReceiver) (mask wire : ℕ) (found given : FutsambolyAnswer) (number : ℕ) (r' : FutsambolyReceiver) →
    WhereFits (SetUp r) Key (written r found) (word_due mask wire r) number (written r' given) → LostWithholds r given
unfolding word_due
lost_withholds r mask wire found given number r' said fits not_caught not_whole =
    let lost = says_lost r.state not_caught not_whole in
    let is = ap (λ (o : Outcome (Written FutsambolyAnswer)). o.memory.answer) (said.fits fits) in
    let plain = plain_word (function_held r) (registers_held r) mask wire in
    let withheld = is ∙ ap (λ (at : Reception). answer_given (answer_of (decided at (Word mask)).1 plain)) lost in
    (ap (λ (a : FutsambolyAnswer). a.handed_out) withheld, ap (λ (a : FutsambolyAnswer). a.reading) withheld)
