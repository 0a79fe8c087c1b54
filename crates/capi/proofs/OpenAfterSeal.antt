-- What was sealed for C opens again.
use Rattle.std.proofs.Common.{◌≡◌, ℕ, ◌<◌, List, Ok, Err, refl, sym, ap, ◌∙◌, subst, arith}
use Rattle.std.specs.Prelude.{nat_lt}
use Rattle.std.proofs.lemmas.Bool.{cond_both}
use Rattle.sss.specs.Cipher.{NonceFits, product}
use Rattle.sss.specs.Faults.{number_of}
use Rattle.sss.specs.declared.fault.Fault.{Fault}
use Rattle.sss.specs.declared.fault.Fault.TheVariants.{Exhausted, Key, Table, Nonce, Full, Input, Masks, Output, TagLength, TagDiffers, UnknownCommand, CutOff, NoRoom, TooLong}
use Rattle.link.specs.Issuing.{nonce_bytes}
use Rattle.message.specs.Laws.{BackAgain}
use Rattle.message.specs.Outcomes.{CallAnswer, SealOutcome, left_by_seal, seal_outcome}
use Rattle.capi.specs.Calls.{Outcome, answered, done, number_answered, refused}
use Rattle.capi.specs.Issuers.{counted, next_nonce}
use Rattle.capi.specs.Whole.{OpensAgain, SealingMemory, sealing_due, sealing_memory}
use Rattle.capi.specs.declared.issuer.FutsambolyIssuer.{FutsambolyIssuer}

-- The number of a refusal is not 0.
numbered : (fault : Fault) → 0 < number_of fault
numbered Key = omega arith
numbered Table = omega arith
numbered Nonce = omega arith
numbered Exhausted = omega arith
numbered Full = omega arith
numbered Input = omega arith
numbered Masks = omega arith
numbered Output = omega arith
numbered TagLength = omega arith
numbered TagDiffers = omega arith
numbered (UnknownCommand place) = omega arith
numbered (CutOff place) = omega arith
numbered (NoRoom place) = omega arith
numbered TooLong = omega arith

well_answered : (answer : CallAnswer) → 0 ≡ number_answered answer → answer ≡ Ok tt
well_answered (Ok u) e = refl
well_answered (Err fault) e = absurd (omega (arith, e, numbered fault))

-- An issuer's nonce has six bytes.
next_nonce_fits : (issuer : FutsambolyIssuer) → NonceFits (next_nonce issuer)
unfolding nonce_bytes
next_nonce_fits issuer = (refl, omega arith)

-- What is known of the memory that a call left which sealed a message.
record Sealed (f : ℕ → ℕ) (masks plain : List ℕ) (found left : SealingMemory) : Type 0 where
  pub nonce : left.nonce.bytes ≡ next_nonce found.issuer
  pub sealed : left_by_seal (Ok tt) left.output left.tag ≡ seal_outcome f product (next_nonce found.issuer) masks plain found.output found.tag

sealed_so : (f : ℕ → ℕ) (masks plain : List ℕ) (found left : SealingMemory) → done left ≡ sealing_due f masks plain found → Sealed f masks plain found left
unfolding sealing_due
sealed_so f masks plain found left =
    let nonce : List ℕ = next_nonce found.issuer in
    let sealed : SealOutcome = seal_outcome f product nonce masks plain found.output found.tag in
    cond_both (nat_lt found.issuer.next 65536)
    (answered sealed.answer (sealing_memory (counted found.issuer) sealed.output sealed.tag (record { bytes = nonce })))
    (refused Exhausted found)
    (λ (o : Outcome SealingMemory). done left ≡ o → Sealed f masks plain found left)
    (λ room is.
    let well : sealed.answer ≡ Ok tt = well_answered sealed.answer (ap (λ (o : Outcome SealingMemory). o.number) is) in
    record {
      nonce = ap (λ (o : Outcome SealingMemory). o.memory.nonce.bytes) is;
      sealed = λ i. left_by_seal (sym well i) (is i).memory.output (is i).memory.tag;
    })
    (λ full is. absurd (let never : 0 ≡ 4 = ap (λ (o : Outcome SealingMemory). o.number) is in omega arith))

pub opens_again : (f : ℕ → ℕ) (nonce masks input tag output : List ℕ) (answer : CallAnswer) (output' : List ℕ) →
    BackAgain f product nonce masks input output tag answer output' → OpensAgain f nonce masks input tag output (number_answered answer) output'
opens_again f nonce masks input tag output answer output' law plain found left octets sealed same_nonce front same_tag room =
    let told = sealed_so f masks plain found left sealed in
    let nonce_is : nonce ≡ next_nonce found.issuer = same_nonce ∙ told.nonce in
    let opened =
    law plain found.output found.tag left.output octets (subst NonceFits (sym nonce_is) (next_nonce_fits found.issuer))
    ((λ i. left_by_seal (Ok tt) left.output (same_tag i)) ∙ told.sealed ∙ ap (λ (n : List ℕ). seal_outcome f product n masks plain found.output found.tag) (sym nonce_is))
    front room in
    (ap number_answered opened.0, opened.1)

-- The same of a function, a number and an output that are the same.
pub opens_again_too : {f g : ℕ → ℕ} (nonce masks input tag output : List ℕ) {n n' : ℕ} {left left' : List ℕ} → OpensAgain f nonce masks input tag output n left →
    f ≡ g → n' ≡ n → left' ≡ left → OpensAgain g nonce masks input tag output n' left'
opens_again_too nonce masks input tag output law same number rest plain found before octets sealed same_nonce front same_tag room =
    let opened = law plain found before octets (sealed ∙ sym (ap (λ (h : ℕ → ℕ). sealing_due h masks plain found) same)) same_nonce front same_tag room in
    (number ∙ opened.0, rest ∙ opened.1)
