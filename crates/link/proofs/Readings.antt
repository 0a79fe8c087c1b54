-- Where a stretch is part of a message, no reading is false; and a message that is received as it was sent is read as it was given.
use Rattle.std.proofs.Common.{◌≡◌, ℕ, ◌+◌, Bool, cond, eqb, List, [], ◌∷◌, ◌++◌, map, length, get_or, drop, sym, refl, ap, ◌∙◌, subst, inl, inr, Some, None, arith, length-append}
use lib.Bits.{bit_and, bit_xor}
use Rattle.std.specs.List.{AllByRecursion as Every}
use Rattle.std.proofs.lemmas.Bool.{cases_Bool, cond_both, eq-eqb, eqb-true}
use Rattle.sss.specs.Cipher.{BothRegisters, Word, OneToOne, begun, keystream, masked, plain_word, sealed_mask, step, wire_word}
use Rattle.sss.specs.declared.message.MaskedWord.{MaskedWord}
use Rattle.sss.proofs.Words.{xor_undo}
use Rattle.link.specs.Receiving.{row_after, with_row}
use Rattle.link.specs.Log.{Sent, Message, messages, Mark, new, begin, break, finish, Heard, Stretch, wire_of, heard_wire}
use Rattle.link.specs.Law.{Placed, TrueReadings, false_reading, false_readings, Assigned, false_in, false_in_all}
use Rattle.link.specs.declared.reception.Reception.{Reception}
use Rattle.link.specs.declared.reception.Reception.TheVariants.{Whole, Caught, Lost}
use Rattle.link.specs.declared.reception.Answer.{Answer}
use Rattle.link.specs.declared.reception.Answer.TheVariants.{Reading}
use Rattle.link.specs.declared.call.Entry.{Entry}
use Rattle.link.proofs.Every.{every_one}
use Rattle.link.proofs.Register.{steps, forgets, steps_push}
use Rattle.link.proofs.Received.{Sized, WireWord, received, all_received, received_sized, all_received_sized, begun_sized}
use Rattle.link.proofs.Received.{received_sealed, received_same_r}
use Rattle.link.proofs.Invariants.{moved, told, start, SealedFrom, SealedMessage, Starts, Follows, Past}

module _ (f A : ℕ → ℕ) where
  -- a receiver at g in a message whose sealer was at h: in step, or lost after so many sealed words that both took
  abbrev pub Along : Reception → BothRegisters → BothRegisters → Type 0
  Along Whole g h = g.r ≡ h.r
  Along Caught g h = g.r ≡ h.r
  Along (Lost n) g h =
      (us : List ℕ) × (r : List ℕ) × (s : List ℕ) × (length us ≡ n) × (length r ≡ 17) × (length s ≡ 17) × (g.r ≡ steps f r us) ×
      (h.r ≡ steps f s us)

  lost_along : (g h : BothRegisters) → Sized g → Sized h → Along (Lost 0) g h
  unfolding steps
  lost_along g h kg kh = ([], g.r, h.r, refl, kg.r_size, kh.r_size, refl, refl)

  -- In step, the receiver reads what the sealer was given.
  read_right : (g h : BothRegisters) (k p : ℕ) → g.r ≡ h.r → plain_word f g k (wire_word f h k p) ≡ p
  unfolding plain_word wire_word masked
  read_right g h k p e =
      ap (λ (z : List ℕ). bit_xor (bit_xor p (bit_and k (keystream f h.r))) (bit_and k (keystream f z))) e ∙
      xor_undo p (bit_and k (keystream f h.r))

  read_true : (g h : BothRegisters) (k p : ℕ) → g.r ≡ h.r → false_reading (Reading (plain_word f g k (wire_word f h k p))) p ≡ 0
  read_true g h k p e = ap (λ (b : Bool). cond b 0 1) (eq-eqb (plain_word f g k (wire_word f h k p)) p (read_right g h k p e))

  not_false : (s : Reception) (g h : BothRegisters) (k p : ℕ) → Along s g h → false_reading (told f s g k (wire_word f h k p)) p ≡ 0
  not_false Whole g h k p e = read_true g h k p e
  not_false Caught g h k p e = read_true g h k p e
  not_false (Lost n) g h k p e = refl

  -- What was sent and what was received are wire words.
  pub sealed_wire_words : (g : BothRegisters) (ws : List Sent) → SealedFrom f A g ws → Every WireWord (map wire_of ws)
  sealed_wire_words g [] t = tt
  sealed_wire_words g (w ∷ ws) t = (t.1, sealed_wire_words (received f A g w.mask w.wire) ws t.2)

  pub follows_wire_words : (s : Reception) (g : BothRegisters) (ws : List Heard) → Follows f A s g ws → Every WireWord (map heard_wire ws)
  follows_wire_words s g [] t = tt
  follows_wire_words s g (w ∷ ws) t = (t.1, follows_wire_words (moved s w.mask) (received f A g w.mask w.wire) ws t.2)

  -- The words of a message from some word on, and up to some word.
  sealed_after : (g : BothRegisters) (xs ys : List Sent) → SealedFrom f A g (xs ++ ys) → SealedFrom f A (all_received f A g (map wire_of xs)) ys
  unfolding all_received
  sealed_after g [] ys t = t
  sealed_after g (x ∷ xs) ys t = sealed_after (received f A g x.mask x.wire) xs ys t.2

  sealed_upto : (g : BothRegisters) (xs ys : List Sent) → SealedFrom f A g (xs ++ ys) → SealedFrom f A g xs
  sealed_upto g [] ys t = tt
  sealed_upto g (x ∷ xs) ys t = (t.0, t.1, sealed_upto (received f A g x.mask x.wire) xs ys t.2)

  -- The sealer's registers are the same after the word as it was received, where that is the word that was sent.
  sealed_as_heard : (h : BothRegisters) (x : Heard) (y : Sent) (ys : List Sent) → heard_wire x ≡ wire_of y →
      SealedFrom f A (received f A h y.mask y.wire) ys → SealedFrom f A (received f A h x.mask x.wire) ys
  sealed_as_heard h x y ys e t = subst (λ (w : MaskedWord). SealedFrom f A (received f A h w.mask w.text) ys) (sym e) t

  -- What the receiver answers to a word that it received as it was sent.
  told_sent : (s : Reception) (g h : BothRegisters) (x : Heard) (y : Sent) → heard_wire x ≡ wire_of y →
      y.wire ≡ wire_word f h y.mask y.plain → x.answer ≡ told f s g x.mask x.wire →
      x.answer ≡ told f s g y.mask (wire_word f h y.mask y.plain)
  told_sent s g h x y e u t = t ∙ ap (λ (w : MaskedWord). told f s g w.mask w.text) e ∙ ap (told f s g y.mask) u

-- The first elements of two lists that are equal.
pub first_same : {X : Type 0} (x y : X) (xs ys : List X) → x ∷ xs ≡ y ∷ ys → x ≡ y
first_same {X} x y xs ys e = ap (λ (z : List X). get_or z 0 x) e

module _ (f A : ℕ → ℕ) (onef : OneToOne f) (oneA : OneToOne A) where
  -- One more sealed word that both took; with the seventeenth they are in step.
  sealed_on : (n : ℕ) (g h : BothRegisters) (k m : ℕ) → k ≡ sealed_mask → Sized g → Sized h → Along f A (Lost n) g h →
      Along f A (with_row (n + 1)) (received f A g k m) (received f A h k m)
  unfolding with_row
  sealed_on n g h k m e kg kh (us, r, s, lu, lr, ls, eg, eh) =
      let vs : List ℕ = us ++ m ∷ [] in
      let l : length vs ≡ n + 1 = length-append us (m ∷ []) ∙ ap (λ (z : ℕ). z + 1) lu in
      let rg : (received f A g k m).r ≡ steps f r vs =
      ap (λ (z : BothRegisters). z.r) (received_sealed f A onef oneA g k m e kg) ∙ ap (λ (z : List ℕ). step f z m) eg ∙ sym (steps_push f r us m) in
      let rh : (received f A h k m).r ≡ steps f s vs =
      ap (λ (z : BothRegisters). z.r) (received_sealed f A onef oneA h k m e kh) ∙ ap (λ (z : List ℕ). step f z m) eh ∙ sym (steps_push f s us m) in
      cond_both (eqb (n + 1) 17) Caught (Lost (n + 1)) (λ (z : Reception). Along f A z (received f A g k m) (received f A h k m))
      (λ t. rg ∙ forgets f r s vs lr ls (l ∙ eqb-true (n + 1) 17 t) ∙ sym rh)
      (λ t. (vs, r, s, l, lr, ls, rg, rh))

  -- Any word that both took.
  along : (s : Reception) (g h : BothRegisters) (k m : ℕ) → Sized g → Sized h → Word m → Along f A s g h →
      Along f A (moved s k) (received f A g k m) (received f A h k m)
  unfolding row_after with_row
  along Whole g h k m kg kh w a = received_same_r f A g h k m a
  along Caught g h k m kg kh w a = received_same_r f A g h k m a
  along (Lost n) g h k m kg kh w a =
      cond_both (eqb k sealed_mask) (n + 1) 0 (λ (z : ℕ). Along f A (with_row z) (received f A g k m) (received f A h k m))
      (λ t. sealed_on n g h k m (eqb-true k sealed_mask t) kg kh a)
      (λ t. lost_along f A _ _ (received_sized f A onef oneA g k m kg w) (received_sized f A onef oneA h k m kh w))

  -- A receiver that goes along with the sealer through the same words hands out no false reading.
  pub no_false : (s : Reception) (g h : BothRegisters) (xs : List Heard) (ys : List Sent) → Sized g → Sized h → Along f A s g h →
      Follows f A s g xs → SealedFrom f A h ys → map heard_wire xs ≡ map wire_of ys → false_readings xs ys ≡ 0
  no_false s g h [] ys kg kh a t u e = refl
  no_false s g h (x ∷ xs) [] kg kh a t u e = refl
  no_false s g h (x ∷ xs) (y ∷ ys) kg kh a t u e =
      let same : heard_wire x ≡ wire_of y = first_same (heard_wire x) (wire_of y) (map heard_wire xs) (map wire_of ys) e in
      let first : false_reading x.answer y.plain ≡ 0 =
      ap (λ (z : Answer). false_reading z y.plain) (told_sent f A s g h x y same u.0 t.0) ∙
      not_false f A s g h y.mask y.plain a in
      let rest : false_readings xs ys ≡ 0 =
      no_false (moved s x.mask) (received f A g x.mask x.wire) (received f A h x.mask x.wire) xs ys
      (received_sized f A onef oneA g x.mask x.wire kg t.1) (received_sized f A onef oneA h x.mask x.wire kh t.1)
      (along s g h x.mask x.wire kg kh t.1 a) t.2 (sealed_as_heard f A h x y ys same u.2) (ap (drop 1) e) in
      omega arith

  -- Where the two begin: after a begin both at the message's first word, and after any other mark the receiver is lost.
  along_first : (mk : Mark) (g b : BothRegisters) (front : List Sent) (nonce : List ℕ) → Sized g → Sized (all_received f A b (map wire_of front)) →
      Starts f A mk g → b ≡ begun f A nonce → ((bs : List ℕ) → mk ≡ begin bs → (bs ≡ nonce) × (front ≡ [])) →
      Along f A (start mk) g (all_received f A b (map wire_of front))
  unfolding all_received
  along_first new g b front nonce kg kh s e h = lost_along f A g _ kg kh
  along_first (begin bs) g b front nonce kg kh s e h =
      let (same, first) = h bs refl in
      ap (λ (p : BothRegisters). p.r)
      (s.0 ∙ ap (begun f A) same ∙ sym e ∙ ap (λ (y : List Sent). all_received f A b (map wire_of y)) (sym first))
  along_first break g b front nonce kg kh s e h = lost_along f A g _ kg kh
  along_first finish g b front nonce kg kh s e h = lost_along f A g _ kg kh

  -- In a stretch that is placed in a message of the sealer no reading is false.
  pub placed_no_false : (log : List Entry) (s : Stretch) → Past f A s → Every (SealedMessage f A) (messages log) → (p : Placed log s) →
      false_readings s.words p.those ≡ 0
  placed_no_false log s (g, kg, st, fo) sealed p =
      let m : Message = p.message in
      let (bytes, t) = every_one (SealedMessage f A) (messages log) m sealed p.of_sealer in
      let b : BothRegisters = begun f A m.nonce in
      let t' : SealedFrom f A b (p.front ++ (p.those ++ p.back)) = subst (SealedFrom f A b) p.within t in
      let h : BothRegisters = all_received f A b (map wire_of p.front) in
      let kh : Sized h =
      all_received_sized f A onef oneA b (map wire_of p.front) (begun_sized f A onef oneA m.nonce bytes)
      (sealed_wire_words f A b p.front (sealed_upto f A b p.front (p.those ++ p.back) t')) in
      no_false (start s.mark) g h s.words p.those kg kh
      (along_first s.mark g b p.front m.nonce kg kh st refl p.from_first) fo
      (sealed_upto f A h p.those p.back (sealed_after f A b p.front (p.those ++ p.back) t')) p.as_sent

-- A reading that is not counted as false is true.
right_one : (p q : ℕ) → false_reading (Reading p) q ≡ 0 → p ≡ q
right_one p q h =
    elim (cases_Bool (eqb p q)) [
      | inl t ↦ eqb-true p q t
      | inr n ↦ absurd (let o : ◌≡◌ {A = ℕ} 1 0 = sym (ap (λ (b : Bool). cond b 0 1) n) ∙ h in omega arith)
    ]

-- No false reading, and the same words: each reading is true.
pub right : (xs : List Heard) (ys : List Sent) → map heard_wire xs ≡ map wire_of ys → false_readings xs ys ≡ 0 → TrueReadings xs ys
right [] [] e z = tt
right [] (y ∷ ys) e z = absurd cc
right (x ∷ xs) [] e z = absurd cc
right (x ∷ xs) (y ∷ ys) e z =
    let z0 : false_reading x.answer y.plain ≡ 0 = omega arith in
    let zs : false_readings xs ys ≡ 0 = omega arith in
    (λ p a. right_one p y.plain (ap (λ (w : Answer). false_reading w y.plain) (sym a) ∙ z0), right xs ys (ap (drop 1) e) zs)

module _ (f A : ℕ → ℕ) (onef : OneToOne f) (oneA : OneToOne A) where
  -- And each reading is true.
  pub placed_true : (log : List Entry) (s : Stretch) → Past f A s → Every (SealedMessage f A) (messages log) → (p : Placed log s) →
      TrueReadings s.words p.those
  placed_true log s past sealed p = right s.words p.those p.as_sent (placed_no_false f A onef oneA log s past sealed p)

  one_no_false : (log : List Entry) (s : Stretch) → Past f A s → Every (SealedMessage f A) (messages log) → (a : Assigned log s) →
      false_in log s a ≡ 0
  one_no_false log s past sealed None = refl
  one_no_false log s past sealed (Some p) = placed_no_false f A onef oneA log s past sealed p

  -- However the stretches are placed, or left out, no reading is false.
  pub assigned_no_false : (log : List Entry) (ss : List Stretch) → Every (Past f A) ss → Every (SealedMessage f A) (messages log) →
      (a : Every (Assigned log) ss) → false_in_all log ss a ≡ 0
  assigned_no_false log [] past sealed a = refl
  assigned_no_false log (s ∷ ss) past sealed a =
      let one : false_in log s a.0 ≡ 0 = one_no_false log s past.0 sealed a.0 in
      let rest : false_in_all log ss a.1 ≡ 0 = assigned_no_false log ss past.1 sealed a.1 in
      omega arith

  -- A whole receiver in step with the sealer hands out each word, as it was given.
  whole_back : (g h : BothRegisters) (xs : List Heard) (ys : List Sent) → g.r ≡ h.r → Follows f A Whole g xs → SealedFrom f A h ys →
      map heard_wire xs ≡ map wire_of ys → map (λ w. w.answer) xs ≡ map (λ w. Reading w.plain) ys
  whole_back g h [] [] a t u e = refl
  whole_back g h [] (y ∷ ys) a t u e = absurd cc
  whole_back g h (x ∷ xs) [] a t u e = absurd cc
  whole_back g h (x ∷ xs) (y ∷ ys) a t u e =
      let same : heard_wire x ≡ wire_of y = first_same (heard_wire x) (wire_of y) (map heard_wire xs) (map wire_of ys) e in
      let first : x.answer ≡ Reading y.plain =
      told_sent f A Whole g h x y same u.0 t.0 ∙ ap {B = Answer} (λ z. Reading z) (read_right f A g h y.mask y.plain a) in
      let rest : map (λ w. w.answer) xs ≡ map (λ w. Reading w.plain) ys =
      whole_back (received f A g x.mask x.wire) (received f A h x.mask x.wire) xs ys
      (received_same_r f A g h x.mask x.wire a) t.2 (sealed_as_heard f A h x y ys same u.2) (ap (drop 1) e) in
      λ i. first i ∷ rest i

  begin_back : (mk : Mark) (g : BothRegisters) (xs : List Heard) (nonce : List ℕ) (ys : List Sent) → mk ≡ begin nonce → Starts f A mk g →
      Follows f A (start mk) g xs → SealedFrom f A (begun f A nonce) ys → map heard_wire xs ≡ map wire_of ys →
      map (λ w. w.answer) xs ≡ map (λ w. Reading w.plain) ys
  begin_back mk g xs nonce ys b s t u e =
      let s' : Starts f A (begin nonce) g = subst (λ (z : Mark). Starts f A z g) b s in
      let t' : Follows f A Whole g xs = subst (λ (z : Mark). Follows f A (start z) g xs) b t in
      whole_back g (begun f A nonce) xs ys (ap (λ (p : BothRegisters). p.r) s'.0) t' u e

  -- A message that is received as it was sent is read as it was given.
  pub comes_back : (log : List Entry) (s : Stretch) → Past f A s → (m : Message) → SealedMessage f A m → s.mark ≡ begin m.nonce →
      map heard_wire s.words ≡ map wire_of m.words → map (λ w. w.answer) s.words ≡ map (λ w. Reading w.plain) m.words
  comes_back log s (g, kg, st, fo) m sealed b e = begin_back s.mark g s.words m.nonce m.words b st fo sealed.1 e
