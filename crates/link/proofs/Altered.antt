-- An altered word shows in the check register, and then in the register that the tag is drawn from.
use Rattle.std.proofs.Common.{◌≡◌, ℕ, zero, suc, ◌+◌, ◌-◌, ◌<◌, ◌≤◌, ◌≢◌, List, [], ◌∷◌, ◌++◌, map, reverse, length, get_or, take, drop, sym, refl, ap, ◌∙◌, subst, inl, inr, arith}
use lib.Bits.{bit_and, bit_xor}
use Rattle.std.specs.List.{AllByRecursion as Every}
use Rattle.std.proofs.lemmas.Bool.{cases_lt}
use Rattle.std.proofs.lemmas.List.{ext_get_or, get_or_append_left, get_or-drop, get_or_push, length-drop, length-map, length-reverse, length-take-le, reverse-reverse, take-append-drop}
use Rattle.sss.specs.Cipher.{Word, Words, BothRegisters, OneToOne, complement, check_step, keystream, ciphertext, masked, mactext}
use Rattle.sss.specs.Cipher.{taken, plain_word, fed, all_fed, drawn_from, sealed_mask}
use Rattle.sss.specs.declared.message.MaskedWord.{MaskedWord}
use Rattle.sss.proofs.Bytes.{words_read}
use Rattle.sss.proofs.Words.{xor_cancel, xor_cancel_left}
use Rattle.link.specs.Law.{SealedWord}
use Rattle.link.proofs.Every.{every_drop, every_reversed, every_take}
use Rattle.link.proofs.Keystream.{keystream_latest}
use Rattle.link.proofs.Register.{step_size, steps, forgets, remembers, steps_same}
use Rattle.link.proofs.Received.{WireWord, Sized, received, all_from, all_received, step_words, ciphertext_word, plain_is_word, received_sized, all_received_sized}
use Rattle.link.proofs.Received.{received_sealed, all_received_sealed_r, received_same_r, all_received-++}

module _ (A : ℕ → ℕ) where
  -- Each cell of the check register but the last moves down one place.
  check_moves : (c : List ℕ) (M i : ℕ) → length c ≡ 17 → i < 16 → get_or (check_step A c M) i 0 ≡ get_or c (suc i) 0
  unfolding check_step
  check_moves c M i e h =
      get_or_append_left (drop 1 c) _ 0 i (omega (arith, length-drop 1 c)) ∙ get_or-drop 1 c i 0 ∙ ap (λ (k : ℕ). get_or c k 0) (omega arith)

  -- What enters at the last.
  pub check_enters : (c : List ℕ) (M : ℕ) → length c ≡ 17 →
      get_or (check_step A c M) 16 0 ≡ bit_xor (bit_xor (bit_xor M (A (get_or c 0 0))) (get_or c 4 0)) (get_or c 15 0)
  unfolding check_step
  check_enters c M e = get_or_push (drop 1 c) _ 0 16 (omega (arith, length-drop 1 c))

  -- Check registers that agree at 4 and 15 and take in one last cell: what was added to those two cells.
  check_sums : (c d : List ℕ) (M N : ℕ) → length c ≡ 17 → length d ≡ 17 → get_or c 4 0 ≡ get_or d 4 0 → get_or c 15 0 ≡ get_or d 15 0 →
      get_or (check_step A c M) 16 0 ≡ get_or (check_step A d N) 16 0 → bit_xor M (A (get_or c 0 0)) ≡ bit_xor N (A (get_or d 0 0))
  check_sums c d M N lc ld e4 e15 e =
      let a : ℕ = bit_xor M (A (get_or c 0 0)) in
      let b : ℕ = bit_xor N (A (get_or d 0 0)) in
      let l : bit_xor (bit_xor a (get_or c 4 0)) (get_or c 15 0) ≡ bit_xor (bit_xor b (get_or d 4 0)) (get_or d 15 0) =
      sym (check_enters c M lc) ∙ e ∙ check_enters d N ld in
      let l15 : bit_xor a (get_or c 4 0) ≡ bit_xor b (get_or d 4 0) =
      xor_cancel (bit_xor a (get_or c 4 0)) (bit_xor b (get_or d 4 0)) (get_or c 15 0) (l ∙ ap (bit_xor (bit_xor b (get_or d 4 0))) (sym e15)) in
      xor_cancel a b (get_or c 4 0) (l15 ∙ ap (bit_xor b) (sym e4))

  -- Where they agree at 0 too, they took in one word.
  check_last : (c d : List ℕ) (M N : ℕ) → length c ≡ 17 → length d ≡ 17 →
      get_or c 0 0 ≡ get_or d 0 0 → get_or c 4 0 ≡ get_or d 4 0 → get_or c 15 0 ≡ get_or d 15 0 →
      get_or (check_step A c M) 16 0 ≡ get_or (check_step A d N) 16 0 → M ≡ N
  check_last c d M N lc ld e0 e4 e15 e =
      xor_cancel M N (A (get_or c 0 0)) (check_sums c d M N lc ld e4 e15 e ∙ ap (λ (x : ℕ). bit_xor N (A x)) (sym e0))

  -- Equal check registers after one word were equal before it.
  check_back : OneToOne A → (c d : List ℕ) (M : ℕ) → length c ≡ 17 → length d ≡ 17 → Words c → Words d →
      check_step A c M ≡ check_step A d M → c ≡ d
  check_back one c d M lc ld p q e =
      let at : (i : ℕ) → i < 16 → get_or c (suc i) 0 ≡ get_or d (suc i) 0 =
      λ i h. sym (check_moves c M i lc h) ∙ ap (λ (x : List ℕ). get_or x i 0) e ∙ check_moves d M i ld h in
      let first : get_or c 0 0 ≡ get_or d 0 0 =
      one.apart (get_or c 0 0) (get_or d 0 0) (p 0) (q 0)
      (xor_cancel_left M (A (get_or c 0 0)) (A (get_or d 0 0))
      (check_sums c d M M lc ld (at 3 (omega arith)) (at 14 (omega arith)) (ap (λ (x : List ℕ). get_or x 16 0) e))) in
      let each : (i : ℕ) → i < 17 → get_or c i 0 ≡ get_or d i 0 = λ i.
      elim i as (λ j. j < 17 → get_or c j 0 ≡ get_or d j 0) [ zero ↦ λ h. first | suc j ↦ λ h. at j (omega arith) ] in
      ext_get_or 0 c d (lc ∙ sym ld) (λ i h. each i (omega arith))

module _ (f A : ℕ → ℕ) where
  pub received_moves : (g : BothRegisters) (k m i : ℕ) → Sized g → i < 16 → get_or (received f A g k m).c i 0 ≡ get_or g.c (suc i) 0
  unfolding received taken
  received_moves g k m i h l = check_moves A g.c _ i h.c_size l

  -- Equal check registers after one word from equal cipher registers were equal before it.
  received_back : OneToOne A → (g h : BothRegisters) (k m : ℕ) → Sized g → Sized h → g.r ≡ h.r →
      (received f A g k m).c ≡ (received f A h k m).c → g.c ≡ h.c
  unfolding received taken plain_word
  received_back oneA g h k m p q e s =
      let mac : List ℕ → ℕ = λ x. mactext k (keystream f x) (masked k (keystream f x) m) in
      check_back A oneA g.c h.c (mac g.r) p.c_size q.c_size p.c_words q.c_words
      (s ∙ ap (λ (x : List ℕ). check_step A h.c (mac x)) (sym e))

  -- Two words from one state that leave one last check cell are one word.
  pub received_last : (g : BothRegisters) (k m n : ℕ) → Sized g → get_or (received f A g k m).c 16 0 ≡ get_or (received f A g k n).c 16 0 → m ≡ n
  unfolding received taken plain_word masked mactext
  received_last g k m n h e =
      let v : ℕ = keystream f g.r in
      let x : ℕ = bit_and (complement k) v in
      let M : ℕ = bit_xor (bit_xor m (bit_and k v)) x in
      let N : ℕ = bit_xor (bit_xor n (bit_and k v)) x in
      let d : M ≡ N = check_last A g.c g.c M N h.c_size h.c_size refl refl refl e in
      xor_cancel m n (bit_and k v) (xor_cancel (bit_xor m (bit_and k v)) (bit_xor n (bit_and k v)) x d)

  -- Two words from one state that enter the cipher register as one are one word.
  pub received_enters : (g : BothRegisters) (k m n : ℕ) →
      ciphertext f g.r (plain_word f g k m) ≡ ciphertext f g.r (plain_word f g k n) → m ≡ n
  unfolding plain_word masked ciphertext
  received_enters g k m n e =
      let v : ℕ = keystream f g.r in
      xor_cancel m n (bit_and k v) (xor_cancel (bit_xor m (bit_and k v)) (bit_xor n (bit_and k v)) v e)

module _ (f A : ℕ → ℕ) (onef : OneToOne f) (oneA : OneToOne A) where
  pub all_received_moves : (g : BothRegisters) (ws : List MaskedWord) (i : ℕ) → Sized g → Every WireWord ws → i + length ws ≤ 16 →
      get_or (all_received f A g ws).c i 0 ≡ get_or g.c (i + length ws) 0
  unfolding all_received
  all_received_moves g [] i h l b = ap (λ (k : ℕ). get_or g.c k 0) (omega arith)
  all_received_moves g (w ∷ ws) i h l b =
      all_received_moves (received f A g w.mask w.text) ws i (received_sized f A onef oneA g w.mask w.text h l.0) l.1 (omega arith) ∙
      received_moves f A g w.mask w.text (i + length ws) h (omega arith) ∙ ap (λ (k : ℕ). get_or g.c k 0) (omega arith)

  -- Equal check registers after the same words from equal cipher registers were equal before them.
  all_received_back : (g h : BothRegisters) (ws : List MaskedWord) → Sized g → Sized h → Every WireWord ws → g.r ≡ h.r →
      (all_received f A g ws).c ≡ (all_received f A h ws).c → g.c ≡ h.c
  unfolding all_received
  all_received_back g h [] p q l e s = s
  all_received_back g h (w ∷ ws) p q l e s =
      received_back f A oneA g h w.mask w.text p q e
      (all_received_back (received f A g w.mask w.text) (received f A h w.mask w.text) ws
      (received_sized f A onef oneA g w.mask w.text p l.0) (received_sized f A onef oneA h w.mask w.text q l.0) l.1
      (received_same_r f A g h w.mask w.text e) s)

  -- Two words from one state with one keystream after them are one word.
  keystream_back : (g : BothRegisters) → Sized g → (k m n : ℕ) → Word m → Word n →
      keystream f (received f A g k m).r ≡ keystream f (received f A g k n).r → m ≡ n
  unfolding received taken
  keystream_back g h k m n wm wn e =
      let enters : ℕ → ℕ = λ z. ciphertext f g.r (plain_word f g k z) in
      let words : (z : ℕ) → Word z → Word (enters z) =
      λ z wz. ciphertext_word f onef g.r (plain_word f g k z) h.r_words (plain_is_word f A onef oneA g k z h wz) in
      received_enters f A g k m n
      (keystream_latest f onef g.r (enters m) (enters n) h.r_size (words m wm) (words n wn) e)

  -- The word after the altered one: its keystreams differ, and so do the words that enter the check register.
  pub second : (g : BothRegisters) → Sized g → (k m n x y : ℕ) → Word m → Word n → x ≡ sealed_mask →
      get_or (received f A (received f A g k m) x y).c 16 0 ≡ get_or (received f A (received f A g k n) x y).c 16 0 → m ≡ n
  second g h k m n x y wm wn sx e =
      let gm = received f A g k m in
      let gn = received f A g k n in
      let hm : Sized gm = received_sized f A onef oneA g k m h wm in
      let hn : Sized gn = received_sized f A onef oneA g k n h wn in
      let moves : (i : ℕ) → i < 16 → get_or gm.c i 0 ≡ get_or gn.c i 0 =
      λ i l. received_moves f A g k m i h l ∙ sym (received_moves f A g k n i h l) in
      let macs : bit_xor y (keystream f gm.r) ≡ bit_xor y (keystream f gn.r) =
      check_last A gm.c gn.c (bit_xor y (keystream f gm.r)) (bit_xor y (keystream f gn.r)) hm.c_size hn.c_size
      (moves 0 (omega arith)) (moves 4 (omega arith)) (moves 15 (omega arith))
      (sym (ap (λ (z : BothRegisters). get_or z.c 16 0) (received_sealed f A onef oneA gm x y sx hm)) ∙ e ∙
      ap (λ (z : BothRegisters). get_or z.c 16 0) (received_sealed f A onef oneA gn x y sx hn)) in
      keystream_back g h k m n wm wn (xor_cancel_left y (keystream f gm.r) (keystream f gn.r) macs)

  -- Up to sixteen words on, the check word of the altered word is still in the register.
  shows_early : (g : BothRegisters) → Sized g → (k m n : ℕ) → Word m → Word n → (ws : List MaskedWord) → Every WireWord ws → length ws ≤ 16 →
      (all_received f A (received f A g k m) ws).c ≡ (all_received f A (received f A g k n) ws).c → m ≡ n
  shows_early g h k m n wm wn ws l b e =
      let i : ℕ = 16 - length ws in
      let at : (z : ℕ) → Word z → get_or (all_received f A (received f A g k z) ws).c i 0 ≡ get_or (received f A g k z).c 16 0 =
      λ z wz. all_received_moves (received f A g k z) ws i (received_sized f A onef oneA g k z h wz) l (omega arith) ∙
      ap (λ (j : ℕ). get_or (received f A g k z).c j 0) (omega arith) in
      received_last f A g k m n h (sym (at m wm) ∙ ap (λ (z : List ℕ). get_or z i 0) e ∙ at n wn)

  -- Seventeen words on, the check word of the next word is in cell 0, and the cipher registers are equal.
  shows_late : (g : BothRegisters) → Sized g → (k m n : ℕ) → Word m → Word n → (w : MaskedWord) (us vs : List MaskedWord) → length us ≡ 16 →
      Every SealedWord (w ∷ us) → Every WireWord (w ∷ us) → Every WireWord vs →
      (all_received f A (received f A g k m) ((w ∷ us) ++ vs)).c ≡ (all_received f A (received f A g k n) ((w ∷ us) ++ vs)).c → m ≡ n
  unfolding all_received
  shows_late g h k m n wm wn w us vs e16 s l l' e =
      let start : ℕ → BothRegisters = λ z. received f A g k z in
      let end : ℕ → BothRegisters = λ z. all_received f A (start z) (w ∷ us) in
      let ss : (z : ℕ) → Word z → Sized (start z) = λ z wz. received_sized f A onef oneA g k z h wz in
      let se : (z : ℕ) → Word z → Sized (end z) = λ z wz. all_received_sized f A onef oneA (start z) (w ∷ us) (ss z wz) l in
      let r : (z : ℕ) → Word z → (end z).r ≡ steps f (start z).r (map (λ w. w.text) (w ∷ us)) =
      λ z wz. all_received_sealed_r f A onef oneA (start z) (w ∷ us) s l (ss z wz) in
      let same : (end m).r ≡ (end n).r =
      r m wm ∙
      forgets f (start m).r (start n).r (map (λ w. w.text) (w ∷ us)) (ss m wm).r_size (ss n wn).r_size
      (ap suc (length-map us (λ w. w.text) ∙ e16)) ∙
      sym (r n wn) in
      let cs : (end m).c ≡ (end n).c =
      all_received_back (end m) (end n) vs (se m wm) (se n wn) l' same
      (ap (λ (z : BothRegisters). z.c) (sym (all_received-++ f A (start m) (w ∷ us) vs)) ∙
      e ∙ ap (λ (z : BothRegisters). z.c) (all_received-++ f A (start n) (w ∷ us) vs)) in
      let first : (z : ℕ) → Word z → get_or (end z).c 0 0 ≡ get_or (received f A (start z) w.mask w.text).c 16 0 =
      λ z wz. all_received_moves (received f A (start z) w.mask w.text) us 0
      (received_sized f A onef oneA (start z) w.mask w.text (ss z wz) l.0) l.1 (omega arith) ∙
      ap (λ (j : ℕ). get_or (received f A (start z) w.mask w.text).c j 0) (omega arith) in
      second g h k m n w.mask w.text wm wn s.0
      (sym (first m wm) ∙ ap (λ (z : List ℕ). get_or z 0 0) cs ∙ first n wn)

  shows : (g : BothRegisters) → Sized g → (k m n : ℕ) → Word m → Word n → (ws : List MaskedWord) → Every SealedWord ws → Every WireWord ws →
      (all_received f A (received f A g k m) ws).c ≡ (all_received f A (received f A g k n) ws).c → m ≡ n
  shows g h k m n wm wn [] s l e = shows_early g h k m n wm wn [] tt (omega arith) e
  shows g h k m n wm wn (w ∷ ws) s l e =
      elim (cases_lt (length ws) 16) [
        | inl lt ↦ shows_early g h k m n wm wn (w ∷ ws) l lt e
        | inr le ↦
            let join : (w ∷ take 16 ws) ++ drop 16 ws ≡ w ∷ ws = ap {B = List MaskedWord} (λ t. w ∷ t) (take-append-drop 16 ws) in
            shows_late g h k m n wm wn w (take 16 ws) (drop 16 ws) (length-take-le 16 ws le)
            (s.0, every_take SealedWord 16 ws s.1) (l.0, every_take WireWord 16 ws l.1) (every_drop WireWord 16 ws l.1)
            (ap (λ (t : List MaskedWord). (all_received f A (received f A g k m) t).c) join ∙ e ∙
            sym (ap (λ (t : List MaskedWord). (all_received f A (received f A g k n) t).c) join))
      ]

-- From one state one word is received otherwise than it was sent, under any mask, and then sealed words as they were sent: the check
-- registers differ, however many words they are.
pub altered : (f A : ℕ → ℕ) → OneToOne f → OneToOne A → (g : BothRegisters) → Sized g → (k m n : ℕ) → Word m → Word n → m ≢ n →
    (ws : List MaskedWord) → Every SealedWord ws → Every WireWord ws →
    (all_received f A (received f A g k m) ws).c ≢ (all_received f A (received f A g k n) ws).c
altered f A onef oneA g h k m n wm wn ne ws s l e = ne (shows f A onef oneA g h k m n wm wn ws s l e)

-- The words that the cipher register is stepped with as the words ps are fed.
unfoldable pub fed_words : (ℕ → ℕ) → List ℕ → List ℕ → List ℕ
fed_words f r [] = []
fed_words f r (p ∷ ps) = ciphertext f r p ∷ fed_words f (fed f r p) ps

fed_steps : (f : ℕ → ℕ) (r ps : List ℕ) → all_fed f r ps ≡ steps f r (fed_words f r ps)
unfolding all_fed steps fed fed_words
fed_steps f r [] = refl
fed_steps f r (p ∷ ps) = fed_steps f (fed f r p) ps

pub length_fed : (f : ℕ → ℕ) (r ps : List ℕ) → length (fed_words f r ps) ≡ length ps
unfolding fed_words
length_fed f r [] = refl
length_fed f r (p ∷ ps) = ap suc (length_fed f (fed f r p) ps)

module _ (f : ℕ → ℕ) (one : OneToOne f) where
  pub register_fed : (r : List ℕ) (p : ℕ) → Words r → Word p → Words (fed f r p)
  unfolding fed
  register_fed r p h w = step_words f one r (ciphertext f r p) h (ciphertext_word f one r p h w)

  all_fed_words : (r ps : List ℕ) → Words r → Every Word ps → Every Word (fed_words f r ps)
  unfolding fed_words
  all_fed_words r [] h a = tt
  all_fed_words r (p ∷ ps) h a = (ciphertext_word f one r p h a.0, all_fed_words (fed f r p) ps (register_fed r p h a.0) a.1)

-- Different words are fed as different words.
fed_back : (f : ℕ → ℕ) (r ps qs : List ℕ) → fed_words f r ps ≡ fed_words f r qs → ps ≡ qs
unfolding fed_words ciphertext
fed_back f r [] [] e = refl
fed_back f r [] (q ∷ qs) e = absurd cc
fed_back f r (p ∷ ps) [] e = absurd cc
fed_back f r (p ∷ ps) (q ∷ qs) e =
    let pq : p ≡ q = xor_cancel p q (keystream f r) (ap (λ (x : List ℕ). get_or x 0 0) e) in
    let rest : ps ≡ qs =
    fed_back f (fed f r p) ps qs (ap (drop 1) e ∙ ap (λ (x : ℕ). fed_words f (fed f r x) qs) (sym pq)) in
    λ i. pq i ∷ rest i

-- Two ends that close into one register are stepped with the same words as their check registers are fed.
pub drawn_fed : (f : ℕ → ℕ) → OneToOne f → (g h : BothRegisters) → Sized g → Sized h → drawn_from f g ≡ drawn_from f h →
    fed_words f (fed f g.r 0) (reverse g.c) ≡ fed_words f (fed f h.r 0) (reverse h.c)
unfolding drawn_from fed
drawn_fed f one g h p q d =
    let r : BothRegisters → List ℕ = λ x. fed f x.r 0 in
    let us : BothRegisters → List ℕ = λ x. fed_words f (r x) (reverse x.c) in
    let long : (x : BothRegisters) → Sized x → length (r x) ≡ 17 = λ x k. step_size f x.r (ciphertext f x.r 0) k.r_size in
    let seventeen : (x : BothRegisters) → Sized x → length (us x) ≡ 17 =
    λ x k. length_fed f (r x) (reverse x.c) ∙ length-reverse x.c ∙ k.c_size in
    let words : (x : BothRegisters) → Sized x → Words (us x) =
    λ x k. words_read (us x)
    (all_fed_words f one (r x) (reverse x.c) (register_fed f one x.r 0 k.r_words (omega arith)) (every_reversed Word x.c (all_from x.c k.c_words))) in
    remembers f one (r g) (r h) (us g) (us h) (long g p) (long h q) (seventeen g p) (seventeen h q) (words g p) (words h q)
    (sym (fed_steps f (r g) (reverse g.c)) ∙ d ∙ fed_steps f (r h) (reverse h.c))

-- Two check registers that are closed from one cipher register into one were equal.
pub drawn_back : (f : ℕ → ℕ) → OneToOne f → (g h : BothRegisters) → Sized g → Sized h → g.r ≡ h.r → drawn_from f g ≡ drawn_from f h →
    g.c ≡ h.c
drawn_back f one g h p q e d =
    let same : fed_words f (fed f g.r 0) (reverse g.c) ≡ fed_words f (fed f g.r 0) (reverse h.c) =
    drawn_fed f one g h p q d ∙ ap (λ (x : List ℕ). fed_words f (fed f x 0) (reverse h.c)) (sym e) in
    sym (reverse-reverse g.c) ∙ ap reverse (fed_back f (fed f g.r 0) (reverse g.c) (reverse h.c) same) ∙ reverse-reverse h.c

-- Seventeen sealed words or more make the cipher registers equal.
pub all_received_same : (f A : ℕ → ℕ) → OneToOne f → OneToOne A → (g h : BothRegisters) → Sized g → Sized h → (ws : List MaskedWord) →
    Every SealedWord ws → Every WireWord ws → 17 ≤ length ws → (all_received f A g ws).r ≡ (all_received f A h ws).r
all_received_same f A onef oneA g h p q ws s l n =
    all_received_sealed_r f A onef oneA g ws s l p ∙
    steps_same f g.r h.r (map (λ w. w.text) ws) p.r_size q.r_size
    (subst (λ (k : ℕ). 17 ≤ k) (sym (length-map ws (λ w. w.text))) n) ∙
    sym (all_received_sealed_r f A onef oneA h ws s l q)

-- And after seventeen or more of those the tags are drawn from different registers.
pub altered_drawn : (f A : ℕ → ℕ) → OneToOne f → OneToOne A → (g : BothRegisters) → Sized g → (k m n : ℕ) → Word m → Word n → m ≢ n →
    (ws : List MaskedWord) → Every SealedWord ws → Every WireWord ws → 17 ≤ length ws →
    drawn_from f (all_received f A (received f A g k m) ws) ≢ drawn_from f (all_received f A (received f A g k n) ws)
altered_drawn f A onef oneA g h k m n wm wn ne ws s l long e =
    let gm = received f A g k m in
    let gn = received f A g k n in
    let hm : Sized gm = received_sized f A onef oneA g k m h wm in
    let hn : Sized gn = received_sized f A onef oneA g k n h wn in
    altered f A onef oneA g h k m n wm wn ne ws s l
    (drawn_back f onef (all_received f A gm ws) (all_received f A gn ws) (all_received_sized f A onef oneA gm ws hm l)
    (all_received_sized f A onef oneA gn ws hn l) (all_received_same f A onef oneA gm gn hm hn ws s l long) e)
