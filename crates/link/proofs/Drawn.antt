-- An altered word shows in the register that the tag is drawn from, however few sealed words follow it. Two ends that close into one register
-- took the same last seventeen steps, so for each cell that is fed the cells are equal where the keystream words are, and the other way round.
-- For each number of later words there is a step at which only one of the two is.
use Rattle.std.proofs.Common.{◌≡◌, ℕ, zero, suc, ◌+◌, ◌-◌, ◌<◌, ◌≤◌, ◌≢◌, ◌↔◌, List, [], ◌∷◌, ◌++◌, map, reverse, length, get_or, take, drop, sym, refl, ap, ◌∙◌, inl, inr, arith}
use lib.Bits.{bit_xor}
use lib.Seq.{take-suc}
use Rattle.std.specs.List.{AllByRecursion as Every}
use Rattle.std.proofs.lemmas.Bool.{cases_lt}
use Rattle.std.proofs.lemmas.List.{get_or-reverse, length-append, length-drop, length-map, length-reverse, length-take-le, take-append-drop}
use Rattle.sss.specs.Cipher.{Word, BothRegisters, OneToOne, keystream, ciphertext, step, taken, plain_word, fed, drawn_from, sealed_mask}
use Rattle.sss.specs.declared.message.MaskedWord.{MaskedWord}
use Rattle.sss.proofs.Words.{xor_cancel, xor_cancel_left}
use Rattle.link.specs.Law.{SealedWord}
use Rattle.link.proofs.Every.{every_at, every_drop, every_take}
use Rattle.link.proofs.Register.{cells, cell_step, cell_steps, step_size, steps, steps-++, steps_same, lasting}
use Rattle.link.proofs.Keystream.{Quiet, quiets, quiet, loud_4, loud_16}
use Rattle.link.proofs.Received.{Sized, WireWord, received, all_received, ciphertext_word, plain_is_word, received_sized, all_received_sized, received_sealed, all_received_sealed_r, all_received-++, all_received_push}
use Rattle.link.proofs.Altered.{check_enters, received_moves, received_enters, all_received_moves, second, received_last, altered_drawn, fed_words, length_fed, drawn_fed}

-- What is fed at place j steps the register that the steps before left.
fed_at : (f : ℕ → ℕ) (r ps : List ℕ) (j : ℕ) → j < length ps →
    get_or (fed_words f r ps) j 0 ≡ ciphertext f (steps f r (take j (fed_words f r ps))) (get_or ps j 0)
unfolding fed_words fed steps
fed_at f r [] j h = absurd (omega arith)
fed_at f r (p ∷ ps) zero h = refl
fed_at f r (p ∷ ps) (suc j) h = fed_at f (fed f r p) ps j (omega arith)

-- Equal sums have equal left sides exactly where they have equal right sides.
xor_sides : (a b x y : ℕ) → bit_xor a x ≡ bit_xor b y → (a ≡ b) ↔ (x ≡ y)
xor_sides a b x y e =
    (λ h. xor_cancel_left a x y (e ∙ ap (λ (z : ℕ). bit_xor z y) (sym h)), λ h. xor_cancel a b x (e ∙ ap (bit_xor b) (sym h)))

-- The word that the register is stepped with as 0 is fed, and the keystream word after that step and j of the words us.
abbrev first : (ℕ → ℕ) → BothRegisters → ℕ
first f p = ciphertext f p.r 0

abbrev stream : (ℕ → ℕ) → BothRegisters → List ℕ → ℕ → ℕ
stream f p us j = keystream f (steps f p.r (first f p ∷ take j us))

-- The seventeen words that both ends are stepped with after the first, and what they say of each cell that is fed.
record Alike (f : ℕ → ℕ) (p q : BothRegisters) : Type 0 where
  words : List ℕ
  long : (j : ℕ) → j ≤ 17 → length (take j words) ≡ j
  each : (j : ℕ) → j ≤ 16 → (get_or p.c (16 - j) 0 ≡ get_or q.c (16 - j) 0) ↔ (stream f p words j ≡ stream f q words j)

-- So it is where both ends close into one register.
alike : (f : ℕ → ℕ) → OneToOne f → (p q : BothRegisters) → Sized p → Sized q → drawn_from f p ≡ drawn_from f q → Alike f p q
unfolding fed steps ciphertext
alike f one p q hp hq e =
    let us : BothRegisters → List ℕ = λ x. fed_words f (fed f x.r 0) (reverse x.c) in
    let same : us p ≡ us q = drawn_fed f one p q hp hq e in
    let cell : BothRegisters → ℕ → ℕ = λ x j. get_or x.c (16 - j) 0 in
    let at : (x : BothRegisters) → Sized x → (j : ℕ) → j ≤ 16 → get_or (us x) j 0 ≡ bit_xor (cell x j) (stream f x (us x) j) =
    λ x h j l.
    fed_at f (fed f x.r 0) (reverse x.c) j (omega (arith, length-reverse x.c, h.c_size)) ∙
    ap (ciphertext f (steps f (fed f x.r 0) (take j (us x))))
    (get_or-reverse x.c j 0 (omega (arith, h.c_size)) ∙ ap (λ (i : ℕ). get_or x.c i 0) (omega (arith, h.c_size))) in
    record {
      words = us p;
      long = λ j l. length-take-le j (us p) (omega (arith, length_fed f (fed f p.r 0) (reverse p.c), length-reverse p.c, hp.c_size));
      each = λ j l. xor_sides (cell p j) (cell q j) (stream f p (us p) j) (stream f q (us p) j) (cc (at p hp j l, at q hq j l, same));
    }

-- From one state the words m and n, one at each end, under one mask.
module _ (f A : ℕ → ℕ) (onef : OneToOne f) (oneA : OneToOne A) (g : BothRegisters) (h : Sized g) (k m n : ℕ) (wm : Word m) (wn : Word n) where
  -- The registers after such a word and others, the word that it steps the cipher register with, and the wire words of the others.
  abbrev after : ℕ → List MaskedWord → BothRegisters
  after z ws = all_received f A (received f A g k z) ws

  abbrev enters : ℕ → ℕ
  enters z = ciphertext f g.r (plain_word f g k z)

  abbrev texts : List MaskedWord → List ℕ
  texts ws = map (λ w. w.text) ws

  -- The registers stay sized, and what steps them is a word.
  started : (z : ℕ) → Word z → Sized (received f A g k z)
  started z wz = received_sized f A onef oneA g k z h wz

  after_sized : (z : ℕ) → Word z → (ws : List MaskedWord) → Every WireWord ws → Sized (after z ws)
  after_sized z wz ws l = all_received_sized f A onef oneA (received f A g k z) ws (started z wz) l

  enters_word : (z : ℕ) → Word z → Word (enters z)
  enters_word z wz = ciphertext_word f onef g.r (plain_word f g k z) h.r_words (plain_is_word f A onef oneA g k z h wz)

  -- The cipher register after such a word, and after others.
  abbrev start : ℕ → List ℕ
  start z = step f g.r (enters z)

  start_size : (z : ℕ) → length (start z) ≡ 17
  start_size z = step_size f g.r (enters z) h.r_size

  after_r : (z : ℕ) → Word z → (ws : List MaskedWord) → Every SealedWord ws → Every WireWord ws → (after z ws).r ≡ steps f (start z) (texts ws)
  unfolding received taken
  after_r z wz ws s l = all_received_sealed_r f A onef oneA (received f A g k z) ws s l (started z wz)

  -- Cells of the check register that were there before are equal at both ends.
  old : (ws : List MaskedWord) (i : ℕ) → Every WireWord ws → i + length ws < 16 → get_or (after m ws).c i 0 ≡ get_or (after n ws).c i 0
  old ws i l b =
      let at : (z : ℕ) → Word z → get_or (after z ws).c i 0 ≡ get_or g.c (suc (i + length ws)) 0 =
      λ z wz. all_received_moves f A onef oneA (received f A g k z) ws i (started z wz) l (omega arith) ∙
      received_moves f A g k z (i + length ws) h b in
      at m wm ∙ sym (at n wn)

  -- Some sealed words follow.
  module _ (ws : List MaskedWord) (s : Every SealedWord ws) (l : Every WireWord ws) where
    -- The registers after i of them, the check word that entered last, and the i-th of them, counted from 0.
    abbrev upto : ℕ → ℕ → BothRegisters
    upto z i = after z (take i ws)

    abbrev check : ℕ → ℕ → ℕ
    check z i = get_or (upto z i).c 16 0

    abbrev blank : MaskedWord
    blank = record { mask = sealed_mask; text = 0 }

    abbrev word : ℕ → MaskedWord
    word i = get_or ws i blank

    -- One word more.
    next : (z i : ℕ) → i < length ws → upto z (suc i) ≡ received f A (upto z i) (word i).mask (word i).text
    next z i b = ap (after z) (take-suc ws i blank b) ∙ all_received_push f A (received f A g k z) (take i ws) (word i)

    upto_sized : (z : ℕ) → Word z → (i : ℕ) → Sized (upto z i)
    upto_sized z wz i = after_sized z wz (take i ws) (every_take WireWord i ws l)

    -- Equal check words were equal two words before, where the keystream word between says nothing of the altered word.
    check_back : (i : ℕ) → Quiet f (suc i) → suc i < length ws → i ≤ 10 → check m (suc (suc i)) ≡ check n (suc (suc i)) → check m i ≡ check n i
    unfolding steps
    check_back i q b c e =
        let us : List MaskedWord = take (suc i) ws in
        let su : Every SealedWord us = every_take SealedWord (suc i) ws s in
        let lu : Every WireWord us = every_take WireWord (suc i) ws l in
        let long : length us ≡ suc i = length-take-le (suc i) ws (omega arith) in
        let w : MaskedWord = word (suc i) in
        let sw : SealedWord w = every_at SealedWord ws (suc i) blank b s in
        let v : ℕ → ℕ = λ z. keystream f (after z us).r in
        let sum : ℕ → ℕ = λ z. bit_xor (bit_xor (bit_xor w.text (v z)) (A (get_or (after z us).c 0 0))) (get_or (after z us).c 4 0) in
        let at : (z : ℕ) → Word z → check z (suc (suc i)) ≡ bit_xor (sum z) (check z i) =
        λ z wz.
        let hu : Sized (after z us) = upto_sized z wz (suc i) in
        let before : get_or (after z us).c 15 0 ≡ check z i =
        ap (λ (x : BothRegisters). get_or x.c 15 0) (next z i (omega arith)) ∙
        received_moves f A (upto z i) (word i).mask (word i).text 15 (upto_sized z wz i) (omega arith) in
        let cell : BothRegisters → ℕ = λ x. get_or x.c 16 0 in
        cc (ap cell (next z (suc i) b), ap cell (received_sealed f A onef oneA (after z us) w.mask w.text sw hu), check_enters A (after z us).c (bit_xor w.text (v z)) hu.c_size, before) in
        let ev : v m ≡ v n =
        ap (keystream f) (after_r m wm us su lu) ∙
        quiet f (suc i) q g.r g.r (texts us) (enters m) (enters n) h.r_size h.r_size (length-map us (λ w. w.text) ∙ long) refl ∙
        sym (ap (keystream f) (after_r n wn us su lu)) in
        let same : sum m ≡ sum n = cc (ev, old us 0 lu (omega arith), old us 4 lu (omega arith)) in
        xor_cancel_left (sum n) (check m i) (check n i) (cc (same, at m wm, e, at n wn))

    -- The check words of the next word are not equal.
    check_first : 1 ≤ length ws → check m 1 ≡ check n 1 → m ≡ n
    unfolding all_received
    check_first b e =
        let cell : BothRegisters → ℕ = λ x. get_or x.c 16 0 in
        second f A onef oneA g h k m n (word 0).mask (word 0).text wm wn (every_at SealedWord ws 0 blank b s)
        (sym (ap cell (next m 0 b)) ∙ e ∙ ap cell (next n 0 b))

    -- And both ends close into one register.
    module _ (d : Alike f (after m ws) (after n ws)) where
      -- The check word of i words on is fed j steps on: it is equal where the keystream words are.
      check_fed : (i j : ℕ) → length ws ≡ j + i → j ≤ 16 → stream f (after m ws) d.words j ≡ stream f (after n ws) d.words j → check m i ≡ check n i
      check_fed i j e b v =
          let at : (z : ℕ) → Word z → get_or (after z ws).c (16 - j) 0 ≡ check z i =
          λ z wz. ap (λ (x : List MaskedWord). get_or (after z x).c (16 - j) 0) (sym (take-append-drop i ws)) ∙
          ap (λ (x : BothRegisters). get_or x.c (16 - j) 0) (all_received-++ f A (received f A g k z) (take i ws) (drop i ws)) ∙
          all_received_moves f A onef oneA (upto z i) (drop i ws) (16 - j) (upto_sized z wz i) (every_drop WireWord i ws l)
          (omega (arith, length-drop i ws)) ∙
          ap (λ (x : ℕ). get_or (upto z i).c x 0) (omega (arith, length-drop i ws)) in
          sym (at m wm) ∙ (d.each j b).1 v ∙ at n wn

      -- So they differ where the check word of three words on is fed, or that of five.
      third : (j : ℕ) → length ws ≡ j + 3 → j ≤ 16 → stream f (after m ws) d.words j ≡ stream f (after n ws) d.words j → m ≡ n
      third j e b v = check_first (omega arith) (check_back 1 (quiets f).0 (omega arith) (omega arith) (check_fed 3 j e b v))

      fifth : (j : ℕ) → length ws ≡ j + 5 → j ≤ 16 → stream f (after m ws) d.words j ≡ stream f (after n ws) d.words j → m ≡ n
      fifth j e b v =
          check_first (omega arith)
          (check_back 1 (quiets f).0 (omega arith) (omega arith)
          (check_back 3 (quiets f).1 (omega arith) (omega arith) (check_fed 5 j e b v)))

      -- What c words leave equal is equal at both ends.
      same_cells : {X : Type 0} (P : List ℕ → X) (c : ℕ) →
          ((r s us : List ℕ) → P (cell_steps f r (cells c 0 us)) ≡ P (cell_steps f s (cells c 0 us))) → c ≤ length ws →
          P (after m ws).r ≡ P (after n ws).r
      same_cells P c base b =
          ap P (after_r m wm ws s l) ∙
          lasting f c P base (start m) (start n) (texts ws) (start_size m) (start_size n) (omega (arith, length-map ws (λ w. w.text))) ∙
          sym (ap P (after_r n wn ws s l))

      -- One to fourteen words: both ends fed 0 as one word, since an old cell is fed sixteen steps later.
      first_same : 1 ≤ length ws → length ws ≤ 14 → first f (after m ws) ≡ first f (after n ws)
      unfolding cell_step cell_steps
      first_same a b =
          let p : BothRegisters = after m ws in
          let q : BothRegisters = after n ws in
          let hp : Sized p = after_sized m wm ws l in
          let hq : Sized q = after_sized n wn ws l in
          let fits : (x : BothRegisters) → Sized x → Word (first f x) = λ x hx. ciphertext_word f onef x.r 0 hx.r_words (omega arith) in
          loud_16 f onef p.r q.r (take 15 d.words) (first f p) (first f q) (fits p hp) (fits q hq) hp.r_size hq.r_size
          (d.long 15 (omega arith))
          (same_cells (λ (x : List ℕ). get_or x 16 0) 1 (λ r s us. refl) a)
          ((d.each 15 (omega arith)).0 (old ws 1 l (omega arith)))

      -- Fifteen or more: what is fed c steps later is fed with equal keystream words.
      later : (c : ℕ) → Quiet f c → c ≤ 16 → 15 ≤ length ws → stream f (after m ws) d.words c ≡ stream f (after n ws) d.words c
      unfolding cell_step cell_steps
      later c q b e =
          quiet f c q (after m ws).r (after n ws).r (take c d.words) (first f (after m ws)) (first f (after n ws))
          (after_sized m wm ws l).r_size (after_sized n wn ws l).r_size
          (d.long c (omega arith))
          (same_cells (cells 15 2) 15 (λ r s us. refl) e)

      -- Where both fed 0 as the word y:
      module _ (y : ℕ) (em : first f (after m ws) ≡ y) (en : first f (after n ws) ≡ y) where
        -- the words stepped with after the altered one.
        abbrev line : ℕ → List ℕ
        line j = texts ws ++ y ∷ take j d.words

        line_long : (j : ℕ) → j ≤ 16 → length (line j) ≡ length ws + suc j
        line_long j b =
            length-append (texts ws) (y ∷ take j d.words) ∙
            omega (arith, length-map ws (λ w. w.text), d.long j (omega arith))

        along : (z : ℕ) → Word z → first f (after z ws) ≡ y → (j : ℕ) → stream f (after z ws) d.words j ≡ keystream f (steps f (start z) (line j))
        along z wz e j =
            let us : ℕ → List ℕ = λ x. x ∷ take j d.words in
            ap (λ (x : List ℕ). keystream f (steps f x (us (first f (after z ws))))) (after_r z wz ws s l) ∙
            ap (λ (x : ℕ). keystream f (steps f (steps f (start z) (texts ws)) (us x))) e ∙
            sym (ap (keystream f) (steps-++ f (start z) (texts ws) (us y)))

        -- Up to six words: an old cell is fed sixteen steps after the altered word.
        up_to_6 : length ws ≤ 6 → m ≡ n
        unfolding steps
        up_to_6 b =
            let j : ℕ = 14 - length ws in
            received_enters f A g k m n
            (loud_16 f onef g.r g.r (line j) (enters m) (enters n) (enters_word m wm) (enters_word n wn) h.r_size h.r_size
            (line_long j (omega arith) ∙ omega arith) refl
            (sym (along m wm em j) ∙ (d.each j (omega arith)).0 (old ws (16 - j) l (omega arith)) ∙ along n wn en j))

        -- Seven: the check word of three words on is fed thirteen steps after it.
        seven : length ws ≡ 7 → m ≡ n
        unfolding steps
        seven e =
            third 4 e (omega arith)
            (along m wm em 4 ∙
            quiet f 12 (quiets f).3 g.r g.r (line 4) (enters m) (enters n) h.r_size h.r_size (line_long 4 (omega arith) ∙ omega arith) refl ∙
            sym (along n wn en 4))

        -- Eight or more: its own check word is fed eighteen steps after it or later.
        from_8 : 8 ≤ length ws → length ws ≤ 16 → m ≡ n
        unfolding all_received
        from_8 a b =
            let j : ℕ = length ws in
            received_last f A g k m n h
            (check_fed 0 j (omega arith) b
            (along m wm em j ∙
            ap (keystream f) (steps_same f (start m) (start n) (line j) (start_size m) (start_size n) (omega (arith, line_long j b))) ∙
            sym (along n wn en j)))

      -- One to sixteen.
      some : 1 ≤ length ws → length ws ≤ 16 → m ≡ n
      some a b =
          elim (cases_lt (length ws) 15) [
            | inl lt ↦
                let y : ℕ = first f (after n ws) in
                let e : first f (after m ws) ≡ y = first_same a (omega arith) in
                elim (cases_lt (length ws) 7) [
                  | inl lt ↦ up_to_6 y e refl (omega arith)
                  | inr ge ↦ elim (cases_lt 7 (length ws)) [ inl lt ↦ from_8 y e refl lt b | inr le ↦ seven y e refl (omega arith) ]
                ]
            | inr ge ↦ elim (cases_lt 15 (length ws)) [
              | inl lt ↦ fifth 11 (omega arith) (omega arith) (later 11 (quiets f).2 (omega arith) ge)
              | inr le ↦ third 12 (omega arith) (omega arith) (later 12 (quiets f).3 (omega arith) ge)
            ]
          ]

  -- None: an old cell is fed four steps after the altered word.
  none : Alike f (after m []) (after n []) → m ≡ n
  unfolding steps
  none d =
      let us : ℕ → List ℕ = λ z. first f (after z []) ∷ take 2 d.words in
      let at : (z : ℕ) → Word z → stream f (after z []) d.words 2 ≡ keystream f (steps f g.r (enters z ∷ us z)) =
      λ z wz. ap (λ (x : List ℕ). keystream f (steps f x (us z))) (after_r z wz [] tt tt) in
      received_enters f A g k m n
      (loud_4 f onef g.r (take 2 d.words) (enters m) (enters n) (first f (after m [])) (first f (after n [])) (enters_word m wm) (enters_word n wn)
      h.r_size (d.long 2 (omega arith))
      (sym (at m wm) ∙ (d.each 2 (omega arith)).0 (old [] 14 tt (omega arith)) ∙ at n wn))

  -- None to sixteen.
  few : (ws : List MaskedWord) → Every SealedWord ws → Every WireWord ws → length ws ≤ 16 → Alike f (after m ws) (after n ws) → m ≡ n
  few [] s l b d = none d
  few (w ∷ ws) s l b d = some (w ∷ ws) s l d (omega arith) b

  -- However many sealed words follow, the tags are drawn from different registers.
  pub drawn : (ws : List MaskedWord) → Every SealedWord ws → Every WireWord ws → m ≢ n →
      drawn_from f (all_received f A (received f A g k m) ws) ≢ drawn_from f (all_received f A (received f A g k n) ws)
  drawn ws s l ne e =
      elim (cases_lt (length ws) 17) [
        | inl lt ↦ ne (few ws s l (omega arith) (alike f onef (after m ws) (after n ws) (after_sized m wm ws l) (after_sized n wn ws l) e))
        | inr le ↦ altered_drawn f A onef oneA g h k m n wm wn ne ws s l le e
      ]
