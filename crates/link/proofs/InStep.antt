-- After seventeen sealed words two cipher registers are equal exactly where those wire words are.
use Rattle.std.proofs.Common.{◌≡◌, ℕ, ◌-◌, ◌≤◌, ◌↔◌, List, length, take, drop, sym, ap, ◌∙◌, arith}
use Rattle.std.specs.List.{AllByRecursion as Every}
use Rattle.std.proofs.lemmas.List.{length-drop, length-map, take-append-drop}
use Rattle.sss.specs.Cipher.{BothRegisters, Words, OneToOne}
use Rattle.sss.specs.declared.message.MaskedWord.{MaskedWord}
use Rattle.sss.proofs.Bytes.{words_read}
use Rattle.link.specs.Law.{latest_17, SeventeenSealed, wires}
use Rattle.link.proofs.Every.{every_drop, every_take}
use Rattle.link.proofs.Register.{steps, forgets, remembers}
use Rattle.link.proofs.Received.{Sized, WireWord, all_received, every_text, all_received_sized, all_received_sealed_r, all_received-++}

-- The latest seventeen wire words are words, and seventeen.
words_17 : (ws : List MaskedWord) → Every WireWord ws → Words (wires (latest_17 ws))
words_17 ws l = words_read (wires (latest_17 ws)) (every_text (latest_17 ws) (every_drop WireWord (length ws - 17) ws l))

length_17 : (ws : List MaskedWord) → SeventeenSealed ws → length (wires (latest_17 ws)) ≡ 17
length_17 ws s =
    let e : 17 ≤ length ws = s.enough in
    length-map (latest_17 ws) (λ w. w.text) ∙ length-drop (length ws - 17) ws ∙ omega arith

module _ (f A : ℕ → ℕ) (onef : OneToOne f) (oneA : OneToOne A) where
  -- The cipher register is seventeen steps away from the one that it was before them.
  after_17 : (g g₀ : BothRegisters) (ws : List MaskedWord) → Sized g₀ → Every WireWord ws → g ≡ all_received f A g₀ ws → SeventeenSealed ws →
      (r : List ℕ) × (length r ≡ 17) × (g.r ≡ steps f r (wires (latest_17 ws)))
  after_17 g g₀ ws k l e s =
      let n : ℕ = length ws - 17 in
      let m : BothRegisters = all_received f A g₀ (take n ws) in
      let km : Sized m = all_received_sized f A onef oneA g₀ (take n ws) k (every_take WireWord n ws l) in
      let join : all_received f A g₀ ws ≡ all_received f A m (drop n ws) =
      ap (all_received f A g₀) (sym (take-append-drop n ws)) ∙ all_received-++ f A g₀ (take n ws) (drop n ws) in (
        m.r,
        km.r_size,
        ap (λ (z : BothRegisters). z.r) (e ∙ join) ∙ all_received_sealed_r f A onef oneA m (drop n ws) s.sealed (every_drop WireWord n ws l) km,
      )

  -- They remember those words, and forget all before them.
  pub in_step : (g h g₀ h₀ : BothRegisters) (us ws : List MaskedWord) → Sized g₀ → Sized h₀ → Every WireWord us → Every WireWord ws →
      g ≡ all_received f A g₀ us → h ≡ all_received f A h₀ ws → SeventeenSealed us → SeventeenSealed ws →
      (g.r ≡ h.r) ↔ (wires (latest_17 us) ≡ wires (latest_17 ws))
  in_step g h g₀ h₀ us ws kg kh lu lw eg eh su sw =
      let (r, lr, er) = after_17 g g₀ us kg lu eg su in
      let (s, ls, es) = after_17 h h₀ ws kh lw eh sw in
      let u : List ℕ = wires (latest_17 us) in
      let w : List ℕ = wires (latest_17 ws) in (
        λ e. remembers f onef r s u w lr ls (length_17 us su) (length_17 ws sw) (words_17 us lu) (words_17 ws lw) (sym er ∙ e ∙ es),
        λ e. er ∙ forgets f r s u lr ls (length_17 us su) ∙ ap (steps f s) e ∙ sym es,
      )
