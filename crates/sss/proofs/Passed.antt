-- Words that are passed in place, one after the other, while the registers go along: sealing and opening alike.
use Rattle.std.proofs.Common.{◌≡◌, ℕ, ◌+◌, ◌<◌, ◌≤◌, List, [], ◌∷◌, ◌++◌, length, get_or, take, drop, set, sym, refl, ap, ◌∙◌, arith}
use Rattle.std.proofs.lemmas.List.{append_assoc, append-nil, take_more_set, take_all, drop_more, drop_all, drop-set-lt, length-set}
use Rattle.sss.specs.Cipher.{BothRegisters}
use Rattle.sss.specs.Directions.{Passes, with_text}
use Rattle.sss.specs.declared.message.MaskedWord.{MaskedWord}

-- Of the words of a source, i are passed.
pub record Passing (all : BothRegisters → List MaskedWord → List MaskedWord) (last : BothRegisters → List MaskedWord → BothRegisters) (before : BothRegisters) (source : List MaskedWord) (now : BothRegisters) (words : List MaskedWord) (i : ℕ) : Type 0 where
  pub long : length words ≡ length source
  pub front : take i words ++ all now (drop i source) ≡ all before source
  pub rest : drop i words ≡ drop i source
  pub registers : last now (drop i source) ≡ last before source

pub passing_none : {all : BothRegisters → List MaskedWord → List MaskedWord} {last : BothRegisters → List MaskedWord → BothRegisters} (before : BothRegisters) (source : List MaskedWord) → Passing all last before source before source 0
passing_none before source = record { long = refl; front = refl; rest = refl; registers = refl }

module _ {text : BothRegisters → MaskedWord → ℕ} {after : BothRegisters → MaskedWord → BothRegisters} {all : BothRegisters → List MaskedWord → List MaskedWord} {last : BothRegisters → List MaskedWord → BothRegisters} (passes : Passes text after all last)
    {before : BothRegisters} {source : List MaskedWord} {now : BothRegisters} {words : List MaskedWord} {i : ℕ} (so : Passing all last before source now words i) where
  -- One word more: the word at i stands there still as it was given.
  pub passing_more : (d : MaskedWord) (t : ℕ) (now' : BothRegisters) → i < length words → t ≡ text now (get_or words i d) →
      now' ≡ after now (get_or words i d) → Passing all last before source now' (set words i (with_text (get_or words i d) t)) (i + 1)
  passing_more d t now' h text-is after-is =
      let w : MaskedWord = get_or words i d in
      let w' : MaskedWord = with_text w t in
      let left : List MaskedWord = drop (i + 1) source in
      let both : w ∷ drop (i + 1) words ≡ get_or source i d ∷ left =
      sym (drop_more words i d h) ∙ so.rest ∙ drop_more source i d (omega (arith, so.long)) in
      let rest : drop (i + 1) words ≡ left = cc in
      let here : drop i source ≡ w ∷ left = sym so.rest ∙ drop_more words i d h ∙ ap {B = List MaskedWord} (λ xs. w ∷ xs) rest in
      let joined = append_assoc (take i words) (w' ∷ []) (all now' left) in
      let one : w' ∷ all now' left ≡ all now (drop i source) =
      (λ j. with_text w (text-is j) ∷ all (after-is j) left) ∙ sym (passes.first_word now w left) ∙ sym (ap (all now) here) in
      record {
        long = length-set words i w' ∙ so.long;
        front =
            ap (λ (xs : List MaskedWord). xs ++ all now' left) (take_more_set words i w' h) ∙ joined ∙
            ap (λ (xs : List MaskedWord). take i words ++ xs) one ∙ so.front;
        rest = drop-set-lt (i + 1) words i w' (omega arith) ∙ rest;
        registers = ap (λ (g : BothRegisters). last g left) after-is ∙ sym (passes.last_first now w left) ∙ sym (ap (last now) here) ∙ so.registers;
      }

  -- All are passed.
  pub passed : length words ≤ i → (words ≡ all before source) × (now ≡ last before source)
  passed h =
      let none : drop i source ≡ [] = drop_all i source (omega (arith, so.long)) in (
        sym (take_all i words h) ∙ sym (append-nil (take i words)) ∙
            sym (ap (λ (xs : List MaskedWord). take i words ++ xs) (ap (all now) none ∙ passes.no_words now)) ∙ so.front,
        sym (passes.last_none now) ∙ sym (ap (last now) none) ∙ so.registers,
      )
