-- What a lazy table remembers of the table below it.
use Rattle.std.proofs.Common.{◌≡◌, ℕ, ◌/◌, List, length, get_or, set, replicate, Some, None, Option, sym, ap, ◌∙◌, inl, inr}
use lib.Bits.{bit_xor}
use Rattle.std.proofs.lemmas.List.{get_or-set_same, get_or-set_other, set_past, set-get_or}
use Rattle.std.proofs.lemmas.Bool.{cases_eq, cases_lt}
use Rattle.sss.specs.Cipher.{keyed}
use Rattle.functions.specs.Functions.{Remembers}
use Rattle.sss.proofs.Arrays.{blank_at}
use Rattle.sss.proofs.Words.{xor_undo}

pub remembers_none : (S : List ℕ) → Remembers S (replicate 256 None)
remembers_none S i s e = let blank = blank_at {A = Option ℕ} None 256 i in cc

module _ (S : List ℕ) (entries : List (Option ℕ)) (known : Remembers S entries) where
  -- An entry that is remembered answers as the function does.
  pub image_of_known : (a k : ℕ) → Some k ≡ get_or entries (a / 256) None → bit_xor k a ≡ keyed S a
  unfolding keyed
  image_of_known a k e = ap (λ (s : ℕ). bit_xor s a) (known (a / 256) k (sym e))

  -- One entry more.
  pub remembers_more : (i v : ℕ) → v ≡ get_or S i 0 → Remembers S (set entries i (Some v))
  remembers_more i v is j s e = elim (cases_eq j i) [
    | inl q ↦ elim (cases_lt i (length entries)) [
      | inl l ↦ cc (get_or-set_same entries i (Some v) None l)
      | inr l ↦ known j s (cc (set_past entries i (Some v) l))
    ]
    | inr q ↦ known j s (cc (get_or-set_other entries i j (Some v) None q))
  ]

-- What an image says of its entry.
pub entry_of_image : (S : List ℕ) (a r : ℕ) → r ≡ keyed S a → bit_xor r a ≡ get_or S (a / 256) 0
unfolding keyed
entry_of_image S a r e = ap (λ (x : ℕ). bit_xor x a) e ∙ xor_undo (get_or S (a / 256) 0) a

-- To remember once more what is remembered changes nothing.
pub known_again : (entries : List (Option ℕ)) (i k a : ℕ) → Some k ≡ get_or entries i None →
    entries ≡ set entries i (Some (bit_xor (bit_xor k a) a))
known_again entries i k a e =
    sym (ap (λ (x : ℕ). set entries i (Some x)) (xor_undo k a) ∙ ap (set entries i) e ∙ set-get_or entries i None)
