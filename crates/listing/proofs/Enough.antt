-- One byte past what is taken is enough of an input.
use Rattle.std.proofs.Common.{◌≡◌, ℕ, ◌<◌, List, length, take, Option, Some, None, sym, subst, ◌∙◌, inl, inr, arith}
use Rattle.std.specs.Prelude.{IfSome}
use Rattle.std.proofs.lemmas.Bool.{cases_lt}
use Rattle.std.proofs.lemmas.List.{take_all, length-take-le}
use Rattle.std.specs.Io.KnownBytes.{Appends}
use Rattle.std.specs.Option.{option_map}
use Rattle.listing.specs.Programs.{PrintsListing}
use Rattle.tape.specs.Listing.{ListingText}

-- The listing of the first 65,537 bytes is that of the whole.
pub enough : (input text : List ℕ) → ListingText (take 65537 input) text → ListingText input text
enough input text l =
    elim (cases_lt 65536 (length input)) [
      | inl long ↦
          let cut : 65536 < length (take 65537 input) = omega (arith, length-take-le 65537 input long) in
          record {
            lines = l.lines;
            of_input = record { too_long = λ _. l.of_input.too_long cut; unfit_key = λ short _. absurd (omega arith); taken = λ t. absurd (omega (arith, t.short)) };
            is = l.is;
            only = λ others h. h.too_long long ∙ sym (l.of_input.too_long cut);
            by_line = λ t. absurd (omega (arith, t.short));
            told = λ t. absurd (omega (arith, t.short));
          }
      | inr short ↦ subst (λ (xs : List ℕ). ListingText xs text) (take_all 65537 input (omega arith)) l
    ]

-- So what is printed for the bytes that were read is printed for the input.
pub printed : (known before after : Option (List ℕ)) (bytes text : List ℕ) → IfSome (option_map (take 65537) known) (λ xs. bytes ≡ xs) → ListingText bytes text →
    Appends before after text → IfSome known (PrintsListing before after)
printed None before after bytes text is lists appends = tt
printed (Some input) before after bytes text is lists appends = (text, enough input text (subst (λ (xs : List ℕ). ListingText xs text) is lists), appends)
