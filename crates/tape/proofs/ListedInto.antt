-- The listing of an input in a lent buffer.
use Rattle.std.proofs.Common.{◌≡◌, ℕ, true, false, List, ◌++◌, length, drop, replicate, Option, None, Some, refl, sym, ap, ◌∙◌, arith, zero-add}
use Rattle.std.specs.Option.{is_some}
use Rattle.tape.specs.Lent.{ListsInto, PutsListing}
use Rattle.tape.specs.Lines.{text_of}
use Rattle.tape.specs.Listing.{ListingText}
use Rattle.tape.proofs.Room.{listing_room}

-- An input has one listing.
one_text : (input text other : List ℕ) → ListingText input text → ListingText input other → other ≡ text
one_text input text other t o = o.is ∙ ap text_of (t.only o.lines o.of_input) ∙ sym t.is

-- The listing fits.
pub listed_into : (input before after : List ℕ) (answer : Option ℕ) → is_some answer ≡ true → PutsListing input before answer after → ListsInto input before answer after
listed_into input before after None some p = cc
listed_into input before after (Some end) some (text, t, p) =
    let size : end ≡ length text = p.place ∙ zero-add (length text) in
    record {
      text = text;
      lists = t;
      only = λ other o. one_text input text other t o;
      fits = λ _. (ap Some size, p.buffer ∙ ap (λ (n : ℕ). text ++ drop n before) size);
      no_room = λ long. absurd (omega (arith, p.fits, size));
      room = listing_room input text t;
    }

-- The listing does not fit.
pub refused_into : (input before put after : List ℕ) (answer : Option ℕ) → is_some answer ≡ false → PutsListing input before answer put → after ≡ replicate (length put) 0 →
    ListsInto input before answer after
refused_into input before put after (Some end) none p zeros = cc
refused_into input before put after None none (text, t, p) zeros = record {
  text = text;
  lists = t;
  only = λ other o. one_text input text other t o;
  fits = λ short. absurd (omega (arith, p.1));
  no_room = λ _. (refl, zeros ∙ ap (λ (n : ℕ). replicate n 0) p.0);
  room = listing_room input text t;
}
