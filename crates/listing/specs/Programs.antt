-- What the program prints.
use Rattle.std.specs.Prelude.{ℕ, List, Option}
use Rattle.std.specs.Io.KnownBytes.{Appends}
use Rattle.tape.specs.Listing.{ListingText}

-- For an input it prints the text of its listing, and nothing else.
abbrev pub PrintsListing : Option (List ℕ) → Option (List ℕ) → List ℕ → Type 0
PrintsListing before after input = (text : List ℕ) × ListingText input text × Appends before after text
