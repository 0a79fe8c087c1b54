-- The known figures of cipher and link, one list: what the definitions give, beside what is published.
use Rattle.std.specs.Prelude.{◌≡◌, ℕ, zero, suc, List, [], ◌∷◌, ◌++◌, map}
use Rattle.functions.specs.Figures.{Figure, figures as cipher_figures}
use Rattle.link.specs.Issuing.{nonce_bytes}
use Rattle.link.specs.Receiving.{decided}
use Rattle.link.specs.declared.reception.Reception.{Reception}
use Rattle.link.specs.declared.reception.Reception.TheVariants.{Lost}
use Rattle.link.specs.declared.reception.Event.TheVariants.{Word}
use Rattle.link.specs.declared.reception.Release.{Release}
use Rattle.link.specs.declared.reception.Release.TheVariants.{HandOut, Withhold}

-- Where a new receiver stands after so many sealed words.
abbrev pub after_sealed : ℕ → Reception
after_sealed zero = Lost 0
after_sealed (suc n) = (decided (after_sealed n) (Word 0xFFFF)).0

-- What becomes of the reading of a word under a mask that comes to a new receiver after so many sealed words.
abbrev pub released : ℕ → ℕ → Release
released n mask = (decided (after_sealed n) (Word mask)).1

-- The row that a word is withheld with, and no row where it is handed out.
abbrev pub rows : Release → List ℕ
rows HandOut = []
rows (Withhold n) = n ∷ []

-- The figures of the link: the 16th, the 17th and the 18th sealed word that come to a new receiver, an open word after ten sealed ones, and
-- the nonce of run 1, message 2.
abbrev pub link_figures : List Figure
link_figures =
    record { computed = rows (released 15 0xFFFF); published = 16 ∷ [] } ∷
    record { computed = rows (released 16 0xFFFF); published = 17 ∷ [] } ∷
    record { computed = rows (released 17 0xFFFF); published = [] } ∷
    record { computed = rows (released 10 0x0000); published = 0 ∷ [] } ∷
    record { computed = nonce_bytes (record { run = 1; message = 2 }); published = 1 ∷ 0 ∷ 0 ∷ 0 ∷ 2 ∷ 0 ∷ [] } ∷
    []

-- All known figures: those of the cipher, then those of the link.
abbrev pub figures : List Figure
figures = cipher_figures ++ link_figures

-- Each figure is as published.
abbrev pub FiguresHold : Type 0
FiguresHold = map (λ x. x.computed) figures ≡ map (λ x. x.published) figures
