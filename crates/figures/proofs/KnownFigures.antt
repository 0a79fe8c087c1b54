-- The known figures, computed.
use Rattle.std.proofs.Common.{◌≡◌, ℕ, List, [], map, get_or, refl, ap}
use Rattle.sss.specs.Tables.{skipjack, qbox, products}
use Rattle.sss.specs.Cipher.{plus, rotate, complement, keyed, key_byte, key_word, key_entry, key_table, product, step, keystream, check_step, masked, mactext}
use Rattle.link.specs.Issuing.{nonce_bytes}
use Rattle.link.specs.Receiving.{row_after, with_row}
use Rattle.figures.specs.Figures.{FiguresHold, figures}

-- Each figure is as published.
pub figures_hold : FiguresHold
unfolding skipjack qbox products plus rotate complement keyed key_byte key_word key_entry key_table product step keystream check_step masked mactext row_after with_row nonce_bytes
figures_hold = refl

-- The figure n. Those of the link are the figures 13 to 17.
pub figure : (n : ℕ) → get_or (map (λ x. x.computed) figures) n [] ≡ get_or (map (λ x. x.published) figures) n []
figure n = ap (λ (xs : List (List ℕ)). get_or xs n []) figures_hold
