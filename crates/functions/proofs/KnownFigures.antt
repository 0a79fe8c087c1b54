-- The known figures, computed.
use Rattle.std.proofs.Common.{◌≡◌, ℕ, true, ◌&&◌, ◌==◌, List, [], map, get_or, refl, ap}
use Rattle.std.proofs.lemmas.Bool.{eq-eqb, and_from}
use Rattle.sss.specs.Tables.{skipjack, qbox, products}
use Rattle.sss.specs.Cipher.{plus, rotate, complement, keyed, key_byte, key_word, key_entry, key_table, product, step, keystream, check_step, masked, mactext}
use Rattle.functions.specs.Figures.{FiguresHold, figures}

pub figures_hold : FiguresHold
unfolding skipjack qbox products plus rotate complement keyed key_byte key_word key_entry key_table product step keystream check_step masked mactext
figures_hold = refl

-- The number at place k of the figure n.
pub figure : (n k : ℕ) → get_or (get_or (map (λ x. x.computed) figures) n []) k 0 ≡ get_or (get_or (map (λ x. x.published) figures) n []) k 0
figure n k = ap (λ (xs : List (List ℕ)). get_or (get_or xs n []) k 0) figures_hold

-- The wire word and the mactext of the figure n.
pub word_figure : (n : ℕ) →
    (get_or (get_or (map (λ x. x.computed) figures) n []) 0 0 == get_or (get_or (map (λ x. x.published) figures) n []) 0 0 &&
    get_or (get_or (map (λ x. x.computed) figures) n []) 1 0 == get_or (get_or (map (λ x. x.published) figures) n []) 1 0) ≡ true
word_figure n = and_from _ _ (eq-eqb _ _ (figure n 0)) (eq-eqb _ _ (figure n 1))

-- The whole list of the figure 5: a register of zeros stepped with 1.
pub register_figure : get_or (map (λ x. x.computed) figures) 5 [] ≡ get_or (map (λ x. x.published) figures) 5 []
register_figure = ap (λ (xs : List (List ℕ)). get_or xs 5 []) figures_hold
