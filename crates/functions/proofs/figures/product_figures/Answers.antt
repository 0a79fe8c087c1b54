use Rattle.std.proofs.Common.{◌≡◌, ℕ, List, [], ◌∷◌}
use Rattle.std.proofs.lemmas.Bool.Decides.{Decides-eqb}
use Rattle.std.proofs.lemmas.Slice.Eq.{slice_eq-Decides}
use Rattle.functions.proofs.KnownFigures.{figure}
use Rattle.functions.proofs.figures.product_figures.Goals as goal

pub returns : goal.returns
returns c =
    let products :
    ◌≡◌ {A = List ℕ} (c.multiply.result ∷ c.multiply-2.result ∷ c.multiply-3.result ∷ c.multiply-4.result ∷ [])
    (0x500F ∷ 0x1133 ∷ 0xF451 ∷ 0x1133 ∷ []) =
    cc (figure 6 0, figure 7 0, figure 8 0) in
    (slice_eq-Decides Decides-eqb _ _ _ c.eq.ensures).1 products
