-- A buffer that was lent whole.
use Rattle.std.proofs.Common.{◌≡◌, ℕ, ◌≤◌, List, ◌++◌, length, take, drop, ◌∙◌, arith}
use Rattle.std.proofs.lemmas.List.{take-append-le, take_all}

-- What a call left of it is all of it.
pub all_of : (n : ℕ) (left found : List ℕ) → length left ≡ n → take n (left ++ drop (length left) found) ≡ left
all_of n left found long =
    let fits : n ≤ length left = omega arith in
    take-append-le n left (drop (length left) found) fits ∙ take_all n left (omega arith)
