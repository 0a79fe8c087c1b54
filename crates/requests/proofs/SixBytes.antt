-- Six bytes are the low bytes of the two numbers that are read from them.
use Rattle.std.proofs.Common.{◌≡◌, ℕ, ◌+◌, ◌*◌, ◌/◌, ◌%◌, ◌<◌, List, [], ◌∷◌, ◌++◌, length, get_or, arith}
use Rattle.sss.specs.Bytes.{low_bytes}

four : (a b c d n : ℕ) → a < 256 → b < 256 → c < 256 → d < 256 → n ≡ a + b * 256 + c * 65536 + d * 16777216 → low_bytes 4 n ≡ a ∷ b ∷ c ∷ d ∷ []
four a b c d n la lb lc ld e =
    let first : n % 256 ≡ a = omega arith in
    let second : n / 256 % 256 ≡ b = omega arith in
    let third : n / 256 / 256 % 256 ≡ c = omega arith in
    let fourth : n / 256 / 256 / 256 % 256 ≡ d = omega arith in
    λ i. first i ∷ second i ∷ third i ∷ fourth i ∷ []

two : (a b n : ℕ) → a < 256 → b < 256 → n ≡ a + b * 256 → low_bytes 2 n ≡ a ∷ b ∷ []
two a b n la lb e =
    let first : n % 256 ≡ a = omega arith in
    let second : n / 256 % 256 ≡ b = omega arith in
    λ i. first i ∷ second i ∷ []

pub six : (bs : List ℕ) (n k : ℕ) → length bs ≡ 6 → get_or bs 0 0 < 256 → get_or bs 1 0 < 256 → get_or bs 2 0 < 256 → get_or bs 3 0 < 256 → get_or bs 4 0 < 256 → get_or bs 5 0 < 256
    → n ≡ get_or bs 0 0 + get_or bs 1 0 * 256 + get_or bs 2 0 * 65536 + get_or bs 3 0 * 16777216
    → k ≡ get_or bs 4 0 + get_or bs 5 0 * 256 → low_bytes 4 n ++ low_bytes 2 k ≡ bs
six [] n k long la lb lc ld le lf run message = absurd (omega arith)
six (a ∷ []) n k long la lb lc ld le lf run message = absurd (omega arith)
six (a ∷ b ∷ []) n k long la lb lc ld le lf run message = absurd (omega arith)
six (a ∷ b ∷ c ∷ []) n k long la lb lc ld le lf run message = absurd (omega arith)
six (a ∷ b ∷ c ∷ d ∷ []) n k long la lb lc ld le lf run message = absurd (omega arith)
six (a ∷ b ∷ c ∷ d ∷ e ∷ []) n k long la lb lc ld le lf run message = absurd (omega arith)
six (a ∷ b ∷ c ∷ d ∷ e ∷ f ∷ []) n k long la lb lc ld le lf run message =
    let low = four a b c d n la lb lc ld run in
    let high = two e f k le lf message in
    λ i. low i ++ high i
six (a ∷ b ∷ c ∷ d ∷ e ∷ f ∷ g ∷ bs) n k long la lb lc ld le lf run message = absurd (omega arith)
