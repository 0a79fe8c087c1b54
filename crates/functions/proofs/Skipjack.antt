-- Skipjack's table is a permutation of the bytes.
use Rattle.std.specs.Prelude.{◌≡◌, ℕ, ◌%◌, ◌<◌, map, length, slice_index, refl}
use Rattle.std.specs.List.{range_with_len}
use Rattle.std.proofs.Common.{arith}
use Rattle.sss.specs.Tables.{skipjack}
use Rattle.functions.specs.Witnesses.{apart_at, place, read_at}

skipjack_places : map (place (λ x. x) skipjack) skipjack ≡ range_with_len 0 256
unfolding place skipjack
skipjack_places = refl

skipjack_bytes : map (λ x. x % 256) skipjack ≡ skipjack
unfolding skipjack
skipjack_bytes = refl

skipjack_length : length skipjack ≡ 256
unfolding skipjack
skipjack_length = refl

pub skipjack_apart : (i j : ℕ) → i < 256 → j < 256 → slice_index skipjack i ≡ slice_index skipjack j → i ≡ j
skipjack_apart = apart_at (λ x. x) skipjack 256 skipjack_places

pub skipjack_byte : (i : ℕ) → i < 256 → slice_index skipjack i < 256
skipjack_byte i h = let same = read_at (λ x. x % 256) skipjack skipjack skipjack_bytes i (omega (arith, skipjack_length)) in omega arith
