use Rattle.std.proofs.Common.{rules, ◌≡◌, ℕ, ◌+◌, ◌*◌, map, get_or, arith}
use Rattle.std.proofs.lemmas.Iterator.{YieldsList-from_slice, YieldsList-from_map, items_from_collect}
use Rattle.std.proofs.lemmas.Result.{IfOk-at_ok}
use Rattle.vectors.proofs.Chunked.{pairs_of, made_of_pairs}
use Rattle.vectors.proofs.words.from_bytes.Goals as goal

-- The word of two bytes, the low one first.
abbrev word_of : ℕ → ℕ → ℕ
word_of low high = low + high * 256

pub returns : goal.returns
returns c =
    let bytes = c.args.bytes.now in
    let made = c.in_ok-words.words.items in
    let all : made ≡ map (λ p. word_of (get_or p 0 0) (get_or p 1 0)) (pairs_of bytes) =
    IfOk-at_ok _ c.in_ok-words.was (items_from_collect _ c.collect.ensures.ran (YieldsList-from_map _ _ (YieldsList-from_slice (pairs_of bytes) cc) c.map.ensures.closure (λ x r q k. search rules))) in
    record { value = made_of_pairs word_of 0 0 bytes made (omega arith) all }
