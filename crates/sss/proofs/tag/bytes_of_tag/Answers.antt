use Rattle.std.proofs.Common.{rules, [], ◌∙◌, ◌≡◌, ◌<◌, length, arith}
use Rattle.sss.specs.Bytes.{low_bytes}
use Rattle.sss.proofs.Arrays.{all_made}
use Rattle.sss.proofs.tag.bytes_of_tag.Goals as goal

pub returns : goal.returns
returns c =
    let words = c.args.words in
    let pairs = c.map-pairs.result in
    let eight : length words ≡ 8 = search rules in
    c.copy_from_slice.ensures.after ∙ c.as_flattened.ensures.value ∙
    all_made (low_bytes 2) words pairs (c.map-pairs.ensures.items.long ∙ search rules) (λ i below.
    let small : i < 8 = omega (arith, below, eight) in
    let (p, q, called) = c.map-pairs.ensures.items.at i 0 [] small in
    let met = called.met in search rules)
