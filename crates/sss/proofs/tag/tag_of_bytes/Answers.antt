use Rattle.std.proofs.Common.{arith, rules, sym, ◌∙◌}
use Rattle.std.proofs.lemmas.List.FromFn.{fill_by_all}
use Rattle.sss.specs.Cipher.{words_of}
use Rattle.sss.proofs.Arrays.{made_by}
use Rattle.sss.proofs.Bytes.{length-words_of, pair_at, word_at}
use Rattle.sss.proofs.tag.tag_of_bytes.Goals as goal

-- Eight words, each of the two bytes at its place, are all the words of sixteen bytes.
pub returns : goal.returns
returns c =
    let bytes = c.args.bytes.now in
    made_by c.from_fn.ensures.items (pair_at bytes) (λ x r q called. search rules) ∙
    sym (fill_by_all (pair_at bytes) (words_of bytes) 8 0 (omega (arith, length-words_of bytes, c.told-bytes)) (λ k l. word_at bytes k (omega (arith, l, c.told-bytes))))
