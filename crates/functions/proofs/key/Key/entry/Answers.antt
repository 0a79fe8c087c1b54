use Rattle.std.proofs.Common.{◌≡◌, ℕ, ◌+◌, ◌*◌, ◌%◌, List, drop, get_or, ap, arith}
use lib.Bits.{bit_xor, xor_assoc, xor_zero_r}
use Rattle.sss.specs.Cipher.{key_byte, key_word, key_entry}
use Rattle.functions.proofs.Keys.{key_byte_more, key_word_more, key_byte_all, key_word_all}
use Rattle.sss.proofs.Words.{rotate_is}
use Rattle.functions.proofs.key.Key.entry.Goals as goal

pub loop-i-preserved : goal.loop-i-preserved
loop-i-preserved c =
    let key = c.as_slice-k-items.result.now in
    let i = c.loop-i.i in
    let byte = key_byte_more key i c.loop-i.byte c.loop-i-test.true in
    let word = key_word_more key i c.loop-i.byte c.loop-i-test.true in
    let turned = rotate_is i c.qbox.result (omega arith) c.qbox.type_inv in
    let joined = xor_assoc c.loop-i.word c.rotate_left-word.result (key_word (i + 1) (drop (i + 1) key) c.skipjack-byte.result) in
    (cc, cc)

pub returns : goal.returns
unfolding key_entry
returns c =
    let key = c.as_slice-k-items.result.now in
    let byte = key_byte_all key c.loop-i.i c.loop-i.byte c.loop-i-test.false in
    let word = key_word_all key c.loop-i.i c.loop-i.byte c.loop-i-test.false in
    let whole = xor_zero_r c.loop-i.word in
    let low = ap (λ (bytes : List ℕ). get_or bytes 0 0) c.to_le_bytes.ensures in
    let sum : c.from_le_bytes.result ≡ bit_xor c.loop-i.byte c.args.x * 256 + c.loop-i.word % 256 = omega arith in
    let byte_is : c.loop-i.byte ≡ key_byte key c.args.x = cc in
    let word_is : c.loop-i.word ≡ key_word 0 key c.args.x = cc in
    cc
