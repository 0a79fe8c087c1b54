use Rattle.std.proofs.Common.{◌/◌, [], map, length, sym, refl, ap, ◌∙◌}
use Rattle.sss.specs.Cipher.{nonce_taken, nonces_taken}
use Rattle.sss.proofs.Asked.{not_asked, asked_so, asked_then}
use Rattle.sss.proofs.Beginning.{pair_word, pairs_are_words, pair_taken, pairs_taken, pairs_more, pairs_none}
use Rattle.sss.proofs.Left.{left_more, left_none}
use Rattle.sss.proofs.registers.Registers.take_nonce.Goals as goal

pub loop-pair-init : goal.loop-pair-init
loop-pair-init g c = not_asked refl

pub loop-pair-preserved : goal.loop-pair-preserved
loop-pair-preserved g c =
    let A = g.C.Coefficient.image c.args.a.now in
    let l = c.loop-pair in
    let pairs = c.as_chunks.result.0.now in
    asked_then l.invariant c.take_nonce_word.ensures (λ f so taken.
    left_more (pairs_taken f A) (pair_taken f A) (pairs_more f A) l.self c.take_nonce_word.new.self pairs l.pair-index [] c.loop-pair-test.true
    (taken ∙ ap (nonce_taken f A l.self) c.from_le_bytes.ensures) ∙ so)

pub returns : goal.returns
returns g c =
    let A = g.C.Coefficient.image c.args.a.now in
    let l = c.loop-pair in
    let nonce = c.args.nonce.now in
    let words = ap (map pair_word) c.as_chunks.ensures.front ∙ pairs_are_words (length nonce / 2) nonce refl in
    asked_so l.invariant (λ f so.
    sym (left_none (pairs_taken f A) (pair_taken f A) (pairs_none f A) l.self c.as_chunks.result.0.now l.pair-index c.loop-pair-test.false) ∙ so ∙
    ap (nonces_taken f A c.args.self.now) words)
