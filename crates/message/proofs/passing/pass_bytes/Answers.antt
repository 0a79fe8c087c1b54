use Rattle.std.proofs.Common.{◌≡◌, ◌<◌, ◌+◌, ◌*◌, ◌/◌, ◌%◌, ℕ, List, get_or, set, length, sym, ap, ◌∙◌, subst, arith}
use Rattle.sss.specs.declared.message.MaskedWord.{MaskedWord}
use Rattle.sss.proofs.Asked.{asked_so, asked_then}
use Rattle.sss.proofs.Passed.{Passing, passing_more, passed}
use Rattle.message.specs.Buffers.{text_bytes, words_under}
use Rattle.message.proofs.Buffers.{bytes_under, octets_put, length-words_under, word_of, word_put, word_under}
use Rattle.message.proofs.passing.pass_bytes.Goals as goal

pub loop-i-preserved : goal.loop-i-preserved
loop-i-preserved g c =
    let d = g.D.Direction in
    let A = g.C.Coefficient.image c.args.a.now in
    let l = c.loop-i in
    let masks = c.args.masks.now in
    let none : MaskedWord = record { mask = 0; text = 0 } in
    let long : length masks ≡ length l.bytes = omega (arith, c.requires.long, l.auto.bytes) in
    let here : 2 * l.i + 1 < length l.bytes = omega (arith, c.loop-i-test.true) in
    let count = length-words_under masks l.bytes long in
    let read : get_or (words_under masks l.bytes) l.i none ≡ word_of c.from_le_bytes.result c.from_le_bytes-in-loop-i.result =
    word_under masks l.bytes l.i none long here ∙ (λ j. word_of (sym c.from_le_bytes.ensures j) (sym c.from_le_bytes-in-loop-i.ensures j)) in
    let low : ℕ = get_or c.to_le_bytes.result 0 0 in
    let high : ℕ = get_or c.to_le_bytes.result 1 0 in
    let low-is : low ≡ c.pass.result % 256 = ap (λ (xs : List ℕ). get_or xs 0 0) c.to_le_bytes.ensures in
    let high-is : high ≡ c.pass.result / 256 % 256 = ap (λ (xs : List ℕ). get_or xs 1 0) c.to_le_bytes.ensures in
    let put = word_put masks l.bytes l.i c.pass.result low high none long here (omega (arith, low-is, high-is, c.pass.type_inv)) in (
      octets_put (set l.bytes (2 * l.i) low) (2 * l.i + 1) high (octets_put l.bytes (2 * l.i) low l.invariant.0 (omega (arith, low-is))) (omega (arith, high-is)),
      asked_then l.invariant.1 c.pass.ensures (λ f so step.
          subst (λ (ws : List MaskedWord). Passing (d.words f A) (d.last f A) c.args.registers.now (words_under masks c.args.bytes.now) c.pass.new.registers ws (l.i + 1)) (sym put)
          (passing_more (g.met.D.Direction.word_by_word f A) so none c.pass.result c.pass.new.registers (omega arith)
          (step.0 ∙ ap (d.text f l.registers) (sym read)) (step.1 ∙ ap (d.after f A l.registers) (sym read)))),
    )

pub returns : goal.returns
returns g c =
    let A = g.C.Coefficient.image c.args.a.now in
    let l = c.loop-i in
    let masks = c.args.masks.now in
    let long : length masks ≡ length l.bytes = omega (arith, c.requires.long, l.auto.bytes) in
    let count = length-words_under masks l.bytes long in
    let back = bytes_under masks l.bytes long l.invariant.0 (omega (arith, c.requires.even, c.requires.long, long)) in
    asked_so l.invariant.1 (λ f so.
    let all = passed (g.met.D.Direction.word_by_word f A) so (omega arith) in
    (sym back ∙ ap text_bytes all.0, all.1))
