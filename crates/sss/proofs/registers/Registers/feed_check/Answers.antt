use Rattle.std.proofs.Common.{◌≡◌, reverse, length, sym, refl, ap, ◌∙◌, arith, rules}
use Rattle.sss.specs.Cipher.{BothRegisters, fed, all_fed}
use Rattle.sss.proofs.Asked.{not_asked, asked_so, asked_then}
use Rattle.sss.proofs.Left.{left_more, left_none}
use Rattle.sss.proofs.registers.Registers.feed_check.Goals as goal

pub loop-word-init : goal.loop-word-init
loop-word-init g c = (not_asked refl, refl)

pub loop-word-preserved : goal.loop-word-preserved
unfolding all_fed
loop-word-preserved g c =
    let l = c.loop-word in
    let words = c.reverse.new.self in
    let long : length words ≡ 17 = search rules in (
      asked_then l.invariant.0 c.feed.ensures (λ f so fed_in.
          left_more (all_fed f) (fed f) (λ r p ps. refl) l.self-inside.cipher c.feed.new.self words l.word-index 0 (omega arith) fed_in.1 ∙ so),
      l.invariant.1,
    )

pub returns-clause-asked : goal.returns-clause-asked
unfolding all_fed
returns-clause-asked g c =
    let l = c.loop-word in
    let words = c.reverse.new.self in
    let long : length words ≡ 17 = search rules in
    rw (← c.self.view_is) (asked_so l.invariant.0 (λ f so.
    sym (left_none (all_fed f) (fed f) (λ r. refl) l.self-inside.cipher words l.word-index (omega arith)) ∙ so ∙
    ap (all_fed f c.self.inside.cipher) (c.reverse.ensures.after ∙ ap reverse c.words-words.ensures)))

pub returns-clause-check : goal.returns-clause-check
returns-clause-check g c = c.loop-word.invariant.1 ∙ ap (λ (s : BothRegisters). s.c) c.self.view_is
