use Rattle.std.proofs.Common.{◌≡◌, ℕ, List, reverse, replicate, ap, ◌∙◌}
use Rattle.sss.specs.Cipher.{BothRegisters, all_fed, closed, drawn_from, stepped, tag}
use Rattle.sss.proofs.Asked.{asked_then}
use Rattle.sss.proofs.BothRegisters.{same_registers}
use Rattle.sss.proofs.registers.Registers.close.Goals as goal

pub returns : goal.returns
unfolding tag closed drawn_from
returns g c =
    let before : BothRegisters = record { r = c.self.inside.cipher; c = c.self.inside.check } in
    let cipher = ap (λ (s : BothRegisters). s.r) c.self-2.view_is in
    let check = ap (λ (s : BothRegisters). s.c) c.self-2.view_is ∙ c.feed_check.ensures.check in
    let fed = asked_then {R = λ f. c.self-2.inside.cipher ≡ drawn_from f before} c.feed.ensures c.feed_check.ensures.asked (λ f zero words.
    cipher ∙ words ∙ ap (λ (r : List ℕ). all_fed f r (reverse before.c)) zero.1) in
    record {
      asked = rw (← c.self.view_is) (asked_then fed c.draw.ensures (λ f from drawn. (
        drawn.0 ∙ ap (stepped f 8) from,
        same_registers (drawn.1 ∙ ap (λ (r : List ℕ). all_fed f r (replicate 8 0)) from) check,
      )));
      check = check ∙ ap (λ (s : BothRegisters). s.c) c.self.view_is;
    }
