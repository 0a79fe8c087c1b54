use Rattle.std.proofs.Common.{ℕ, ◌+◌, ◌≤◌, ◌<◌, List, length, get_or, sym, ap, ◌∙◌, rules, arith}
use Rattle.sss.proofs.Windows.{view, view_at, view_newest}
use Rattle.sss.proofs.register.Register.at.Goals as goal

pub returns-then-i-eq16 : goal.returns-then-i-eq16
returns-then-i-eq16 g c =
    let held = c.self.inside in
    let long : held.start + 16 ≤ length held.buffer = search rules in
    sym (view_newest held.start held.buffer held.newest long) ∙
    ap (λ (i : ℕ). get_or (view held.start held.buffer held.newest) i 0) (sym c.if-i-eq16.true) ∙
    ap (λ (ws : List ℕ). get_or ws c.args.i 0) c.self.view_is

pub returns : goal.returns
returns g c =
    let held = c.self.inside in
    let i = c.args.i in
    let long : held.start + 16 ≤ length held.buffer = search rules in
    let older : i < 16 = omega (arith, c.requires, c.if-i-eq16.false) in
    ap (λ (s : ℕ). get_or held.buffer (s + i) 0) c.from.ensures ∙ sym (view_at held.start held.buffer held.newest i long older) ∙
    ap (λ (ws : List ℕ). get_or ws i 0) c.self.view_is
