use Rattle.std.proofs.Common.{ℕ, ◌+◌, ◌≤◌, ◌<◌, List, length, set, sym, ap, ◌∙◌, rules, arith}
use Rattle.sss.proofs.Windows.{view, view_put, view_newest_put}
use Rattle.sss.proofs.register.Register.put.Goals as goal

pub returns-then-i-eq16 : goal.returns-then-i-eq16
returns-then-i-eq16 g c =
    let held = c.self.inside in
    let word = c.args.word in
    let long : held.start + 16 ≤ length held.buffer = search rules in
    view_newest_put held.start held.buffer held.newest word long ∙
    ap (λ (i : ℕ). set (view held.start held.buffer held.newest) i word) (sym c.if-i-eq16.true) ∙
    ap (λ (ws : List ℕ). set ws c.args.i word) c.self.view_is

pub returns-else-i-eq16 : goal.returns-else-i-eq16
returns-else-i-eq16 g c =
    let held = c.self.inside in
    let i = c.args.i in
    let word = c.args.word in
    let long : held.start + 16 ≤ length held.buffer = search rules in
    let older : i < 16 = omega (arith, c.requires, c.if-i-eq16.false) in
    ap (λ (s : ℕ). view held.start (set held.buffer (s + i) word) held.newest) c.from.ensures ∙
    view_put held.start held.buffer held.newest i word long older ∙ ap (λ (ws : List ℕ). set ws i word) c.self.view_is
