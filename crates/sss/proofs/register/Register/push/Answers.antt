use Rattle.std.proofs.Common.{◌≡◌, ℕ, ◌+◌, ◌<◌, ◌≤◌, List, [], ◌∷◌, ◌++◌, length, take, drop, set, sym, ap, ◌∙◌, arith, rules}
use Rattle.std.proofs.lemmas.List.Edits.{take-paste}
use Rattle.std.proofs.lemmas.List.{length-drop}
use Rattle.sss.proofs.Windows.{view, view_push}
use Rattle.sss.proofs.register.Register.push.Goals as goal
use Rattle.sss.proofs.register.Register.push.Goals.{then-self, else-self}

pub returns : goal.returns
returns g c =
    let before = c.self.inside in
    let now = c.if-self.self-inside in
    let word = c.args.word in
    let enough : 16 ≤ length (drop 255 before.buffer) = omega (arith, length-drop 255 before.buffer, c.self.told) in
    let same : view now.start now.buffer now.newest ≡ c.args.self.now =
    elim c.if-self.branch [
      | then-self w ↦
          ap (λ x. view x.start x.buffer x.newest) w.self-inside-is ∙
          ap (λ (ys : List ℕ). take 16 ys ++ before.newest ∷ []) w.copy_within.ensures.after ∙
          ap (λ (ys : List ℕ). ys ++ before.newest ∷ []) (take-paste before.buffer 0 (drop 255 before.buffer) 16 (omega arith) enough) ∙
          sym (ap (λ (s : ℕ). view s before.buffer before.newest) w.if-self.true) ∙ c.self.view_is
      | else-self w ↦ ap (λ x. view x.start x.buffer x.newest) w.self-inside-is ∙ c.self.view_is
    ] in
    let room : now.start + 16 < length now.buffer = search rules in
    ap (λ (s : ℕ). view (now.start + 1) (set now.buffer (s + 16) now.newest) word) c.from.ensures ∙
    view_push now.start now.buffer now.newest word room ∙ ap (λ (ws : List ℕ). drop 1 ws ++ word ∷ []) same
