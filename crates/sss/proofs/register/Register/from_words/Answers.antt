use Rattle.std.proofs.Common.{◌≡◌, ℕ, List, [], ◌∷◌, ◌++◌, length, get_or, take, sym, ap, ◌∙◌, arith, rules}
use Rattle.std.proofs.lemmas.List.{take_at}
use Rattle.std.proofs.Math.Seq.{take-suc, take-length}
use Rattle.sss.proofs.register.Register.from_words.Goals as goal

pub returns : goal.returns
returns g c =
    let words = c.args.words in
    let newest : List ℕ = get_or words 16 0 ∷ [] in
    let copied = c.copy_from_slice.ensures in
    let all : length words ≡ 17 = search rules in
    ap (λ (ws : List ℕ). ws ++ newest) (take_at c.copy_from_slice.new.self _ 16 copied.len ∙ copied.after) ∙ sym (take-suc words 16 0 (omega (arith, all))) ∙ ap (λ (n : ℕ). take n words) (sym all) ∙ take-length words
