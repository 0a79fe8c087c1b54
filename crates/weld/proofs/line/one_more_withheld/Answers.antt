use Rattle.std.proofs.Common.{◌≡◌, ◌+◌, true, false, refl, sym, ◌∙◌, arith}
use Rattle.weld.proofs.Consecutive.{withheld_more}
use Rattle.weld.proofs.line.one_more_withheld.Goals as goal
use Rattle.weld.proofs.line.one_more_withheld.Goals.{then-leads_to, else-leads_to}

pub returns-then-goes_on : goal.returns-then-goes_on
returns-then-goes_on c =
    elim c.if-leads_to.branch [
      | then-leads_to w ↦
          let went : w.takes-goes_on.result ≡ true = sym w.goes_on-is ∙ c.if-goes_on.true in
          let rises = w.if-leads_to.ensures in
          let row : c.args.row ≡ c.args.rows.now.last + 1 = omega (arith, rises.2, rises.3, rises.4.0 refl) in
          rw (c.if-goes_on.true, w.places-is)
          (withheld_more (record { next = w.takes-goes_on.ensures.follows.0 went; taken = rw went at w.takes-goes_on.ensures.taken })
          c.args.rows.now c.take.new.self c.args.row c.requires row c.take.ensures)
      | else-leads_to w ↦ let no : false ≡ true = sym w.if-leads_to.false ∙ sym w.goes_on-is ∙ c.if-goes_on.true in absurd (cc)
    ]
