use Rattle.std.proofs.Common.{◌≡◌, ℕ, true, false, sym, ◌∙◌, arith}
use Rattle.std.specs.Bool.{◌==◌}
use Rattle.std.proofs.lemmas.Bool.Decides.{nat_tests}
use Rattle.weld.proofs.Consecutive.{Longer, fit_more, read_more}
use Rattle.weld.proofs.line.one_more_reading.Goals as goal
use Rattle.weld.proofs.line.one_more_reading.Goals.{then-reading-sent, else-reading-sent, then-not-is_full, else-not-is_full}

-- The test of two equal numbers holds.
tested : (a b : ℕ) → a ≡ b → (a == b) ≡ true
tested a b same = grind (arith, nat_tests)

pub returns-then-goes_on : goal.returns-then-goes_on
returns-then-goes_on c =
    elim c.if-not-is_full.branch [
      | then-not-is_full w ↦
          let went : w.takes-goes_on.result ≡ true = sym w.goes_on-is ∙ c.if-goes_on.true in
          let longer : Longer c.args.places.now c.args.sent.now.place c.args.sent.now.mask w.takes-goes_on.new.self = record { next = w.takes-goes_on.ensures.follows.0 went; taken = rw went at w.takes-goes_on.ensures.taken } in
          let told = read_more longer c.args.values.now.items c.args.reading c.requires in
          let fit = fit_more longer c.args.values.now.items c.args.reading c.requires in
          let alike : (c.args.reading == c.args.sent.now.plain) ≡ true = elim c.if-reading-sent.branch [
            | then-reading-sent v ↦ tested c.args.reading c.args.sent.now.plain v.if-reading-sent.true
            | else-reading-sent v ↦ sym v.value-is ∙ w.if-not-is_full.true
          ] in
          rw (c.if-goes_on.true, w.places-is, alike) (record {
            telling = rw c.push.ensures.items told;
            fit = rw c.push.ensures.items fit;
          })
      | else-not-is_full w ↦ let no : false ≡ true = sym w.if-not-is_full.false ∙ sym w.goes_on-is ∙ c.if-goes_on.true in absurd (cc)
    ]
