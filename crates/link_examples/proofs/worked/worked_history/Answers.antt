use Rattle.std.proofs.Common.{◌≡◌, ℕ, replicate, vec_items, sym, refl, ap, ◌∙◌, subst}
use Rattle.std.proofs.lemmas.Result.{IfOk-weaker}
use Rattle.sss.specs.Cipher.{Lawful, keyed, product}
use Rattle.functions.specs.Functions.{from_key_table}
use Rattle.link.specs.Ends.{history, receiving, registers_of, sealing}
use Rattle.link.specs.Law.{Law}
use Rattle.link_examples.proofs.Meets.{if_both, met_by_worked}
use Rattle.link_examples.proofs.worked.worked_history.Goals as goal

-- Both functions are fresh: they are sound, and each has the table that is all zero.
module _ (c : goal.After-run) where
  sealer_sound : Lawful (from_key_table c.new.result)
  sealer_sound = subst Lawful (c.new-2.ensures ∙ sym c.new.ensures) c.new-2.result.lawful

  receiver_table : c.new-3.result.below.entries ≡ replicate 256 0
  receiver_table = ap (λ f. f.entries) c.new-3.ensures.below ∙ c.new-2.ensures

pub returns-clause-law : goal.returns-clause-law
returns-clause-law c =
    let receiver_sound = c.new-3.ensures.sound c.new-2.result.lawful in
    let one_table = c.new.ensures ∙ sym (receiver_table c) in
    IfOk-weaker c.run.result _ _
    (λ h law. subst (λ (f : ℕ → ℕ). Law f product (vec_items h.log) (registers_of (sealing h.sealer)) (receiving h.receiver).registers)
    (ap keyed c.new.ensures) (law (sealer_sound c) receiver_sound one_table (λ a word. refl)))
    c.run.ensures.law

pub returns-clause-meets : goal.returns-clause-meets
returns-clause-meets c =
    let receiver_sound = c.new-3.ensures.sound c.new-2.result.lawful in
    let calls = c.in_ok-calls.calls.items in
    if_both c.run.result
    (λ h is law. met_by_worked c.in_ok-calls.ensures
    (ap (λ x. x.1) (is (sealer_sound c) receiver_sound) ∙
    (λ i. (history (keyed (c.new.ensures i)) product (keyed (receiver_table c i)) product calls).1))
    law)
    c.run.ensures.value (returns-clause-law c)
