use Rattle.std.proofs.Common.{◌≡◌, ℕ, ◌/◌, List, get_or, set, Some, None, Option, OnSome, sym, refl, ap, ◌∙◌, subst}
use lib.Bits.{bit_xor}
use Rattle.functions.specs.Functions.{Remembers}
use Rattle.functions.proofs.Remembered.{image_of_known, remembers_more, entry_of_image, known_again}
use Rattle.functions.proofs.lazy.LazyTableKeyedFunction.apply.Goals as goal

pub returns-in-Some : goal.returns-in-Some
returns-in-Some g c =
    let S = g.K.KeyedFunction.table c.args.self.now.below in
    let entries = c.args.self.now.entries in
    let here = c.in-Some.ensures ∙ ap (λ (i : ℕ). get_or entries i None) c.high_byte-i.ensures in
    record {
      value = λ s. image_of_known S entries s.1 c.args.a c.in-Some.known here;
      kept = record { meaning = refl; sound = λ s. s };
      remembered = known_again entries (c.args.a / 256) c.in-Some.known c.args.a here;
      spared = subst (λ (o : Option ℕ). OnSome o (c.args.self.now.below ≡ c.args.self.now.below)) here refl;
    }

pub returns-in-None : goal.returns-in-None
returns-in-None g c =
    let S = g.K.KeyedFunction.table c.args.self.now.below in
    let entries = c.args.self.now.entries in
    let asked = c.apply-image.ensures in
    let entry = bit_xor c.apply-image.result c.args.a in
    let place = c.from.ensures ∙ c.high_byte-i.ensures in
    let put = ap (λ (i : ℕ). set entries i (Some entry)) place in
    record {
      value = λ s. asked.value s.0;
      kept = record {
        meaning = asked.kept.meaning;
        sound = λ s. (
          asked.kept.sound s.0,
          subst (λ (T : List ℕ). Remembers T (set entries c.from.result (Some entry))) (sym asked.kept.meaning)
              (subst (Remembers S) (sym put)
              (remembers_more S entries s.1 (c.args.a / 256) entry (entry_of_image S c.args.a c.apply-image.result (asked.value s.0)))),
        );
      };
      remembered = put;
      spared = subst (λ (o : Option ℕ). OnSome o (c.apply-image.new.self ≡ c.args.self.now.below))
          (c.in-None.ensures ∙ ap (λ (i : ℕ). get_or c.args.self.now.entries i None) c.high_byte-i.ensures) tt;
    }
