use Rattle.std.proofs.Common.{rules, ℕ, subst}
use Rattle.weld.specs.Crossings.{Crosses}
use Rattle.weld.proofs.observed.Goals as goal

pub returns : goal.returns
returns c =
    let plans = c.args.plans.now in
    let link = c.in_ok-link.link in
    let issuer = c.new-issuer.ensures in
    let crosses = c.in_ok-link.ensures.crosses in
    record {
      law = c.in_ok-link.ensures.law;
      crosses = subst (λ (run : ℕ). Crosses plans run 0 link) issuer.run (subst (λ (first : ℕ). Crosses plans c.new-issuer.result.run first link) issuer.none crosses);
      told = search rules;
      counts = search rules;
      alone = search rules;
    }
