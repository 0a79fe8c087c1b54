use Rattle.std.proofs.Common.{ap, ◌∙◌}
use Rattle.std.proofs.lemmas.Result.{on_ok_weaker}
use Rattle.functions.specs.Functions.{from_key_table}
use Rattle.sss.specs.Cipher.{key_table}
use Rattle.vectors.specs.declared.compare.FunctionName.TheVariants.{FromKey, LazyOverKey}
use Rattle.vectors.specs.Ways.{Keyed}
use Rattle.vectors.proofs.Added.{finds_then, finds_keyed, key_kept}
use Rattle.vectors.proofs.Refused.{way_decides}
use Rattle.vectors.proofs.compare.Comparer.ways_from_key.Goals as goal

pub returns-clause-found : goal.returns-clause-found
returns-clause-found c =
    let before = c.args.self.now in
    let between = c.two_ways.new.self in
    let after = c.two_ways-2.new.self in
    let loaded = c.in_ok-computed.ensures in
    let first = c.in_ok-two_ways.ensures.found in
    let second = c.two_ways-2.ensures.found in
    let lazy = c.new-lazy.ensures in
    let table = loaded.1 ∙ ap key_table c.deref.ensures.value in
    let one = finds_keyed FromKey _ before between table (first.promise loaded.2) in
    let table' = ap from_key_table lazy.below ∙ first.kept.meaning ∙ table ∙ key_kept (λ v. Keyed v FromKey) before between one in
    on_ok_weaker c.two_ways-2.result (λ two. finds_then (λ v. Keyed v FromKey) (λ v. Keyed v LazyOverKey) before between after one (finds_keyed LazyOverKey _ between after table' two))
    (second.promise (lazy.sound (first.kept.sound loaded.2)))

pub returns-clause-fits : goal.returns-clause-fits
returns-clause-fits c =
    let loaded = c.in_ok-computed.ensures in
    let one = c.in_ok-two_ways.ensures.found.promise loaded.2 in
    way_decides c.two_ways.new.self.vector c.args.self.now.vector _ c.two_ways-2.result c.deref.ensures.value loaded.0 one.0 c.two_ways-2.ensures.fits
