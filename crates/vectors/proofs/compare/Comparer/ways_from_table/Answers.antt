use Rattle.std.proofs.Common.{ap, ◌∙◌}
use Rattle.std.proofs.lemmas.Result.{on_ok_weaker}
use Rattle.sss.specs.Cipher.{key_table}
use Rattle.vectors.specs.declared.compare.FunctionName.TheVariants.{FilledTable, GivenTable, LazyTwice}
use Rattle.vectors.specs.Ways.{Keyed, Then}
use Rattle.vectors.proofs.Added.{finds_then, finds_keyed, key_kept}
use Rattle.vectors.proofs.Refused.{way_decides}
use Rattle.vectors.proofs.compare.Comparer.ways_from_table.Goals as goal

pub returns-clause-found : goal.returns-clause-found
returns-clause-found c =
    let start = c.args.self.now in
    let a = c.two_ways.new.self in
    let b = c.two_ways-2.new.self in
    let end = c.two_ways-3.new.self in
    let loaded = c.in_ok-filled.ensures in
    let first = c.in_ok-two_ways.ensures.found in
    let given = c.in_ok-load.ensures in
    let second = c.in_ok-two_ways-2.ensures.found in
    let inner = c.new.ensures in
    let outer = c.new-lazy.ensures in
    let table = loaded.1 ∙ ap key_table c.deref.ensures.value in
    let one = finds_keyed FilledTable _ start a table (first.promise loaded.2) in
    let kept = first.kept.meaning ∙ table ∙ key_kept (λ v. Keyed v FilledTable) start a one in
    let two = finds_keyed GivenTable _ a b (given.1 ∙ c.entries.ensures ∙ kept) (second.promise given.2) in
    let table'' = ap (λ l. l.below.entries) outer.below ∙ ap (λ f. f.entries) inner.below ∙ kept ∙ key_kept (λ v. Keyed v GivenTable) a b two in
    let both = finds_then (λ v. Keyed v FilledTable) (λ v. Keyed v GivenTable) start a b one two in
    on_ok_weaker c.two_ways-3.result (λ three. finds_then (λ v. Then (Keyed v FilledTable) (Keyed v GivenTable)) (λ v. Keyed v LazyTwice) start b end both (finds_keyed LazyTwice _ b end table'' three))
    (c.two_ways-3.ensures.found.promise (outer.sound (inner.sound (first.kept.sound loaded.2))))

pub returns-clause-fits : goal.returns-clause-fits
returns-clause-fits c =
    let loaded = c.in_ok-filled.ensures in
    let given = c.in_ok-load.ensures in
    let one = c.in_ok-two_ways.ensures.found.promise loaded.2 in
    let two = c.in_ok-two_ways-2.ensures.found.promise given.2 in
    way_decides c.two_ways-2.new.self.vector c.args.self.now.vector _ c.two_ways-3.result c.deref.ensures.value loaded.0 (two.0 ∙ one.0) c.two_ways-3.ensures.fits
