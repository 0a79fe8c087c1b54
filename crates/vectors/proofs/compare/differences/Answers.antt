use Rattle.vectors.specs.declared.compare.Comparer.{Comparer}
use Rattle.vectors.specs.Ways.{FromKeyWays, TableWays, AllWays}
use Rattle.vectors.proofs.Added.{finds_then, finds_all}
use Rattle.vectors.proofs.Judging.{none_exactly}
use Rattle.vectors.proofs.compare.differences.Goals as goal

pub returns : goal.returns
returns c =
    let before : Comparer = record { vector = c.args.vector; found = c.new.result } in
    let after = c.ways_from_table.new.self in
    let ways = finds_all AllWays before after c.new.ensures.items (finds_then FromKeyWays TableWays before c.ways_from_key.new.self after c.in_ok-ways_from_key.ensures.found c.in_ok-ways_from_table.ensures.found) in
    record { fits = c.in_ok-ways_from_key.ensures.fits; value = ways; none = none_exactly c.args.vector.now _ ways }
