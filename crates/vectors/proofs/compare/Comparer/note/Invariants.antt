use Rattle.std.proofs.Common.{◌≡◌, ◌++◌, take, vec_items}
use Rattle.std.specs.List.{flat_map}
use Rattle.vectors.specs.Ways.{failed}
use Rattle.vectors.proofs.SameWords.{held}
use Rattle.vectors.proofs.compare.Comparer.note.Given as goal

-- The message is the same, and what the comparisons so far failed was added.
abbrev pub invariant-loop-comparison : goal.invariant-loop-comparison
invariant-loop-comparison l = record {
  same : l.self.vector ≡ l.fn.self.vector;
  so_far : vec_items l.self.found ≡ vec_items l.fn.self.found ++ flat_map (failed (held l.outcome l.fn.self.vector.now) l.way) (take l.comparison-index l.comparison-items);
}
