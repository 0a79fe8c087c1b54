use Rattle.std.proofs.Common.{◌≡◌, drop, take, fold}
use Rattle.weld.specs.Failures.{log_failure}
use Rattle.weld.specs.Passages.{noted, unread}
use Rattle.weld.proofs.passage.events.Given as goal

-- The log read so far, and what the rest of it shows.
abbrev pub invariant-loop-entry : goal.invariant-loop-entry
invariant-loop-entry l = record {
  so_far : l.reader ≡ fold noted unread (take l.entry-index l.log);
  failure : log_failure unread l.log ≡ log_failure l.reader (drop l.entry-index l.log);
}
