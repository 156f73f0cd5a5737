use Rattle.std.proofs.Common.{◌≡◌, ◌+◌, ℕ, length, map}
use Rattle.graph_core.specs.Graphs.{logged}
use Rattle.dead_pass_writes.specs.RemovedChangesTelling.{told, removals_by}
use Rattle.std.specs.Prelude.{None}
use Rattle.dead_pass_writes.proofs.removed.RemovedChanges.new.Given as goal

abbrev pub invariant-loop-ahead : goal.invariant-loop-ahead
invariant-loop-ahead l = record {
  counted : l.number + length l.ahead ≡ length l.changes;
  same : (p v : ℕ) → removals_by p v (told l.removed p v) l.number (map logged l.ahead) ≡ removals_by p v None 0 (map logged l.changes);
}

abbrev pub decreases-loop-ahead : goal.decreases-loop-ahead
decreases-loop-ahead l = length l.ahead
