use Rattle.std.proofs.Common.{◌≡◌, ℕ, length, map}
use Rattle.graph_core.specs.Graphs.{binding_view}
use Rattle.dead_pass_writes.specs.Telling.{told, bound_by}
use Rattle.dead_pass_writes.proofs.writes.PlaceWrites.add_bindings.Given as goal

abbrev pub invariant-loop-ahead : goal.invariant-loop-ahead
invariant-loop-ahead l = (p x : ℕ) → bound_by l.entry p x (told l.self p x) (map binding_view l.ahead) ≡ bound_by l.entry p x (told l.fn.self p x) (map binding_view l.bindings)

abbrev pub decreases-loop-ahead : goal.decreases-loop-ahead
decreases-loop-ahead l = length l.ahead
