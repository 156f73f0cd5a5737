use Rattle.std.proofs.Common.{◌≡◌, ℕ, ◌<◌}
use Rattle.dead_pass_rule.specs.Walks.{turn_of}
use Rattle.dead_pass_notes.proofs.idle_graph.IdleGraph.stays.Given as goal

abbrev pub invariant-loop-turns : goal.invariant-loop-turns
invariant-loop-turns l = (n left : ℕ) → n < l.turns-index → turn_of l.self.turns.items n left ≡ 0
