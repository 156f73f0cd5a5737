use Rattle.std.proofs.Common.{drop, map}
use Rattle.graph_core.specs.Graphs.{graph_view, instruction_view}
use Rattle.dead_pass_rule.specs.Free.{placed}
use Rattle.dead_pass_rule.proofs.Freeing.{AreFreeAhead}
use Rattle.dead_pass_rule.proofs.free.FreeWrites.free_all.Given as goal

abbrev pub invariant-loop-instruction : goal.invariant-loop-instruction
invariant-loop-instruction l =
    AreFreeAhead l.self.flow.now.assignments.items (graph_view l.self.graph.now) (placed l.fn.place) (map instruction_view l.instructions) (placed l.place) (map instruction_view (drop l.instruction-index l.instructions)) l.told.items
