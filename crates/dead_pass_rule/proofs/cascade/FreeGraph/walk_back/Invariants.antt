use Rattle.std.proofs.Common.{◌-◌, drop, length, map}
use Rattle.graph_core.specs.Graphs.{block_view, instruction_view}
use Rattle.dead_pass_rule.specs.Cascade.{WalksBack}
use Rattle.dead_pass_rule.specs.Cascading.{assignments_of, graph_of}
use Rattle.dead_pass_rule.proofs.cascade.FreeGraph.walk_back.Given as goal

abbrev pub invariant-loop-left : goal.invariant-loop-left
invariant-loop-left l =
    WalksBack (assignments_of l.self) (graph_of l.self) l.number (block_view l.block) l.fn.turns l.fn.marks (map instruction_view (drop (length l.instructions - l.left) l.instructions)) l.turns l.marks l.is_less
