use Rattle.std.proofs.Common.{◌≡◌, map, take}
use Rattle.graph_core.specs.Graphs.{block_view}
use Rattle.rv_emit_plan.specs.Flows.{ways_of}
use Rattle.rv_emit_plan.proofs.flow.flow_of.Given as goal

abbrev pub invariant-loop-block : goal.invariant-loop-block
invariant-loop-block l = record { blocks : l.flow.blocks ≡ l.blocks; ways : l.flow.ways.items ≡ map (λ b. ways_of (block_view b).end) (take l.block-index l.graph.blocks.items) }
