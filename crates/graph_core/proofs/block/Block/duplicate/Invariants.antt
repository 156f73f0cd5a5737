use Rattle.std.proofs.Common.{◌≡◌, map, take}
use Rattle.graph_core.specs.Graphs.{instruction_view}
use Rattle.graph_core.proofs.block.Block.duplicate.Given as goal

abbrev pub invariant-loop-instruction : goal.invariant-loop-instruction
invariant-loop-instruction l = map instruction_view l.instructions.items ≡ map instruction_view (take l.instruction-index l.instruction-items)
