use Rattle.std.proofs.Common.{map}
use Rattle.graph_core.specs.Graphs.{end_view, instruction_view}
use Rattle.motion_pass.specs.Placing.{blocks_of, first_of, treated_in}
use Rattle.motion_pass.proofs.Moved.{IsBehind}
use Rattle.motion_pass.proofs.moving.Moving.instructions.Given as goal

abbrev pub invariant-loop-index : goal.invariant-loop-index
invariant-loop-index l = IsBehind (blocks_of l.self) (first_of l.self) (treated_in l.self) l.number (end_view l.block.end) (map instruction_view l.block.instructions.items) l.index (map instruction_view l.made.items)
