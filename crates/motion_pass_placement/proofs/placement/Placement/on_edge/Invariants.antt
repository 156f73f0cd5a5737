use Rattle.std.proofs.Common.{◌≡◌, ◌*◌, Some, map}
use Rattle.std.specs.Prelude.{slice_get}
use Rattle.graph_core.specs.Graphs.{Block, Graph, instruction_view}
use Rattle.motion_pass_points.specs.Ways.{IsCome, along}
use Rattle.motion_pass_placement.specs.Placed.{AreDone, IsPlaced}
use Rattle.motion_pass_placement.proofs.placement.Placement.on_edge.Given as goal

abbrev pub invariant-loop-number : goal.invariant-loop-number
invariant-loop-number l = (g : Graph) → IsPlaced g l.self → (b : Block) → slice_get g.blocks l.to ≡ Some b → IsCome g.blocks (along l.from l.to) → AreDone g.blocks l.self (along l.from l.to) (l.number * 64) (map instruction_view l.out.items)
