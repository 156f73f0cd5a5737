use Rattle.std.proofs.Common.{◌≡◌, ◌+◌, ◌++◌, length, map}
use Rattle.graph_core.specs.Graphs.{instruction_view}
use Rattle.graph_core.specs.PlaceTables.{listed}
use Rattle.graph_core.specs.Validity.{markers_in}
use Rattle.graph_core.proofs.place_table.PlaceTable.add_instructions.Given as goal

abbrev pub invariant-loop-left : goal.invariant-loop-left
invariant-loop-left l =
    (listed l.self ++ markers_in (map instruction_view l.left) ≡ listed l.fn.self ++ markers_in (map instruction_view l.instructions))
    × (l.self.count + length (markers_in (map instruction_view l.left)) ≡ l.fn.self.count + length (markers_in (map instruction_view l.instructions)))

abbrev pub decreases-loop-left : goal.decreases-loop-left
decreases-loop-left l = length l.left
