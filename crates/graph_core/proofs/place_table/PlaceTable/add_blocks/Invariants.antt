use Rattle.std.proofs.Common.{◌≡◌, ◌+◌, ◌++◌, length, map}
use Rattle.graph_core.specs.Graphs.{block_view}
use Rattle.graph_core.specs.PlaceTables.{listed}
use Rattle.graph_core.specs.Validity.{markers_of_blocks}
use Rattle.graph_core.proofs.place_table.PlaceTable.add_blocks.Given as goal

abbrev pub invariant-loop-left : goal.invariant-loop-left
invariant-loop-left l =
    (listed l.self ++ markers_of_blocks (map block_view l.left) ≡ listed l.fn.self ++ markers_of_blocks (map block_view l.blocks))
    × (l.self.count + length (markers_of_blocks (map block_view l.left)) ≡ l.fn.self.count + length (markers_of_blocks (map block_view l.blocks)))

abbrev pub decreases-loop-left : goal.decreases-loop-left
decreases-loop-left l = length l.left
