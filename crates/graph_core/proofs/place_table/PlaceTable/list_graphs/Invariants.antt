use Rattle.std.proofs.Common.{◌≡◌, ◌+◌, ◌++◌, length, map}
use Rattle.graph_core.specs.Graphs.{graph_view}
use Rattle.graph_core.specs.PlaceTables.{listed}
use Rattle.graph_core.specs.Validity.{markers_of}
use Rattle.graph_core.proofs.place_table.PlaceTable.list_graphs.Given as goal

abbrev pub invariant-loop-left : goal.invariant-loop-left
invariant-loop-left l =
    (listed l.self ++ markers_of (map graph_view l.left) ≡ markers_of (map graph_view l.graphs))
    × (l.self.count + length (markers_of (map graph_view l.left)) ≡ length (markers_of (map graph_view l.graphs)))

abbrev pub decreases-loop-left : goal.decreases-loop-left
decreases-loop-left l = length l.left
