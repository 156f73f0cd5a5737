use Rattle.std.proofs.Common.{◌≤◌, length, map}
use Rattle.std.specs.Prelude.{◌↔◌}
use Rattle.std.specs.List.{AllByRecursion}
use Rattle.memory_map.specs.declared.map.Room.TheVariants.{Large}
use Rattle.graph_core.specs.Bounds.{most_markers}
use Rattle.graph_core.specs.Graphs.{graph_view, unit_view}
use Rattle.graph_core.specs.Validity.{IsGraph, markers_of}
use Rattle.graph_core.proofs.validity.are_graphs.Given as goal

abbrev pub invariant-loop-left : goal.invariant-loop-left
invariant-loop-left l =
    (AllByRecursion (IsGraph (unit_view l.unit)) (map graph_view l.left) ↔ AllByRecursion (IsGraph (unit_view l.unit)) (map graph_view l.graphs))
    × (length (markers_of (map graph_view l.left)) ≤ most_markers Large)

abbrev pub decreases-loop-left : goal.decreases-loop-left
decreases-loop-left l = length l.left
