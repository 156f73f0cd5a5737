use Rattle.std.proofs.Common.{◌≡◌, ◌+◌, ◌<◌, ◌≤◌, ◌^◌, ◌++◌, List, [], length, map}
use Rattle.graph_core.specs.Paths.{Among}
use Rattle.graph_core.specs.Validity.{total}
use Rattle.currency.specs.declared.verdict.PlaceVerdict.{PlaceVerdict}
use Rattle.image_form.specs.declared.recipes.Node.{Node}
use Rattle.image_form.specs.declared.verdicts.VisibleRow.{VisibleRow}
use Rattle.image_build_tables.specs.Nodes.{AreEarlier, AreOnce, Begin}
use Rattle.image_build_tables.specs.Rows.{AreNodesOf, AreRowsOf, AreShown, size_told, telling_view}
use Rattle.image_build_tables.specs.Tables.{pair_of_row, sight_of_verdict}
use Rattle.image_build_tables.proofs.rows.rows_of.Given as goal

-- what is ahead, told by rows, tells all with those that are there, however the nodes grow
abbrev pub invariant-loop-left : goal.invariant-loop-left
invariant-loop-left l = record {
  ahead : (w : PlaceVerdict) → Among w l.left → Among w l.verdicts;
  nodes : length l.nodes.nodes.items < 2 ^ 32 → AreNodesOf (telling_view l.telling) l.nodes.nodes.items l.verdicts;
  once : length l.nodes.nodes.items < 2 ^ 32 → AreOnce l.nodes.nodes.items;
  earlier : length l.nodes.nodes.items < 2 ^ 32 → AreEarlier l.nodes.nodes.items;
  few : length l.nodes.nodes.items + total (λ (w : PlaceVerdict). size_told w.verdict) l.left ≤ total (λ (w : PlaceVerdict). size_told w.verdict) l.verdicts;
  bare : AreShown l.verdicts → l.nodes.nodes.items ≡ [];
  sights : map pair_of_row l.rows.items ++ map sight_of_verdict l.left ≡ map sight_of_verdict l.verdicts;
  rows : (all : List Node) → Begin l.nodes.nodes.items all → length all < 2 ^ 32 → (more : List VisibleRow) → AreRowsOf (telling_view l.telling) all l.left more
      → AreRowsOf (telling_view l.telling) all l.verdicts (l.rows.items ++ more);
}

abbrev pub decreases-loop-left : goal.decreases-loop-left
decreases-loop-left l = length l.left
