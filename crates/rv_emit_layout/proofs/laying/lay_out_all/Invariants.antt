use Rattle.std.proofs.Common.{◌≡◌, ◌≤◌, ◌+◌, ◌++◌, false, List, length, map}
use Rattle.std.specs.List.{AllByRecursion}
use Rattle.graph_core.specs.Graphs.{graph_view}
use Rattle.graph_homes.specs.Homed.{homed_view}
use Rattle.rv_emit_layout.specs.Laid.{laid_view, static_view, AreDrawn, IsLongest, LaidForm}
use Rattle.rv_emit_layout.specs.Words.{most_laid_words, most_words_of_graphs}
use Rattle.rv_emit_layout.proofs.laying.lay_out_all.Given as goal

abbrev pub invariant-loop-left : goal.invariant-loop-left
invariant-loop-left l = record {
  each : length l.all.items + length l.left ≡ length l.homed.unit.graphs.items;
  few : l.is_planned ≡ false → most_laid_words l.all.items + most_words_of_graphs (map graph_view l.left) ≤ most_words_of_graphs (map graph_view l.homed.unit.graphs.items);
  drawn : (more : List LaidForm) → AreDrawn (homed_view l.homed) (static_view l.statics) l.function (map graph_view l.left) more
      → AreDrawn (homed_view l.homed) (static_view l.statics) 0 (map graph_view l.homed.unit.graphs.items) (map laid_view l.all.items ++ more);
  longest : AllByRecursion (IsLongest l.homed.unit.room) (map laid_view l.all.items);
}

abbrev pub decreases-loop-left : goal.decreases-loop-left
decreases-loop-left l = length l.left
