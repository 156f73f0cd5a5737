use Rattle.std.proofs.Common.{◌≡◌, ◌++◌, length, map}
use Rattle.graph_core.specs.Graphs.{graph_view}
use Rattle.rv_emit_tables.specs.Emitted.{function_view}
use Rattle.rv_emit_layout.specs.Laid.{laid_view, told_of_all}
use Rattle.rv_emit_layout.proofs.telling.told_all.Given as goal

abbrev pub invariant-loop-left : goal.invariant-loop-left
invariant-loop-left l = map function_view l.functions.items ++ told_of_all (map graph_view l.graphs) l.firsts l.function (map laid_view l.left) ≡ told_of_all (map graph_view l.graphs) l.firsts 0 (map laid_view l.all)

abbrev pub decreases-loop-left : goal.decreases-loop-left
decreases-loop-left l = length l.left
