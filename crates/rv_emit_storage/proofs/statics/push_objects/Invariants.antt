use Rattle.std.proofs.Common.{◌≡◌, ◌++◌, length, map}
use Rattle.std.specs.List.{flat_map}
use Rattle.graph_core.specs.Graphs.{static_view}
use Rattle.rv_emit_storage.specs.Filled.{filled_object}
use Rattle.rv_emit_storage.proofs.statics.push_objects.Given as goal

abbrev pub invariant-loop-left : goal.invariant-loop-left
invariant-loop-left l = l.made.items ++ flat_map (filled_object l.statics.objects.items) (map static_view l.left) ≡ l.fn.made.items ++ flat_map (filled_object l.statics.objects.items) (map static_view l.fn.objects)

abbrev pub decreases-loop-left : goal.decreases-loop-left
decreases-loop-left l = length l.left
