use Rattle.std.proofs.Common.{◌≡◌, map, take}
use Rattle.graph_core.specs.Graphs.{static_view}
use Rattle.graph_core.proofs.duplicate.duplicate_statics.Given as goal

abbrev pub invariant-loop-object : goal.invariant-loop-object
invariant-loop-object l = map static_view l.copies.items ≡ map static_view (take l.object-index l.objects)
