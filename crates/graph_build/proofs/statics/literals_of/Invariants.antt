use Rattle.std.proofs.Common.{◌≡◌, ◌++◌, map, drop}
use Rattle.c_tree.specs.Programs.{literal_view}
use Rattle.graph_core.specs.Graphs.{static_view}
use Rattle.graph_build.specs.Units.{literal_of}
use Rattle.graph_build.proofs.statics.literals_of.Given as goal

abbrev pub invariant-loop-literal : goal.invariant-loop-literal
invariant-loop-literal l =
    map static_view l.objects.items ++ map literal_of (map literal_view (drop l.literal-index l.program.literals.items)) ≡ map literal_of (map literal_view l.program.literals.items)
