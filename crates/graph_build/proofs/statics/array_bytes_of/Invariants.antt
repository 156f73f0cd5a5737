use Rattle.std.proofs.Common.{◌≡◌, ◌++◌, map, drop}
use Rattle.c_tree.specs.Programs.{LiteralTree, literal_view}
use Rattle.graph_core.specs.Graphs.{bytes_view}
use Rattle.graph_build.proofs.statics.array_bytes_of.Given as goal

abbrev pub invariant-loop-literal : goal.invariant-loop-literal
invariant-loop-literal l =
    map bytes_view l.all.items ++ map (λ (s : LiteralTree). s.bytes) (map literal_view (drop l.literal-index l.program.array_literals.items)) ≡ map (λ (s : LiteralTree). s.bytes) (map literal_view l.program.array_literals.items)
