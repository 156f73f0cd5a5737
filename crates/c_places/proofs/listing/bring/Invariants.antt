use Rattle.std.proofs.Common.{◌≡◌, ◌++◌, map, drop}
use Rattle.c_tree.specs.TypedStatements.{DeclaredTree, declared_view}
use Rattle.c_places.proofs.listing.bring.Given as goal

abbrev pub invariant-loop-declared : goal.invariant-loop-declared
invariant-loop-declared l =
    l.scope.items ++ map (λ (d : DeclaredTree). d.variable) (map declared_view (drop l.declared-index l.all)) ≡ l.fn.scope.items ++ map (λ (d : DeclaredTree). d.variable) (map declared_view l.all)
