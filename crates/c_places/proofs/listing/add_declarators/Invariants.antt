use Rattle.std.proofs.Common.{◌≡◌, ◌++◌, map, drop}
use Rattle.c_tree.specs.TypedStatements.{DeclaredTree, declared_view}
use Rattle.c_places.specs.Places.{place_view, places_of_declarators}
use Rattle.c_places.proofs.listing.add_declarators.Given as goal

abbrev pub invariant-loop-declared : goal.invariant-loop-declared
invariant-loop-declared l = record {
  places :
      map place_view l.found.items ++ places_of_declarators l.function l.scope.items (map declared_view (drop l.declared-index l.all)) ≡ map place_view l.fn.found.items ++ places_of_declarators l.function l.fn.scope.items (map declared_view l.all);
  scope :
      l.scope.items ++ map (λ (d : DeclaredTree). d.variable) (map declared_view (drop l.declared-index l.all)) ≡ l.fn.scope.items ++ map (λ (d : DeclaredTree). d.variable) (map declared_view l.all);
}
