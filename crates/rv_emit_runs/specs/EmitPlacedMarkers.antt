-- The stops of code, and the markers that they are of.
use Rattle.std.specs.Prelude.{◌≡◌, ℕ, ◌==◌, not, filter, List, [], ◌∷◌, ◌++◌, map}
use Rattle.graph_core.specs.Graphs.{Graph, UnitForm}
use Rattle.graph_core.specs.Validity.{markers_of_blocks, AreAllDifferent}
use Rattle.rv_emit_tables.specs.declared.emitted.PlacedStop.{PlacedStop}

-- The places of a function at which a run stops: those that its markers begin, in their order, but the entry.
abbrev pub stop_places_in : Graph → List ℕ
stop_places_in g = filter (λ p. not (p == g.entry)) (markers_of_blocks g.blocks)

-- Those of functions, in their order.
abbrev pub stop_places : List Graph → List ℕ
stop_places [] = []
stop_places (g ∷ more) = stop_places_in g ++ stop_places more

-- the place of a stop
abbrev pub place_of : PlacedStop → ℕ
place_of s = s.place

-- Stops are those of a unit: there is one for each place that a marker begins, but for entries, and no two are of one
-- place.
pub record AreStopsOf (u : UnitForm) (stops : List PlacedStop) : Type 0 where
  pub places : map place_of stops ≡ stop_places u.graphs
  pub once : AreAllDifferent (map place_of stops)
