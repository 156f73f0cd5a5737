-- The places of a unit's graphs are those of its program, and of an image that has the program's.
use Rattle.std.proofs.Common.{◌≡◌, ℕ, ◌+◌, Some, map, slice_get, sym, ap, ◌∙◌, arith}
use Rattle.std.proofs.lemmas.Option.{same_Some}
use Rattle.c_tree.specs.Programs.{ProgramTree}
use Rattle.c_places.specs.Places.{Place, places_of_program}
use Rattle.c_type_laws.specs.Laws.{IsWellFormed}
use Rattle.graph_core.specs.Graphs.{Graph, UnitForm}
use Rattle.graph_build.specs.Units.{IsUnitOf}
use Rattle.graph_build_laws.proofs.Ascending.{numbered_in}
use Rattle.graph_build_laws.proofs.Accepted.{facts_of}
use Rattle.graph_build_laws.proofs.Markers.{graph_markers}
use Rattle.graph_homes.specs.Owned.{IsPlaceOf}
use Rattle.image_form.specs.Form.{Form}
use Rattle.image_form.specs.declared.tables.Place.{Place as ImagePlace}
use Rattle.image_truth_units.specs.Keeping.{HasPlacesOf}
use Rattle.image_truth_units.proofs.PlacesOf.{place_of, has_place}

module _ (p : ProgramTree) (formed : IsWellFormed p) (u : UnitForm) (is : IsUnitOf p u) where
  -- A place of a graph is of the graph's function.
  pub place_is : (f i : ℕ) (g : Graph) (q : Place) → slice_get u.graphs f ≡ Some g → slice_get (places_of_program p) i ≡ Some q → IsPlaceOf g (i + 1) → q.function ≡ f
  place_is f i g q at place of =
      let ascend = (facts_of p formed).ascend in
      let r = place_of p u is (numbered_in (places_of_program p) ascend) (λ k t there is_main. graph_markers p k t there is_main ascend) f (i + 1) g at of in
      let number = r.2 in
      let same : i ≡ r.0 = omega (arith, number) in
      ap (λ (y : Place). y.function) (same_Some q r.1 (sym place ∙ ap (slice_get (places_of_program p)) same ∙ r.3)) ∙ r.4

  -- An image that has the program's places, each of its function, has those of the unit's graphs.
  pub has_places : (m : Form) → map (λ (q : ImagePlace). q.function) m.places ≡ map (λ (q : Place). q.function) (places_of_program p) → HasPlacesOf u m
  has_places m same =
      let ascend = (facts_of p formed).ascend in record { place = has_place p u is (numbered_in (places_of_program p) ascend) (λ k t there is_main. graph_markers p k t there is_main ascend) m same }
