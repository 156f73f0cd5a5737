-- Each recipe that verdicts give is that of a note, and so of few levels.
use Rattle.std.proofs.Common.{◌≡◌, ℕ, ◌+◌, ◌<◌, Option, Some, None, List, [], ◌∷◌, ◌++◌, length, map, slice_get, refl, sym, ap, ◌∙◌, subst, arith}
use Rattle.std.specs.Prelude.{option_map}
use Rattle.std.proofs.lemmas.Option.{none-some, same_Some}
use Rattle.places.specs.declared.table.PlaceRow.{PlaceRow}
use Rattle.c_tree.specs.Programs.{LiteralTree, ProgramTree, StaticTree}
use Rattle.c_places.specs.Places.{Place, places_of_program}
use Rattle.c_type_laws.specs.Laws.{IsWellFormed}
use Rattle.c_flow.specs.Rows.{row_view, rows_of_program}
use Rattle.graph_core.specs.declared.recipe.Recipe as declared-recipe
use Rattle.graph_core.specs.Graphs.{Graph, Is, Marker, Scalar, recipe_view}
use Rattle.graph_core.specs.Paths.{Among, Path, front, behind}
use Rattle.graph_core.specs.Validity.{IsGraph, IsNoteValue, IsValid, markers_of_blocks}
use Rattle.graph_core.specs.WellMarked.{IsVariable}
use Rattle.graph_homes.specs.Homes.{HoldsOnAllPaths}
use Rattle.graph_homes.specs.Homed.{HomedForm, home_of}
use Rattle.currency.specs.declared.verdict.Verdict.TheVariants as told
use Rattle.currency.specs.declared.verdict.PlaceVerdict.{PlaceVerdict}
use Rattle.currency.specs.Evident.{IsEvident, IsScalarOf}
use Rattle.currency.specs.Sound.{IsReached}
use Rattle.currency.specs.Visible.{sight, sights_from}
use Rattle.image_build_tables.specs.Rows.{AreShallow}
use Rattle.image_build_tables.specs.Variables.{owned_from, owners_of}
use Rattle.image_truth_units.specs.ImageRulesUnits.{HasOwnPlaces, IsPlaceIn}
use Rattle.image_truth_units.specs.Units.{HasVariablesIn, IsVariableOf}
use Rattle.image_truth_units.specs.Variables.{automatic_number}
use Rattle.image_build.specs.Made.{AreBorneOut}
use Rattle.image_build.proofs.Markers.{path_marked}
use Rattle.image_build.proofs.Noted.{path_noted}
use Rattle.image_build.proofs.Rows.{mapped, seen_from}
use Rattle.image_build.proofs.Rules.{IsOwnSight, own_sight}
use Rattle.base_laws.proofs.Lists.{all_there, behind_at, length_mapped}

-- the scalar of a graph for a variable
pub scalar_there : (o : Option Scalar) (variable : ℕ) → option_map (λ (s : Scalar). s.variable) o ≡ Some variable → (s : Scalar) × (o ≡ Some s) × (s.variable ≡ variable)
scalar_there None variable is = absurd (none-some variable is)
scalar_there (Some s) variable is = (s, refl, same_Some s.variable variable is)

-- the owner of an automatic variable stands behind those of static ones and literals
owner_is : (p : ProgramTree) (x : ℕ) → slice_get (owners_of p) (automatic_number p x) ≡ slice_get (owned_from 0 p.functions) x
owner_is p x =
    let statics : List (Option ℕ) = map (λ (t : StaticTree). None) p.statics in
    let literals : List (Option ℕ) = map (λ (l : LiteralTree). None) p.literals in
    let owned : List (Option ℕ) = owned_from 0 p.functions in
    let long : length statics ≡ length p.statics = length_mapped (λ (t : StaticTree). None) p.statics in
    let more : length literals ≡ length p.literals = length_mapped (λ (l : LiteralTree). None) p.literals in
    let at : automatic_number p x ≡ length statics + (length literals + x) = omega (arith, long, more) in
    ap (slice_get (statics ++ (literals ++ owned))) at ∙ behind_at statics (literals ++ owned) (length literals + x) ∙ behind_at literals owned x

module _ (p : ProgramTree) (formed : IsWellFormed p) (h : HomedForm) (valid : IsValid h.unit) (places : HasOwnPlaces p h.unit) (variables : HasVariablesIn p h.unit) (table : List PlaceRow) (are : map row_view table ≡ rows_of_program p) (few : length table + 1 < 4294967296) where
  -- a scalar of a function that is seen at a place of a graph is of the graph's function
  one_function : (f k number variable : ℕ) (g : Graph) → slice_get h.unit.graphs f ≡ Some g → Among number (markers_of_blocks g.blocks) → (d : Graph) (x : ℕ) → slice_get h.unit.graphs k ≡ Some d → IsVariable d x variable → IsOwnSight p formed table are number variable → f ≡ k
  one_function f k number variable g is among d x at of own =
      let place : IsPlaceIn p f number = places.own f number g is among in
      let first = place.number_is in
      let second = own.number_is in
      let index : place.index ≡ own.index = omega (arith, first, second) in
      let same : place.at ≡ own.place = same_Some place.at own.place (sym place.is ∙ ap (slice_get (places_of_program p)) index ∙ own.is) in
      let s = scalar_there (slice_get d.scalars x) variable of in
      let its : IsVariableOf p k variable = subst (IsVariableOf p k) s.2 (variables.scalars k x d s.0 at s.1) in
      let owner : Some own.place.function ≡ Some k = same_Some (Some own.place.function) (Some k) (sym own.owner ∙ ap (slice_get (owners_of p)) its.number_is ∙ owner_is p its.variable ∙ its.owner) in
      sym place.function_is ∙ ap (λ (q : Place). q.function) same ∙ same_Some own.place.function k owner

  module _ (all : List PlaceVerdict) (seen : map sight all ≡ sights_from 1 table) (borne : AreBorneOut h all) where
    -- no recipe stands beside a home
    not_home : (r : declared-recipe.Recipe) (change : ℕ) → told.Home ≡ told.Recovered r change → ⊥
    not_home r change e = cc

    -- A recipe that a verdict gives is one that a note may give.
    given_noted : (w : PlaceVerdict) (r : declared-recipe.Recipe) (change : ℕ) → Among w all → w.verdict ≡ told.Recovered r change → (f x : ℕ) (g : Graph) → slice_get h.unit.graphs f ≡ Some g → IsVariable g x w.var.0 → IsReached h w.place.0 → IsNoteValue h.unit g (Is (recipe_view r))
    given_noted w r change among is f x g at of reached =
        let way = reached.reached.reached in
        let own : IsOwnSight p formed table are w.place.0 w.var.0 = own_sight p formed table are (sight w) (seen_from 1 table (sight w) (omega (arith, few)) (subst (λ l. Among (sight w) l) seen (mapped sight all w among))) in
        let marked = path_marked reached.graph way.history reached.reached.block w.place.0 reached.reached.rest reached.reached.end way.path in
        let function : reached.function ≡ f = one_function reached.function f w.place.0 w.var.0 reached.graph reached.is marked g x at of own in
        let graph : reached.graph ≡ g = same_Some reached.graph g (sym reached.is ∙ ap (slice_get h.unit.graphs) function ∙ at) in
        let here : Path g way.history reached.reached.block (Marker w.place.0 ∷ reached.reached.rest) reached.reached.end = subst (λ (d : Graph). Path d way.history reached.reached.block (Marker w.place.0 ∷ reached.reached.rest) reached.reached.end) graph way.path in
        let on_all : HoldsOnAllPaths (home_of h f) g w.place.0 x (recipe_view r) = borne.recovered w r change among is f x g at of in
        path_noted h.unit g (all_there (IsGraph h.unit) h.unit.graphs f g valid.graphs at) way.history reached.reached.block (Marker w.place.0 ∷ reached.reached.rest) reached.reached.end here x (Is (recipe_view r))
        (on_all way.history reached.reached.block reached.reached.rest reached.reached.end here).note

    -- EACH RECIPE THAT IS GIVEN IS OF FEW LEVELS.
    pub shallow_recipes : AreShallow all
    shallow_recipes w r change among is =
        let scalar : IsScalarOf h w.var.0 = subst (λ v. IsEvident h.unit.log borne.flow h w.var.0 w.place.0 v) is (borne.evident w among) in
        let reached : IsReached h w.place.0 = borne.reached w among (λ home. not_home r change (sym home ∙ is)) in
        (given_noted w r change among is scalar.function scalar.index scalar.graph scalar.is scalar.of reached).1
