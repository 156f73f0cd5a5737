-- The nodes of recipes come to the words of their values over homes.
use Rattle.std.proofs.Common.{◌≡◌, ℕ, suc, ◌≤◌, Some, List, ◌++◌, length, map, slice_get, refl, sym, ap, ◌∙◌, subst}
use Rattle.std.specs.Prelude.{option_and_then, option_map}
use Rattle.std.proofs.lemmas.Option.{same_Some}
use Rattle.places.specs.declared.table.PlaceRow.{PlaceRow}
use Rattle.c_tree.specs.Programs.{ProgramTree}
use Rattle.rv_emit_steps.specs.Meaning.{Means}
use Rattle.rv_emit_runs.specs.Told.{Tells}
use Rattle.rv_emit_runs.specs.Laid.{Arrangement}
use Rattle.rv_emit_tables.specs.Emitted.{EmittedForm, FunctionCode}
use Rattle.graph_core.specs.Graphs.{Graph}
use Rattle.graph_core.specs.Runs.{Activation}
use Rattle.graph_core.specs.Validity.{IsValid, IsGraph, depth_of}
use Rattle.graph_homes.specs.declared.home.Home.{Home}
use Rattle.home_assign.specs.Alike.{shown_value}
use Rattle.graph_homes.specs.Homed.{HomedForm, HaveHomes}
use Rattle.image_build_tables.specs.Storages.{storages_of}
use Rattle.image_build_tables.specs.Variables.{shape, shapes_of, owner, owners_of, declared_names, name_length, length_of_name, storage}
use Rattle.image_form.specs.Form.{Form}
use Rattle.image_form.specs.Rules.{IsImage}
use Rattle.image_build_tables.specs.Rows.{IsNodeIn, naming_at, naming_in, telling_of}
use Rattle.image_truth_units.specs.Units.{HasVariablesIn}
use Rattle.image_truth_units.proofs.Tables.{all_at}
use Rattle.stop_engine_view.specs.Recipes.{recipe_value}
use Rattle.stop_engine_view.specs.Values.{recipe_levels}
use Rattle.graph_homes.specs.Owned.{IsPlaceOf}
use Rattle.graph_homes.proofs.Homes.{of_function}
use Rattle.image_build.specs.Recovered.{ComeToRecipes}
use Rattle.image_build.proofs.Nodes as nodes
use Rattle.image_build.proofs.Noted.{recipe_valid}
use Rattle.image_build.proofs.PassesTruthWords.{homes_there}

levels_are : 4 ≡ recipe_levels
unfolding recipe_levels
levels_are = refl

-- The row of a place that is a graph's: that of the graph's function.
pub record HasRow (places : List PlaceRow) (function place : ℕ) : Type 0 where
  pub index : ℕ
  pub row : PlaceRow
  pub number_is : place ≡ suc index
  pub is : slice_get places index ≡ Some row
  pub function_is : row.function ≡ function

module _ (p : ProgramTree) (m : Form) (functions : map name_length m.functions ≡ map length_of_name p.functions) (variables : map shape m.variables ≡ shapes_of p) (owners : map owner m.variables ≡ owners_of p) (more : List ℕ) (names : m.names ≡ declared_names p ++ more) (rules : IsImage m)
    (h : HomedForm) (valid : IsValid h.unit) (homed : HaveHomes h) (a : Arrangement) (e : EmittedForm) (storages : map storage m.variables ≡ storages_of h e (length m.variables)) (unit : HasVariablesIn p h.unit) (tells : Tells h a e) (places : List PlaceRow)
    (row_there : (f n : ℕ) (g : Graph) → slice_get h.unit.graphs f ≡ Some g → IsPlaceOf g n → HasRow places f n) where
  -- by what the recipes of a function are told
  naming_is : (f : ℕ) (g : Graph) (homes : List Home) (code : FunctionCode) → slice_get h.unit.graphs f ≡ Some g → slice_get h.homes f ≡ Some homes → slice_get e.functions f ≡ Some code
      → naming_in (telling_of h places e) f ≡ Some (record { graph = g; homes = homes; slots = code.slots; statics = e.statics })
  naming_is f g homes code graph_is homes_are code_is =
      ap (option_and_then (λ (x : Graph). option_and_then (λ (y : List Home). option_map (λ (z : FunctionCode). record { graph = x; homes = y; slots = z.slots; statics = e.statics }) (slice_get e.functions f)) (slice_get h.homes f))) graph_is
      ∙ ap (option_and_then (λ (y : List Home). option_map (λ (z : FunctionCode). record { graph = g; homes = y; slots = z.slots; statics = e.statics }) (slice_get e.functions f))) homes_are
      ∙ ap (option_map (λ (z : FunctionCode). record { graph = g; homes = homes; slots = z.slots; statics = e.statics })) code_is

  -- The nodes of recipes come to the words of their values over homes.
  pub come : ComeToRecipes h e a m (telling_of h places e)
  come b c s stands running same shown x node r within on_all named =
      let function : c.here.function ≡ b.function = ap (λ (z : Activation). z.function) same.placed in
      let place : c.here.place ≡ b.place = ap (λ (z : Activation). z.place) same.placed in
      let graph : slice_get h.unit.graphs c.here.function ≡ Some b.graph = ap (slice_get h.unit.graphs) function ∙ same.of in
      let of = of_function h c.here running.here in
      let graph_same : of.graph ≡ b.graph = same_Some of.graph b.graph (sym of.is ∙ graph) in
      let row = row_there c.here.function c.here.place b.graph graph (subst (λ (z : Graph). IsPlaceOf z c.here.place) graph_same of.place) in
      let homes = homes_there h.unit.graphs h.homes c.here.function b.graph homed graph in
      let told = tells.functions c.here.function b.graph graph in
      let naming : naming_at (telling_of h places e) b.place ≡ Some (record { graph = b.graph; homes = homes.0; slots = told.code.slots; statics = e.statics }) =
      ap (naming_at (telling_of h places e)) (sym place ∙ row.number_is) ∙ ap (option_and_then (λ (z : PlaceRow). naming_in (telling_of h places e) z.function)) row.is ∙ ap (naming_in (telling_of h places e)) row.function_is
      ∙ naming_is c.here.function b.graph homes.0 told.code graph homes.1 told.is in
      let is_node = subst (λ o. IsNodeIn m.nodes o r node) naming named in
      let may = recipe_valid h b c.here (all_at (IsGraph h.unit) h.unit.graphs c.here.function b.graph valid.graphs graph) shown x r on_all in
      let deep = subst (λ n. depth_of r ≤ n) levels_are may.1 in
      let read = nodes.recipe_read p m functions variables owners more names rules h valid homed a e storages unit tells c s stands b.graph graph homes.0 homes.1 homes.2 r recipe_levels node may.0 deep is_node in
      subst (λ f. Means stands.addresses c.memory (shown_value h f c.here.names r) (recipe_value m s recipe_levels node)) function read.0
