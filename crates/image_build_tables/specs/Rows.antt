-- The rows of visible variables.
use Rattle.std.specs.Prelude.{◌≡◌, ℕ, zero, suc, ◌+◌, ◌<◌, ◌≤◌, get_or, option_and_then, option_map, Option, Some, None, List, [], ◌∷◌, length, map, slice_get}
use Rattle.debug_records.specs.declared.change.Place.{Place}
use Rattle.places.specs.declared.table.PlaceRow.{PlaceRow}
use Rattle.rv_emit_tables.specs.Emitted.{EmittedForm, FunctionCode, function_view}
use Rattle.graph_homes.specs.declared.home.Home.{Home}
use Rattle.graph_core.specs.declared.recipe.Recipe as declared-recipe
use Rattle.graph_core.specs.Paths.{Among}
use Rattle.graph_core.specs.Graphs.{Block, Graph, Recipe, graph_view, recipe_view}
use Rattle.graph_core.specs.Validity.{depth_of}
use Rattle.graph_homes.specs.declared.homed.FunctionHomes as declared-homes
use Rattle.graph_homes.specs.Homed.{HomedForm}
use Rattle.currency_writers.specs.declared.writers.Writer as declared-writer
use Rattle.currency_writers.specs.declared.writers.Writer.TheVariants as writer
use Rattle.currency.specs.declared.verdict.Verdict as told-verdict
use Rattle.currency.specs.declared.verdict.Verdict.TheVariants as told
use Rattle.currency.specs.declared.verdict.PlaceVerdict as told-row
use Rattle.image_form.specs.declared.recipes.Node.{Node}
use Rattle.image_form.specs.declared.verdicts.Verdict.{Verdict}
use Rattle.image_form.specs.declared.verdicts.Verdict.TheVariants as verdict
use Rattle.image_form.specs.declared.verdicts.VisibleRow.{VisibleRow}
use Rattle.image_build_tables.specs.Variables.{bounded_count}
use Rattle.image_build_tables.specs.declared.rows.Telling as declared-telling
use Rattle.image_build_tables.specs.Nodes.{AreNewOf, IsNodeOf, IsPartOf, Naming, size_of}

-- for each block how many instructions stand before it, where so many stand before the first
abbrev pub firsts_from : (count : ℕ) → List Block → List ℕ
firsts_from count [] = []
firsts_from count (b ∷ more) = bounded_count count ∷ firsts_from (count + length b.instructions) more

-- the number of an instruction among those of its graph, block by block
abbrev pub instruction_number : Graph → (block index : ℕ) → ℕ
instruction_number g block index = bounded_count (get_or (firsts_from 0 g.blocks) block 0 + index)

-- the address of the word that writes a home
abbrev pub address_of_writer : List Graph → List FunctionCode → declared-writer.Writer → Option ℕ
address_of_writer graphs codes (writer.Instruction f block index) =
    option_and_then
    (λ (g : Graph). option_and_then (λ (c : FunctionCode). slice_get c.writers (instruction_number g block index))
    (slice_get codes f))
    (slice_get graphs f)
address_of_writer graphs codes (writer.Binding f parameter) =
    option_and_then (λ (c : FunctionCode). slice_get c.bindings parameter) (slice_get codes f)

-- that of one that may be none
abbrev pub address_of_some : List Graph → List FunctionCode → Option declared-writer.Writer → Option ℕ
address_of_some graphs codes None = None
address_of_some graphs codes (Some w) = address_of_writer graphs codes w

-- By what recipes at places are told: the graphs, homes and codes of all functions, the addresses of static objects,
-- and the function of each place.
pub record Telling : Type 0 where
  pub graphs : List Graph
  pub homes : List (List Home)
  pub codes : List FunctionCode
  pub statics : List ℕ
  pub places : List PlaceRow

abbrev pub telling_view : declared-telling.Telling → Telling
telling_view t = record {
  graphs = map graph_view t.graphs.now;
  homes = map (λ (f : declared-homes.FunctionHomes). f.homes.items) t.homes.now;
  codes = map function_view t.code.now;
  statics = t.statics.now;
  places = t.places.now;
}

-- by what the recipes of a function are told, if it is there
abbrev pub naming_in : Telling → (function : ℕ) → Option Naming
naming_in t f =
    option_and_then (λ (g : Graph). option_and_then (λ (homes : List Home). option_map (λ (c : FunctionCode). record {
      graph = g;
      homes = homes;
      slots = c.slots;
      statics = t.statics;
    }) (slice_get t.codes f)) (slice_get t.homes f)) (slice_get t.graphs f)

-- by what those at a place are told; places are numbered from 1
abbrev pub naming_at : Telling → (place : ℕ) → Option Naming
naming_at t zero = None
naming_at t (suc k) = option_and_then (λ (r : PlaceRow). naming_in t r.function) (slice_get t.places k)

-- the node of a recipe, where there is a function in whose names it is; else one that no image has
abbrev pub IsNodeIn : List Node → Option Naming → Recipe → ℕ → Type 0
IsNodeIn nodes None r k = k ≡ 4294967295
IsNodeIn nodes (Some n) r k = IsNodeOf nodes n r k

-- what an image says where this is told at a place: the same, with the node of the recipe, and the address of the word
-- that writes the home
abbrev pub IsVerdictOf : Telling → List Node → (place : ℕ) → told-verdict.Verdict → Verdict → Type 0
IsVerdictOf t nodes place told.Home v = v ≡ verdict.Home
IsVerdictOf t nodes place (told.Recovered r change) v =
    (k : ℕ) × (v ≡ verdict.Recovered change k) × IsNodeIn nodes (naming_at t place) (recipe_view r) k
IsVerdictOf t nodes place (told.Noncurrent change start w q) v =
    v ≡ verdict.Noncurrent change start.0 (address_of_some t.graphs t.codes w)
IsVerdictOf t nodes place (told.Nonresident change start w q) v =
    v ≡ verdict.Nonresident change start.0 (address_of_writer t.graphs t.codes w)

-- the place at which the quiet path begins that is told of, if one is
abbrev pub quiet_of : told-verdict.Verdict → Option ℕ
quiet_of told.Home = None
quiet_of (told.Recovered r change) = None
quiet_of (told.Noncurrent change start w q) = option_map (λ (p : Place). p.0) q
quiet_of (told.Nonresident change start w q) = option_map (λ (p : Place). p.0) q

-- A ROW SAYS WHAT IS TOLD: of the same variable at the same place, with the same quiet path.
pub record IsRowOf (t : Telling) (nodes : List Node) (told : told-row.PlaceVerdict) (r : VisibleRow) : Type 0 where
  pub place : r.place ≡ told.place.0
  pub variable : r.variable ≡ told.var.0
  pub verdict : IsVerdictOf t nodes told.place.0 told.verdict r.verdict
  pub quiet : r.quiet ≡ quiet_of told.verdict

-- rows say what is told, one by one
abbrev pub AreRowsOf : Telling → List Node → List told-row.PlaceVerdict → List VisibleRow → Type 0
AreRowsOf t nodes [] [] = Unit {0}
AreRowsOf t nodes [] (r ∷ rows) = ⊥
AreRowsOf t nodes (w ∷ more) [] = ⊥
AreRowsOf t nodes (w ∷ more) (r ∷ rows) = IsRowOf t nodes w r × AreRowsOf t nodes more rows

-- each node behind the old ones is that of the recipe or of a part of it, where there is a function in whose names it
-- is; else there is none
abbrev pub AreNewIn : (old new : List Node) → Option Naming → Recipe → Type 0
AreNewIn old new None r = length new ≤ length old
AreNewIn old new (Some n) r = AreNewOf old new n r

-- the same of the recipe that is told at a place, if one is
abbrev pub AreNewBy : Telling → (old new : List Node) → (place : ℕ) → told-verdict.Verdict → Type 0
AreNewBy t old new place told.Home = length new ≤ length old
AreNewBy t old new place (told.Recovered r change) = AreNewIn old new (naming_at t place) (recipe_view r)
AreNewBy t old new place (told.Noncurrent change start w q) = length new ≤ length old
AreNewBy t old new place (told.Nonresident change start w q) = length new ≤ length old

-- A NODE IS NEEDED: it is the node of a recipe that is told at a place, or of a part of it.
pub record IsNodeToldBy (t : Telling) (nodes : List Node) (all : List told-row.PlaceVerdict) (k : ℕ) : Type 0 where
  pub row : told-row.PlaceVerdict
  pub recipe : declared-recipe.Recipe
  pub change : ℕ
  pub part : Recipe
  pub naming : Naming
  pub among : Among row all
  pub verdict : row.verdict ≡ told.Recovered recipe change
  pub naming_is : naming_at t row.place.0 ≡ Some naming
  pub of : IsPartOf part (recipe_view recipe)
  pub node : IsNodeOf nodes naming part k

-- each node is needed
abbrev pub AreNodesOf : Telling → List Node → List told-row.PlaceVerdict → Type 0
AreNodesOf t nodes all = (k : ℕ) → k < length nodes → IsNodeToldBy t nodes all k

-- how many nodes what is told asks for at most: one for each part of its recipe, if it gives one
abbrev pub size_told : told-verdict.Verdict → ℕ
size_told told.Home = 0
size_told (told.Recovered r change) = size_of (recipe_view r)
size_told (told.Noncurrent change start w q) = 0
size_told (told.Nonresident change start w q) = 0

-- the recipes that are told have at most four levels
abbrev pub AreShallow : List told-row.PlaceVerdict → Type 0
AreShallow all =
    (w : told-row.PlaceVerdict) (r : declared-recipe.Recipe) (change : ℕ) → Among w all
    → w.verdict ≡ told.Recovered r change → depth_of (recipe_view r) ≤ 4

-- Each verdict says that the home of its variable shows it.
abbrev pub AreShown : List told-row.PlaceVerdict → Type 0
AreShown all = (w : told-row.PlaceVerdict) → Among w all → w.verdict ≡ told.Home

-- by what recipes are told in an image with this code, of a unit with these homes, at these places
abbrev pub telling_of : HomedForm → List PlaceRow → EmittedForm → Telling
telling_of h rows e =
    record { graphs = h.unit.graphs; homes = h.homes; codes = e.functions; statics = e.statics; places = rows }
