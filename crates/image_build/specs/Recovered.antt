-- What recovered rows come to.
use Rattle.std.specs.Prelude.{◌≡◌, ℕ, ◌<◌, List, length}
use Rattle.currency.specs.declared.verdict.Verdict.TheVariants as told
use Rattle.currency.specs.declared.verdict.PlaceVerdict as told-row
use Rattle.currency.specs.Evident.{IsScalarOf}
use Rattle.rv_emit_steps.specs.Meaning.{Means}
use Rattle.rv_emit_runs.specs.Laid.{Arrangement}
use Rattle.rv_emit_runs.specs.Standing.{StandsAt}
use Rattle.rv_emit_tables.specs.Emitted.{EmittedForm}
use Rattle.graph_core.specs.declared.recipe.Recipe as declared-recipe
use Rattle.graph_core.specs.Graphs.{Recipe}
use Rattle.graph_core.specs.Paths.{Among}
use Rattle.graph_core.specs.Runs.{Activation, Configuration}
use Rattle.graph_homes.specs.Homes.{HoldsOnAllPaths}
use Rattle.home_assign.specs.Alike.{IsSame, AreShown, shown_value}
use Rattle.graph_homes.specs.Homed.{HomedForm, home_of, over_homes}
use Rattle.image_form.specs.Form.{Form}
use Rattle.image_build_tables.specs.Rows.{IsNodeIn, Telling, naming_at}
use Rattle.rv_machine.specs.State.{MachineState}
use Rattle.stop_engine_view.specs.Recipes.{recipe_value}
use Rattle.stop_engine_view.specs.Values.{recipe_levels}
use Rattle.graph_homes.specs.Owned.{IsRunning}

-- Where a verdict gives a recipe for a variable, that is a scalar.
abbrev pub AreOfScalars : HomedForm → List told-row.PlaceVerdict → Type 0
AreOfScalars h rows =
    (w : told-row.PlaceVerdict) (r : declared-recipe.Recipe) (change : ℕ) → Among w rows
    → w.verdict ≡ told.Recovered r change → IsScalarOf h w.var.0

-- WHAT THE NODES OF A RECIPE COME TO is the word of its value over homes: at each stop of the unit over homes where the
-- machine stands, of each recipe that gives a scalar's value on all paths to the place.
abbrev pub ComeToRecipes : HomedForm → EmittedForm → Arrangement → Form → Telling → Type 0
ComeToRecipes h e a m t =
    (b : Activation) (c : Configuration) (s : MachineState) (stands : StandsAt h e a c s) → IsRunning (over_homes h) c
    → IsSame h b c.here → AreShown h b c.here
    → (x node : ℕ) (r : Recipe) → x < length b.graph.scalars
    → HoldsOnAllPaths (home_of h b.function) b.graph b.place x r → IsNodeIn m.nodes (naming_at t b.place) r node
    → Means stands.addresses c.memory (shown_value h b.function c.here.names r) (recipe_value m s recipe_levels node)
