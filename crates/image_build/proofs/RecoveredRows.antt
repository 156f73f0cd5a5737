-- What the rows of an image say of recipes is what verdicts say.
use Rattle.std.proofs.Common.{◌≡◌, ℕ, sym, ap, ◌∙◌, subst, arith, Some, List, ◌∷◌, map, slice_get, refl}
use Rattle.graph_core.specs.declared.recipe.Recipe as declared-recipe
use Rattle.graph_core.specs.Graphs.{recipe_view}
use Rattle.graph_core.specs.Paths.{Among}
use Rattle.currency.specs.declared.verdict.Verdict as told-verdict
use Rattle.currency.specs.declared.verdict.Verdict.TheVariants as told
use Rattle.currency.specs.declared.verdict.PlaceVerdict.{PlaceVerdict}
use Rattle.image_form.specs.Form.{Form}
use Rattle.image_form.specs.Numbers.{row_numbers, verdict_numbers}
use Rattle.image_form.specs.declared.recipes.Node.{Node}
use Rattle.image_form.specs.declared.verdicts.Verdict.{Verdict}
use Rattle.image_form.specs.declared.verdicts.Verdict.TheVariants.{Home, Recovered, Noncurrent, Nonresident}
use Rattle.image_form.specs.declared.verdicts.VisibleRow.{VisibleRow}
use Rattle.image_build_tables.specs.Rows.{Telling, IsNodeIn, IsVerdictOf, IsRowOf, AreRowsOf, naming_at}
use Rattle.image_truth_units.proofs.Tables.{map_at, from_map}
use Rattle.image_build.proofs.Told.{first_same, rest_same, said_by}
use Rattle.image_build.proofs.RecordNumbers.{plain_same}

-- a verdict with the numbers of a recovered one is that
recovered_by_numbers : (v : Verdict) (change node : ℕ) → verdict_numbers v ≡ verdict_numbers (Recovered change node) → v ≡ Recovered change node
recovered_by_numbers Home change node e = absurd (let f = first_same _ _ _ _ e in omega (arith, f))
recovered_by_numbers (Recovered c n) change node e = cc
recovered_by_numbers (Noncurrent c start writer) change node e = absurd (let f = first_same _ _ _ _ e in omega (arith, f))
recovered_by_numbers (Nonresident c start writer) change node e = absurd (let f = first_same _ _ _ _ e in omega (arith, f))

-- A verdict gives a recipe for a variable at a place, and this is its node.
pub record GivesRecipe (t : Telling) (nodes : List Node) (all : List PlaceVerdict) (place variable node : ℕ) : Type 0 where
  pub verdict : PlaceVerdict
  pub among : Among verdict all
  pub recipe : declared-recipe.Recipe
  pub change : ℕ
  pub is : verdict.verdict ≡ told.Recovered recipe change
  pub place_is : verdict.place.0 ≡ place
  pub variable_is : verdict.var.0 ≡ variable
  pub node_is : IsNodeIn nodes (naming_at t place) (recipe_view recipe) node

module _ (t : Telling) (nodes : List Node) where
  same_node : (change c node n : ℕ) → Recovered change node ≡ Recovered c n → node ≡ n
  same_node change c node n e = cc

  -- the recipe of a verdict that a row says to be recovered
  recipe_of : (w : PlaceVerdict) (all : List PlaceVerdict) (place variable change node : ℕ) (v : Verdict) → Among w all → w.place.0 ≡ place → w.var.0 ≡ variable → (told : told-verdict.Verdict) → w.verdict ≡ told → IsVerdictOf t nodes w.place.0 told v → v ≡ Recovered change node → GivesRecipe t nodes all place variable node
  recipe_of w all place variable change node v among at of told.Home is say e = absurd (let f : Home ≡ Recovered change node = sym say ∙ e in cc)
  recipe_of w all place variable change node v among at of (told.Recovered r c) is say e =
      record {
        verdict = w;
        among = among;
        recipe = r;
        change = c;
        is = is;
        place_is = at;
        variable_is = of;
        node_is = subst (λ p. IsNodeIn nodes (naming_at t p) (recipe_view r) node) at (subst (IsNodeIn nodes (naming_at t w.place.0) (recipe_view r)) (same_node c change say.0 node (sym say.1 ∙ e)) say.2);
      }
  recipe_of w all place variable change node v among at of (told.Noncurrent c start writer q) is say e = absurd (let f = sym say ∙ e in cc)
  recipe_of w all place variable change node v among at of (told.Nonresident c start writer q) is say e = absurd (let f = sym say ∙ e in cc)

-- Where a row says that a value is recovered, a verdict gives the recipe.
pub gives_recipe : (t : Telling) (m : Form) (all : List PlaceVerdict) (rows : List VisibleRow) → AreRowsOf t m.nodes all rows → map (row_numbers m.version.level) m.rows ≡ map (row_numbers m.version.level) rows
    → (k change node : ℕ) (r : VisibleRow) → slice_get m.rows k ≡ Some r → r.verdict ≡ Recovered change node → GivesRecipe t m.nodes all r.place r.variable node
gives_recipe t m all rows say same k change node r is recovered =
    let q = from_map (row_numbers m.version.level) rows k (row_numbers m.version.level r) (ap (λ l. slice_get l k) (sym same) ∙ map_at (row_numbers m.version.level) m.rows k r is) in
    let row : VisibleRow = q.0 in
    let numbers : row.place ∷ row.variable ∷ verdict_numbers row.verdict ≡ r.place ∷ r.variable ∷ verdict_numbers r.verdict = plain_same m.version.level row r q.2 in
    let place : row.place ≡ r.place = first_same row.place r.place (row.variable ∷ verdict_numbers row.verdict) (r.variable ∷ verdict_numbers r.verdict) numbers in
    let rest : row.variable ∷ verdict_numbers row.verdict ≡ r.variable ∷ verdict_numbers r.verdict = rest_same row.place r.place (row.variable ∷ verdict_numbers row.verdict) (r.variable ∷ verdict_numbers r.verdict) numbers in
    let var : row.variable ≡ r.variable = first_same row.variable r.variable (verdict_numbers row.verdict) (verdict_numbers r.verdict) rest in
    let verdict : row.verdict ≡ Recovered change node = recovered_by_numbers row.verdict change node (rest_same row.variable r.variable (verdict_numbers row.verdict) (verdict_numbers r.verdict) rest ∙ ap verdict_numbers recovered) in
    let found = said_by t m.nodes all rows k row say q.1 in
    let w : PlaceVerdict = found.0 in
    let of : IsRowOf t m.nodes w row = found.2 in
    recipe_of t m.nodes w all r.place r.variable change node row.verdict found.1 (sym of.place ∙ place) (sym of.variable ∙ var) w.verdict refl of.verdict verdict
