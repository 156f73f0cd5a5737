-- What the rows of an image say of homes is borne out where verdicts are.
use Rattle.std.proofs.Common.{◌≡◌, ℕ, zero, suc, refl, sym, ap, ◌∙◌, subst, arith, Some, List, [], ◌∷◌, map, slice_get}
use Rattle.std.proofs.lemmas.Option.{none-some, same_Some}
use Rattle.graph_core.specs.Graphs.{Graph, Of, Name}
use Rattle.graph_core.specs.Paths.{Among, front, behind}
use Rattle.graph_core.specs.WellMarked.{IsVariable}
use Rattle.graph_homes.specs.Homes.{HoldsOnAllPaths}
use Rattle.graph_homes.specs.Homed.{HomedForm, home_of}
use Rattle.currency.specs.declared.verdict.Verdict as told-verdict
use Rattle.currency.specs.declared.verdict.Verdict.TheVariants as told
use Rattle.currency.specs.declared.verdict.PlaceVerdict.{PlaceVerdict}
use Rattle.currency.specs.Sound.{AreHome}
use Rattle.image_form.specs.Form.{Form}
use Rattle.image_form.specs.Numbers.{row_numbers, verdict_numbers}
use Rattle.image_form.specs.declared.recipes.Node.{Node}
use Rattle.image_form.specs.declared.verdicts.Verdict.{Verdict}
use Rattle.image_form.specs.declared.verdicts.Verdict.TheVariants.{Home, Recovered, Noncurrent, Nonresident}
use Rattle.image_form.specs.declared.verdicts.VisibleRow.{VisibleRow}
use Rattle.image_build_tables.specs.Rows.{Telling, IsVerdictOf, IsRowOf, AreRowsOf}
use Rattle.image_truth_units.proofs.Tables.{map_at, from_map}
use Rattle.image_build.proofs.RecordNumbers.{plain_same}

-- lists that are the same begin with the same
pub first_same : (a b : ℕ) (xs ys : List ℕ) → a ∷ xs ≡ b ∷ ys → a ≡ b
first_same a b xs ys e = cc

-- and go on with the same
pub rest_same : (a b : ℕ) (xs ys : List ℕ) → a ∷ xs ≡ b ∷ ys → xs ≡ ys
rest_same a b xs ys e = cc

-- a verdict with the numbers of a home is that
home_by_numbers : (v : Verdict) → verdict_numbers v ≡ verdict_numbers Home → v ≡ Home
home_by_numbers Home e = refl
home_by_numbers (Recovered change node) e = absurd (let f = first_same _ _ _ _ e in omega (arith, f))
home_by_numbers (Noncurrent change start writer) e = absurd (let f = first_same _ _ _ _ e in omega (arith, f))
home_by_numbers (Nonresident change start writer) e = absurd (let f = first_same _ _ _ _ e in omega (arith, f))

module _ (t : Telling) (nodes : List Node) where
  told_home : (w : told-verdict.Verdict) (place : ℕ) (v : Verdict) → IsVerdictOf t nodes place w v → v ≡ Home → w ≡ told.Home
  told_home told.Home place v is e = refl
  told_home (told.Recovered r change) place v is e = absurd (let f : Home ≡ Recovered change is.0 = sym e ∙ is.1 in cc)
  told_home (told.Noncurrent change start w q) place v is e = absurd (let f = sym e ∙ is in cc)
  told_home (told.Nonresident change start w q) place v is e = absurd (let f = sym e ∙ is in cc)

  -- the verdict of a row
  pub said_by : (all : List PlaceVerdict) (rows : List VisibleRow) (k : ℕ) (r : VisibleRow) → AreRowsOf t nodes all rows → slice_get rows k ≡ Some r → (w : PlaceVerdict) × Among w all × IsRowOf t nodes w r
  said_by [] [] k r say is = absurd (none-some r is)
  said_by [] (q ∷ rows) k r say is = absurd say
  said_by (w ∷ all) [] k r say is = absurd say
  said_by (w ∷ all) (q ∷ rows) zero r say is = (w, front, subst (IsRowOf t nodes w) (same_Some q r is) say.0)
  said_by (w ∷ all) (q ∷ rows) (suc k) r say is = let found = said_by all rows k r say.1 is in (found.0, behind found.1, found.2)

-- Where a row says that a home shows a variable, that is so on all paths.
pub home_holds : (h : HomedForm) (t : Telling) (m : Form) (all : List PlaceVerdict) (rows : List VisibleRow) → AreRowsOf t m.nodes all rows → map (row_numbers m.version.level) m.rows ≡ map (row_numbers m.version.level) rows → AreHome h all
    → (k : ℕ) (r : VisibleRow) → slice_get m.rows k ≡ Some r → r.verdict ≡ Home → (f x : ℕ) (g : Graph) → slice_get h.unit.graphs f ≡ Some g → IsVariable g x r.variable → HoldsOnAllPaths (home_of h f) g r.place x (Of (Name x))
home_holds h t m all rows say same home k r is at_home f x g graph variable =
    let q = from_map (row_numbers m.version.level) rows k (row_numbers m.version.level r) (ap (λ l. slice_get l k) (sym same) ∙ map_at (row_numbers m.version.level) m.rows k r is) in
    let row : VisibleRow = q.0 in
    let numbers : row.place ∷ row.variable ∷ verdict_numbers row.verdict ≡ r.place ∷ r.variable ∷ verdict_numbers r.verdict = plain_same m.version.level row r q.2 in
    let place : row.place ≡ r.place = first_same row.place r.place (row.variable ∷ verdict_numbers row.verdict) (r.variable ∷ verdict_numbers r.verdict) numbers in
    let rest : row.variable ∷ verdict_numbers row.verdict ≡ r.variable ∷ verdict_numbers r.verdict = rest_same row.place r.place (row.variable ∷ verdict_numbers row.verdict) (r.variable ∷ verdict_numbers r.verdict) numbers in
    let var : row.variable ≡ r.variable = first_same row.variable r.variable (verdict_numbers row.verdict) (verdict_numbers r.verdict) rest in
    let verdict : row.verdict ≡ Home = home_by_numbers row.verdict (rest_same row.variable r.variable (verdict_numbers row.verdict) (verdict_numbers r.verdict) rest ∙ ap verdict_numbers at_home) in
    let found = said_by t m.nodes all rows k row say q.1 in
    let w : PlaceVerdict = found.0 in
    let of : IsRowOf t m.nodes w row = found.2 in
    subst (λ p. HoldsOnAllPaths (home_of h f) g p x (Of (Name x))) (sym of.place ∙ place)
    (home w found.1 (told_home t m.nodes w.verdict w.place.0 row.verdict of.verdict verdict) f x g graph (subst (IsVariable g x) (sym var ∙ of.variable) variable))
