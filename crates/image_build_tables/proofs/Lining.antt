-- Rows that are told one behind the other, by nodes that grow.
use Rattle.std.proofs.Common.{◌≡◌, ◌<◌, ◌^◌, ℕ, List, [], ◌∷◌, ◌++◌, Option, Some, None, length, map, refl, subst, sym, ap, ◌∙◌, append_assoc, append-nil, arith}
use Rattle.std.proofs.lemmas.List.{map-append}
use Rattle.graph_core.specs.Graphs.{Recipe, recipe_view}
use Rattle.currency.specs.declared.verdict.Verdict as told-verdict
use Rattle.currency.specs.declared.verdict.Verdict.TheVariants as told
use Rattle.currency.specs.declared.verdict.PlaceVerdict.{PlaceVerdict}
use Rattle.image_form.specs.declared.recipes.Node.{Node}
use Rattle.image_form.specs.declared.verdicts.Verdict.{Verdict}
use Rattle.image_form.specs.declared.verdicts.VisibleRow.{VisibleRow}
use Rattle.image_build_tables.proofs.Ahead.{behind_first}
use Rattle.image_build_tables.specs.Nodes.{Begin, Naming}
use Rattle.image_build_tables.specs.Rows.{AreRowsOf, IsNodeIn, IsRowOf, IsVerdictOf, Telling, naming_at, quiet_of}
use Rattle.image_build_tables.specs.Tables.{pair_of_row, sight_of_verdict}
use Rattle.image_build_tables.proofs.Growing.{begin_fewer, begin_itself, begin_twice, node_kept}

-- the node that is told of at a place stays it
node_in_kept : (nodes all : List Node) (o : Option Naming) (r : Recipe) (k : ℕ) → Begin nodes all → IsNodeIn nodes o r k → IsNodeIn all o r k
node_in_kept nodes all None r k begin is = is
node_in_kept nodes all (Some n) r k begin is = node_kept nodes all n r k begin is

-- a verdict that says what is told goes on to say it
pub verdict_kept : (t : Telling) (nodes all : List Node) (place : ℕ) (w : told-verdict.Verdict) (v : Verdict) → Begin nodes all → IsVerdictOf t nodes place w v → IsVerdictOf t all place w v
verdict_kept t nodes all place told.Home v begin is = is
verdict_kept t nodes all place (told.Recovered r change) v begin (k, is, of) = (k, is, node_in_kept nodes all (naming_at t place) (recipe_view r) k begin of)
verdict_kept t nodes all place (told.Noncurrent change start w q) v begin is = is
verdict_kept t nodes all place (told.Nonresident change start w q) v begin is = is

-- the row that an image has of what is told
abbrev pub row_of : PlaceVerdict → Verdict → VisibleRow
row_of w v = record { place = w.place.0; variable = w.var.0; verdict = v; quiet = quiet_of w.verdict }

-- the row that is put tells of the quiet path that is told of
pub row_put : (w : PlaceVerdict) (v : Verdict) (q : Option ℕ) (rows pushed : List VisibleRow) → q ≡ quiet_of w.verdict → pushed ≡ rows ++ (record { place = w.place.0; variable = w.var.0; verdict = v; quiet = q } ∷ []) → pushed ≡ rows ++ (row_of w v ∷ [])
row_put w v q rows pushed is put = put ∙ ap (λ (o : Option ℕ). rows ++ (record { place = w.place.0; variable = w.var.0; verdict = v; quiet = o } ∷ [])) is

-- the sights of rows, and of those ahead, are those of all
pub sights_step : (ahead : List PlaceVerdict) (w : PlaceVerdict) (v : Verdict) (rows pushed : List VisibleRow) (all : List PlaceVerdict) → w ∷ behind_first ahead ≡ ahead → pushed ≡ rows ++ (row_of w v ∷ [])
    → map pair_of_row rows ++ map sight_of_verdict ahead ≡ map sight_of_verdict all → map pair_of_row pushed ++ map sight_of_verdict (behind_first ahead) ≡ map sight_of_verdict all
sights_step ahead w v rows pushed all whole push told =
    let rest = map sight_of_verdict (behind_first ahead) in
    ap (λ l. map pair_of_row l ++ rest) push ∙ ap (λ l. l ++ rest) (map-append pair_of_row rows (row_of w v ∷ [])) ∙ append_assoc (map pair_of_row rows) (sight_of_verdict w ∷ []) rest
    ∙ ap (λ ws. map pair_of_row rows ++ map sight_of_verdict ws) whole ∙ told

-- what is ahead, told by rows, tells all with those that are there, however the nodes grow
abbrev pub TellAll : Telling → List Node → List VisibleRow → (ahead all : List PlaceVerdict) → Type 0
TellAll t nodes rows ahead all = (later : List Node) → Begin nodes later → length later < 2 ^ 32 → (more : List VisibleRow) → AreRowsOf t later ahead more → AreRowsOf t later all (rows ++ more)

-- so it is when a row is put behind them
pub rows_step : (t : Telling) (nodes grown : List Node) (ahead : List PlaceVerdict) (w : PlaceVerdict) (v : Verdict) (rows pushed : List VisibleRow) (all : List PlaceVerdict) → w ∷ behind_first ahead ≡ ahead
    → pushed ≡ rows ++ (row_of w v ∷ []) → Begin nodes grown → (length grown < 2 ^ 32 → IsVerdictOf t grown w.place.0 w.verdict v) → TellAll t nodes rows ahead all → TellAll t grown pushed (behind_first ahead) all
rows_step t nodes grown ahead w v rows pushed all whole push begin is told later longer few more are =
    let fewer = begin_fewer grown later longer in
    let one : IsRowOf t later w (row_of w v) = record { place = refl; variable = refl; verdict = verdict_kept t grown later w.place.0 w.verdict v longer (is (omega (arith, few, fewer))); quiet = refl } in
    let both : AreRowsOf t later (w ∷ behind_first ahead) (row_of w v ∷ more) = (one, are) in
    let here = told later (begin_twice nodes grown later begin longer) few (row_of w v ∷ more) (subst (λ ws. AreRowsOf t later ws (row_of w v ∷ more)) whole both) in
    subst (λ l. AreRowsOf t later all l) (sym (ap (λ l. l ++ more) push ∙ append_assoc rows (row_of w v ∷ []) more)) here

-- where nothing is ahead, all is told
pub rows_end : (t : Telling) (nodes : List Node) (rows : List VisibleRow) (ahead all : List PlaceVerdict) → length ahead < 1 → TellAll t nodes rows ahead all → length nodes < 2 ^ 32 → AreRowsOf t nodes all rows
rows_end t nodes rows [] all none told few = subst (λ l. AreRowsOf t nodes all l) (append-nil rows) (told nodes (begin_itself nodes) few [] tt)
rows_end t nodes rows (w ∷ ahead) all none told few = absurd (omega (arith, none))
