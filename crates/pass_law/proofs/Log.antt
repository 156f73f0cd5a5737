-- The log behind a pass.
use Rattle.std.proofs.Common.{◌≡◌, ◌∙◌, ◌+◌, ◌++◌, ℕ, List, [], ◌∷◌, refl, ap, subst, map}
use Rattle.std.proofs.lemmas.List.{map-append}
use Rattle.std.specs.List.{AllByRecursion}
use Rattle.std.specs.List.Sorted.{IsPermutation}
use Rattle.debug_records.specs.declared.change.Change.{Change}
use Rattle.debug_records.specs.declared.change.PassName.{PassName}
use Rattle.debug_records.specs.declared.change.Kind.{Kind}
use Rattle.debug_records.specs.Change.{changes}
use Rattle.graph_core.specs.declared.unit.Unit as declared-unit
use Rattle.graph_core.specs.Graphs.{Graph, UnitForm, logged, unit_view}
use Rattle.pass_law.specs.declared.cases.Case.{Case}
use Rattle.pass_law.specs.Cases as cases
use Rattle.pass_law.specs.Changes.{AddsChangesOf, AreCasesOf, AreInOrder, logged_as}
use Rattle.pass_law.specs.Kept.{AddsChanges, IsChangeOf}
use Rattle.pass_law.proofs.InOrder.{cases_permuted}

all_changes : (pass : PassName) (kind : Kind) (n : ℕ) (all : List Case) → AllByRecursion (IsChangeOf pass kind) (map logged (cases.logged pass kind n all))
all_changes pass kind n [] = tt
all_changes pass kind n (c ∷ more) = (record { by = refl; is = refl }, all_changes pass kind (n + 1) more)

-- the changes of cases behind the old ones
pub changes_added : (pass name : PassName) (kind : Kind) (m : declared-unit.Unit) (u v : UnitForm) (new : List Change) (n : ℕ) (all : List Case) → v.log ≡ map logged new → new ≡ changes m.log ++ cases.logged pass kind n all → unit_view m ≡ u → pass ≡ name
    → AddsChanges name kind u v
changes_added pass name kind m u v new n all is appended was named =
    let P : PassName → Type 0 = λ p. AddsChanges p kind u v in
    subst P named (record {
      added = map logged (cases.logged pass kind n all);
      log = is ∙ ap (λ xs. map logged xs) appended ∙ map-append logged (changes m.log) (cases.logged pass kind n all) ∙ ap (λ (w : UnitForm). w.log ++ map logged (cases.logged pass kind n all)) was;
      changes = all_changes pass kind n all;
    })

logged_all : (pass : PassName) (kind : Kind) (n : ℕ) (all : List Case) → map logged (cases.logged pass kind n all) ≡ map (logged_as pass kind) all
logged_all pass kind n [] = refl
logged_all pass kind n (c ∷ more) = ap (λ xs. logged_as pass kind c ∷ xs) (logged_all pass kind (n + 1) more)

-- the changes of all cases of functions, put in order, behind the old ones
pub changes_of_cases : (pass name : PassName) (kind : Kind) (IsCase : (before after : Graph) → Case → Type 0) (m : declared-unit.Unit) (u v : UnitForm) (new : List Change) (n : ℕ) (old all : List Case) → v.log ≡ map logged new
    → new ≡ changes m.log ++ cases.logged pass kind n all → unit_view m ≡ u → pass ≡ name → AreCasesOf IsCase u.graphs v.graphs old → IsPermutation old all → AreInOrder all → AddsChangesOf name kind IsCase u v
changes_of_cases pass name kind IsCase m u v new n old all is appended was named are moved in_order =
    let P : PassName → Type 0 = λ p. AddsChangesOf p kind IsCase u v in
    subst P named (record {
      cases = all;
      all = cases_permuted IsCase u.graphs v.graphs old all moved are;
      in_order = in_order;
      log = is ∙ ap (λ xs. map logged xs) appended ∙ map-append logged (changes m.log) (cases.logged pass kind n all) ∙ ap (λ (w : UnitForm). w.log ++ map logged (cases.logged pass kind n all)) was
          ∙ ap (λ xs. u.log ++ xs) (logged_all pass kind n all);
    })
