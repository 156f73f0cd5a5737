-- The tests of a `switch` lead to the label of its value.
use Rattle.std.proofs.Common.{◌≡◌, ℕ, List, [], Option, Some, None, Bool, true, false, ◌||◌, refl, sym, ap, ◌∙◌, subst, ℤ}
use Rattle.std.specs.Prelude.{if◌then◌else◌}
use Rattle.debug_records.specs.declared.source.Spot.{Spot}
use Rattle.word_base.specs.Types.{holds}
use Rattle.c_tree.specs.declared.types.IntegerType.{IntegerType}
use Rattle.c_tree.specs.declared.object_type.ValueType.TheVariants.{Void, Integer, Pointer}
use Rattle.c_tree.specs.declared.typed_expression.Comparison.TheVariants.{Equal}
use Rattle.c_tree.specs.TypedExpressions.{RvalueTree}
use Rattle.c_tree.specs.TypedStatements.{TypedStatementTrees, none, first, case, default}
use Rattle.c_type_rules.specs.Integers.{integer, fits as number_fits}
use Rattle.c_type_laws.specs.Kind.{Kind, Wrong, NullPointer, Of}
use Rattle.c_type_laws.specs.Kinds.{is_promoted}
use Rattle.c_type_laws.specs.Expressions.{kind_of}
use Rattle.c_type_laws.specs.Statements.{tested_type}
use Rattle.c_meaning_values.specs.declared.value.Value as source-value
use Rattle.c_meaning_values.specs.declared.value.Value.TheVariants as source
use Rattle.c_meaning_values.specs.Memory.{Memory as SourceMemory}
use Rattle.c_meaning_steps.specs.States.{State, Outcome, on_value}
use Rattle.c_meaning.specs.Activations as activations
use Rattle.c_meaning.specs.Statements.{value_at, on_number, by_label, has_case, is_same_number, after_switch}
use Rattle.c_flow.specs.declared.edge.Ways.{Ways}
use Rattle.c_flow.specs.Flow.{start_of_all, within_switch}
use Rattle.graph_core.specs.declared.value.Value.TheVariants.{Number}
use Rattle.graph_core.specs.declared.block.Comparison.TheVariants as branch
use Rattle.graph_core.specs.Graphs.{Operand, Constant, Branch, Block}
use Rattle.graph_core.specs.Runs.{Configuration, Event, entered, branched, value, step}
use Rattle.graph_build_names.specs.Conversions.{unsigned_bits}
use Rattle.graph_build_layout.specs.declared.laid.Use.TheVariants.{Anywhere}
use Rattle.graph_build_layout.specs.Layout.{laid}
use Rattle.graph_build_steps.specs.Drafts.{Made, To, label_of}
use Rattle.graph_build_statements.specs.Coding.{begun, label_for, with_end, coded}
use Rattle.graph_build_statements.specs.Forms.{tests, default_start}
use Rattle.graph_build_runs.specs.Typed.{IsOf}
use Rattle.graph_build_runs.specs.Correspondence.{SameValue}
use Rattle.graph_build_runs.proofs.Leads.{names_in, Local, World, Leads, goes, stays, then_leads, in_block}
use Rattle.graph_build_runs.proofs.Kept.{Sound, Fits}
use Rattle.graph_build_runs.proofs.Typing.{HasKind}
use Rattle.graph_build_runs.proofs.Standing.{Stands, closed_inner, closed_block}
use Rattle.graph_build_runs.proofs.Compares.{branch_compares}
use Rattle.graph_build_runs.proofs.Growing.{grows}
use Rattle.graph_build_runs.proofs.Activities.{Activity, coding_in, here_in, place_at, placed, before_in}
use Rattle.graph_build_runs.proofs.Outcomes.{Comes, Runs, Holding, holding_since, GoesOn, switch_runs, comes_from_block}
use Rattle.graph_build_runs.proofs.Stops.{Lawful, place_begins}
use Rattle.graph_build_runs.proofs.AtPlaces.{Works, Begins, begun_above, going_comes, end_front, label_comes, value_runs}

-- where the label of a number leads, among statements that something follows
abbrev pub case_start : ℤ → TypedStatementTrees → (next : Option ℕ) → Option ℕ
case_start z none next = next
case_start z (first s rest) next = case_start z rest next
case_start z (case j rest) next = if is_same_number z j then start_of_all rest next else case_start z rest next
case_start z (default rest) next = case_start z rest next

-- the numbers of labels are of the type that is tested
abbrev pub AreLabels : IntegerType → TypedStatementTrees → Type 0
AreLabels t none = Unit {0}
AreLabels t (first s rest) = AreLabels t rest
AreLabels t (case j rest) = (number_fits t j ≡ true) × AreLabels t rest
AreLabels t (default rest) = AreLabels t rest

module _ (k : Activity) (at : ℕ) (a : Operand) where
  -- the inner blocks stand before those of the tests
  pub tests_front : (all : TypedStatementTrees) (next other : Option ℕ) (inner : List Block) → Stands k.setting.graph k.setting.top (tests (coding_in k) at a all next other inner).inner → Stands k.setting.graph k.setting.top inner
  tests_front none next (Some to) inner h = h
  tests_front none next None inner h = h
  tests_front (first s rest) next other inner h = tests_front rest next other inner h
  tests_front (case j rest) next other inner h =
      let ends = with_end (coding_in k) at (start_of_all rest next) inner in
      end_front k at (start_of_all rest next) inner
      (tests_front rest next other ends (closed_inner k.setting.graph k.setting.top (place_at k at) (tests (coding_in k) at a rest next other ends) h))
  tests_front (default rest) next other inner h = tests_front rest next other inner h

  module _ (t : IntegerType) (promoted : is_promoted t ≡ true) (z : ℤ) (is : holds (integer t) z ≡ true) (c : Configuration) (es : List Event) (l : Local) (u : World) (given : value k.setting.unit.statics l.names a ≡ Number (unsigned_bits z)) where
    -- The tests lead to the label of a number, or to where `default` leads.
    pub tests_lead : (number : ℕ) (all : TypedStatementTrees) (next other : Option ℕ) (inner : List Block) → AreLabels t all → Stands k.setting.graph k.setting.top (tests (coding_in k) at a all next other inner).inner
        → Leads k.setting.unit c es (before_in k (place_at k at) (tests (coding_in k) at a all next other inner).ops (tests (coding_in k) at a all next other inner).end (in_block number l) u) u.seen
        → Comes k c es (if has_case z all then case_start z all next else other) (place_at k at) l u
    tests_lead number none next other inner labels st leads = comes_from_block k c es other (place_at k at) l u number (going_comes k c es other inner (place_at k at) (in_block number l) u leads)
    tests_lead number (first s rest) next other inner labels st leads = tests_lead number rest next other inner labels st leads
    tests_lead number (default rest) next other inner labels st leads = tests_lead number rest next other inner labels st leads
    tests_lead number (case j rest) next other inner labels st leads =
        let to = start_of_all rest next in
        let ends = with_end (coding_in k) at to inner in
        let m = tests (coding_in k) at a rest next other ends in
        let inner_st = closed_inner k.setting.graph k.setting.top (place_at k at) m st in
        let end = Branch branch.Equal a (Constant (unsigned_bits j)) (label_for (coding_in k) to inner) (label_of k.setting.top m) in
        let compares = branch_compares t promoted z j is labels.0 (placed k (place_at k at) []) Equal a (Constant (unsigned_bits j)) (label_for (coding_in k) to inner) (label_of k.setting.top m) (in_block number l) u given refl in
        by (is_same_number z j) compares (λ leads2. tests_lead (label_of k.setting.top m) rest next other ends labels.1 inner_st leads2) inner_st
      where
        by : (same : Bool) → step k.setting.unit (before_in k (place_at k at) [] (Branch branch.Equal a (Constant (unsigned_bits j)) (label_for (coding_in k) (start_of_all rest next) inner) (label_of k.setting.top (tests (coding_in k) at a rest next other (with_end (coding_in k) at (start_of_all rest next) inner)))) (in_block number l) u)
            ≡ branched (before_in k (place_at k at) [] (Branch branch.Equal a (Constant (unsigned_bits j)) (label_for (coding_in k) (start_of_all rest next) inner) (label_of k.setting.top (tests (coding_in k) at a rest next other (with_end (coding_in k) at (start_of_all rest next) inner)))) (in_block number l) u) (Some same)
            (label_for (coding_in k) (start_of_all rest next) inner) (label_of k.setting.top (tests (coding_in k) at a rest next other (with_end (coding_in k) at (start_of_all rest next) inner)))
            → (Leads k.setting.unit c es (before_in k (place_at k at) (tests (coding_in k) at a rest next other (with_end (coding_in k) at (start_of_all rest next) inner)).ops (tests (coding_in k) at a rest next other (with_end (coding_in k) at (start_of_all rest next) inner)).end
            (in_block (label_of k.setting.top (tests (coding_in k) at a rest next other (with_end (coding_in k) at (start_of_all rest next) inner))) l) u) u.seen
            → Comes k c es (if has_case z rest then case_start z rest next else other) (place_at k at) l u)
            → Stands k.setting.graph k.setting.top (tests (coding_in k) at a rest next other (with_end (coding_in k) at (start_of_all rest next) inner)).inner
            → Comes k c es (if same || has_case z rest then (if same then start_of_all rest next else case_start z rest next) else other) (place_at k at) l u
        by true goes_by later inner_st =
            let ends = with_end (coding_in k) at (start_of_all rest next) inner in
            let m = tests (coding_in k) at a rest next other ends in
            let end = Branch branch.Equal a (Constant (unsigned_bits j)) (label_for (coding_in k) (start_of_all rest next) inner) (label_of k.setting.top m) in
            label_comes k c es at (start_of_all rest next) inner (place_at k at) l u (tests_front rest next other ends inner_st)
            (λ b is_b. then_leads leads (goes (goes_by ∙ ap (entered (before_in k (place_at k at) [] end (in_block number l) u) (label_for (coding_in k) (start_of_all rest next) inner)) is_b) stays))
        by false goes_by later inner_st =
            let ends = with_end (coding_in k) at (start_of_all rest next) inner in
            let m = tests (coding_in k) at a rest next other ends in
            let end = Branch branch.Equal a (Constant (unsigned_bits j)) (label_for (coding_in k) (start_of_all rest next) inner) (label_of k.setting.top m) in
            later (then_leads leads (goes (goes_by ∙ ap (entered (before_in k (place_at k at) [] end (in_block number l) u) (label_of k.setting.top m)) (closed_block k.setting.graph k.setting.top (place_at k at) m st)) stays))

-- what has a promoted integer type is a number of it
pub number_tested : (kind : Kind) (t : IntegerType) → tested_type kind ≡ Some t → (memory : SourceMemory) (v : source-value.Value) → HasKind memory kind v → (is_promoted t ≡ true) × ((z : ℤ) × (v ≡ source.Number z) × (holds (integer t) z ≡ true))
number_tested Wrong t e memory v h = cc
number_tested NullPointer t e memory v h = cc
number_tested (Of Void) t e memory v h = cc
number_tested (Of (Pointer of)) t e memory v h = cc
number_tested (Of (Integer i)) t e memory v h = by (is_promoted i) refl e v h
  where
    by : (b : Bool) → is_promoted i ≡ b → (if b then Some i else None) ≡ Some t → (v : source-value.Value) → IsOf memory (Integer i) v → (is_promoted t ≡ true) × ((z : ℤ) × (v ≡ source.Number z) × (holds (integer t) z ≡ true))
    by false p e v h = cc
    by true p e (source.Number z) h = let same : i ≡ t = cc in (ap is_promoted (sym same) ∙ p, (z, refl, subst (λ q. holds (integer q) z ≡ true) same h))
    by true p e source.Null h = absurd h
    by true p e (source.Pointer n offset) h = absurd h

-- A `switch`, by what its statements do from each of its labels on.
module _ (k : Activity) (law : Lawful k) (scope : List ℕ) (low : ℕ) (w : Ways) (spot : Spot) (e : RvalueTree) (all : TypedStatementTrees) (t : IntegerType) (tested : tested_type (kind_of k.setting.program k.setting.tree e) ≡ Some t) (labels : AreLabels t all) (works : Works k (place_at k spot.at) e)
    (b : Begins k scope spot.at (λ free i. coded (coding_in k) spot.at e free (To None (tests (coding_in k) spot.at (laid (names_in k.setting) e Anywhere (begun (coding_in k) free)).value all w.next (default_start all w.next) i)))) (case_go : ℤ → State → Outcome) (default_go : State → Outcome)
    (case_does : (z : ℤ) → GoesOn k low low [] (within_switch w) scope (case_start z all w.next) (case_go z)) (default_does : GoesOn k low low [] (within_switch w) scope (default_start all w.next) default_go) where
  abbrev free : ℕ
  free = begun (coding_in k) b.free

  abbrev tested_in : Operand
  tested_in = (laid (names_in k.setting) e Anywhere free).value

  abbrev made : Made
  made = tests (coding_in k) spot.at tested_in all w.next (default_start all w.next) b.inner

  abbrev go_by : source-value.Value → State → Outcome
  go_by v u = on_number v u (λ z x. after_switch (by_label (has_case z all) (case_go z) default_go x))

  stands : Stands k.setting.graph k.setting.top made.inner
  stands = grows (names_in k.setting) (place_at k spot.at) k.setting.top k.setting.graph e free (To None made) b.stands

  labelled_runs : (z : ℤ) (c : Configuration) (es : List Event) (l : Local) (u : World) (s : State) (labelled : Bool) → Comes k c es (if labelled then case_start z all w.next else default_start all w.next) (place_at k spot.at) l u → Sound k.setting.program s.memory s → Fits k.setting None s l u
      → Holding k scope low s.memory → Runs k c es low low [] s.memory (within_switch w) (by_label labelled (case_go z) default_go s)
  labelled_runs z c es l u s true comes sound fits h = case_does z c es (place_at k spot.at) l u s comes sound fits h
  labelled_runs z c es l u s false comes sound fits h = default_does c es (place_at k spot.at) l u s comes sound fits h

  pub switch_goes : GoesOn k low low [] w scope (Some spot.at) (λ s. activations.at (here_in k) spot s (λ x. on_value (value_at k.calls (here_in k) spot e x) go_by))
  switch_goes =
      place_begins k law scope spot (coded (coding_in k) spot.at e b.free (To None made)) b.block b.here low low [] w (λ s. on_value (value_at k.calls (here_in k) spot e s) go_by)
      (λ c es l u s leads sound fits h ready.
      value_runs k spot.at e works c es l u s sound fits ready free (begun_above k b.free b.size) low low [] w None made go_by b.stands tt leads
      (λ v s2 l2 u2 leads2 sound2 fits2 since same kind.
      (let n = number_tested (kind_of k.setting.program k.setting.tree e) t tested s2.memory v kind in
      let is : v ≡ source.Number n.1.0 = n.1.1 in
      let given : value k.setting.unit.statics l2.names tested_in ≡ Number (unsigned_bits n.1.0) = subst (λ q. SameValue k.setting.program s2.memory u2.memory q (value k.setting.unit.statics l2.names tested_in)) is same in
      let to = tests_lead k spot.at tested_in t n.0 n.1.0 n.1.2 c es l2 u2 given l2.block all w.next (default_start all w.next) b.inner labels stands leads2 in
      subst (λ q. Runs k c es low low [] s2.memory w (go_by q s2)) (sym is)
      (switch_runs k c es low s2.memory w (by_label (has_case n.1.0 all) (case_go n.1.0) default_go s2)
      (labelled_runs n.1.0 c es l2 u2 s2 (has_case n.1.0 all) to sound2 fits2 (holding_since k scope low s.memory s2.memory h since))))))
