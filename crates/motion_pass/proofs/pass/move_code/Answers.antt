use Rattle.std.proofs.Common.{List, ap, arith, length, map, refl, rules, subst, sym}
use Rattle.debug_records.specs.declared.change.Kind.TheVariants.{Moved}
use Rattle.graph_core.specs.declared.graph.Graph as declared-graph
use Rattle.graph_core.specs.Graphs.{UnitForm, graph_view, unit_view}
use Rattle.pass_law.specs.declared.cases.Case.{Case}
use Rattle.pass_law.specs.Changes.{AreCasesOf}
use Rattle.pass_law.proofs.Log.{changes_added, changes_of_cases}
use Rattle.motion_pass_placement.specs.Moves.{AreAllMoved, IsMovedAssignment}
use Rattle.motion_pass.proofs.FewMoved.{few_cases}
use Rattle.motion_pass.proofs.Valid.{moved_valid}
use Rattle.motion_pass.specs.Amounts.{AreBounded}
use Rattle.motion_pass.proofs.Functions.{bounded, each_keeps}
use Rattle.motion_pass.proofs.pass.move_code.Goals as goal

pub move_graphs-requires-clause-bounded : goal.move_graphs-requires-clause-bounded
move_graphs-requires-clause-bounded c = subst (λ (gs : List declared-graph.Graph). AreBounded (map graph_view gs)) (sym c.deref.ensures.value) (bounded (unit_view c.args.unit.now) c.requires.valid)

pub log_cases-requires-clause-few : goal.log_cases-requires-clause-few
log_cases-requires-clause-few c =
    let us = map graph_view c.args.unit.now.graphs.items in
    let vs = map graph_view c.in_ok-graphs.graphs.items in
    let are : AreCasesOf IsMovedAssignment us vs c.move_graphs.new.cases.items = search rules in
    let few = few_cases us vs (bounded (unit_view c.args.unit.now) c.requires.valid) c.move_graphs.new.cases.items are in
    let same = ap (λ (all : List Case). length all) c.deref_mut.ensures.value in
    omega (arith, few, same)

pub returns-clause-log : goal.returns-clause-log
returns-clause-log c =
    changes_added c.motion_name.result _ Moved c.in_ok-moved.moved _ _ _ _ _ refl (c.in_ok-log_cases.ensures.logged) c.in_ok-moved.ensures c.motion_name.ensures

pub returns-clause-changes : goal.returns-clause-changes
returns-clause-changes c =
    let before = map graph_view c.args.unit.now.graphs.items in
    let after = map graph_view c.in_ok-graphs.graphs.items in
    let are : AreCasesOf IsMovedAssignment before after c.move_graphs.new.cases.items = search rules in
    changes_of_cases c.motion_name.result _ Moved IsMovedAssignment c.in_ok-moved.moved _ _ _ _ _ _ refl (c.in_ok-log_cases.ensures.logged) c.in_ok-moved.ensures c.motion_name.ensures
    (subst (AreCasesOf IsMovedAssignment before after) (sym c.deref_mut.ensures.value) are)
    (c.in_ok-log_cases.ensures.same) (c.in_ok-log_cases.ensures.in_order)

pub returns-clause-functions : goal.returns-clause-functions
returns-clause-functions c =
    let moved : AreAllMoved c.args.unit.now.room (map graph_view c.args.unit.now.graphs.items) (map graph_view c.in_ok-graphs.graphs.items) = search rules in
    each_keeps moved

pub returns-clause-valid : goal.returns-clause-valid
returns-clause-valid c =
    let same = c.in_ok-moved.ensures in
    let log = returns-clause-log c in
    let moved : AreAllMoved c.args.unit.now.room (map graph_view c.args.unit.now.graphs.items) (map graph_view c.in_ok-graphs.graphs.items) = search rules in
    moved_valid (unit_view c.args.unit.now) _ log.added c.requires.valid (record {
      main = ap (λ (w : UnitForm). w.main) same;
      statics = ap (λ (w : UnitForm). w.statics) same;
      array_bytes = ap (λ (w : UnitForm). w.array_bytes) same;
      steps = ap (λ (w : UnitForm). w.steps) same;
      assignments = ap (λ (w : UnitForm). w.assignments) same;
      room = ap (λ (w : UnitForm). w.room) same;
    }) moved log.log
