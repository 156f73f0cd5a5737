use Rattle.std.proofs.Common.{List, ◌<◌, ◌^◌, length, map, refl, rules, subst, sym}
use Rattle.std.specs.List.{AllByRecursion}
use Rattle.debug_records.specs.declared.change.Kind.TheVariants.{Replaced}
use Rattle.graph_core.specs.declared.graph.Graph as declared-graph
use Rattle.graph_core.specs.Graphs.{graph_view, unit_view}
use Rattle.pass_law.specs.Changes.{AreCasesOf}
use Rattle.pass_law.specs.declared.cases.Case.{Case}
use Rattle.pass_law.specs.Kept.{EachFunction}
use Rattle.pass_law.proofs.Log.{changes_added, changes_of_cases}
use Rattle.copy_pass_rule.specs.Copying.{IsPropagated}
use Rattle.copy_pass_rule.specs.Countable.{IsCountable}
use Rattle.copy_pass_rule.proofs.Valid.{propagated_valid}
use Rattle.copy_pass.specs.Reads.{IsReplacedRead}
use Rattle.copy_pass.proofs.Countable.{each_countable}
use Rattle.copy_pass.proofs.Keeping.{each_keeps}
use Rattle.copy_pass.proofs.LogsWell.{few_cases}
use Rattle.copy_pass.proofs.propagation.propagate_copies.Goals as goal

pub graphs_after-requires : goal.graphs_after-requires
graphs_after-requires c = record {
  countable = subst (λ (gs : List declared-graph.Graph). AllByRecursion IsCountable (map graph_view gs)) (sym c.deref.ensures.value)
      (each_countable (unit_view c.args.unit.now) c.requires.valid);
}

pub log_cases-requires-clause-few : goal.log_cases-requires-clause-few
log_cases-requires-clause-few c =
    let before = map graph_view c.args.unit.now.graphs.items in
    let after = map graph_view c.in_ok-graphs.graphs.items in
    let are = subst (λ ys. AreCasesOf IsReplacedRead before (map graph_view ys) c.in_ok-cases.cases.items) c.deref-3.ensures.value
    (subst (λ xs. AreCasesOf IsReplacedRead (map graph_view xs) (map graph_view c.deref-3.result.now) c.in_ok-cases.cases.items)
    c.deref-2.ensures.value c.in_ok-cases.ensures) in
    subst (λ (cases : List Case). length cases < 2 ^ 31) (sym c.deref_mut.ensures.value)
    (few_cases (unit_view c.args.unit.now) after c.requires.valid c.in_ok-cases.cases.items are)

pub returns-clause-log : goal.returns-clause-log
returns-clause-log c =
    changes_added c.copy_name.result _ Replaced c.in_ok-made.made _ _ _ _ _ refl c.in_ok-log_cases.ensures.logged c.in_ok-made.ensures
    c.copy_name.ensures

pub returns-clause-changes : goal.returns-clause-changes
returns-clause-changes c =
    let before = map graph_view c.args.unit.now.graphs.items in
    let after = map graph_view c.in_ok-graphs.graphs.items in
    let are = subst (λ ys. AreCasesOf IsReplacedRead before (map graph_view ys) c.in_ok-cases.cases.items) c.deref-3.ensures.value
    (subst (λ xs. AreCasesOf IsReplacedRead (map graph_view xs) (map graph_view c.deref-3.result.now) c.in_ok-cases.cases.items)
    c.deref-2.ensures.value c.in_ok-cases.ensures) in
    changes_of_cases c.copy_name.result _ Replaced IsReplacedRead c.in_ok-made.made _ _ _ _ _ _ refl c.in_ok-log_cases.ensures.logged
    c.in_ok-made.ensures c.copy_name.ensures (subst (AreCasesOf IsReplacedRead before after) (sym c.deref_mut.ensures.value) are)
    c.in_ok-log_cases.ensures.same c.in_ok-log_cases.ensures.in_order

pub returns-clause-functions : goal.returns-clause-functions
returns-clause-functions c =
    each_keeps (map graph_view c.args.unit.now.graphs.items) (map graph_view c.in_ok-graphs.graphs.items)
    (subst (λ xs. EachFunction IsPropagated (map graph_view xs) (map graph_view c.in_ok-graphs.graphs.items)) c.deref.ensures.value
    c.in_ok-graphs.ensures)

pub returns-clause-valid : goal.returns-clause-valid
returns-clause-valid c =
    let adds = returns-clause-log c in
    propagated_valid _ _ adds.added c.requires.valid (search rules) (search rules) adds.log
