use Rattle.std.proofs.Common.{◌≡◌, ◌+◌, ◌<◌, ◌^◌, List, ap, arith, length, map, refl, rules, subst, sym, ◌∙◌}
use Rattle.std.specs.List.{AllByRecursion}
use Rattle.std.proofs.lemmas.List.{length-map}
use Rattle.debug_records.specs.declared.change.Kind.TheVariants.{Removed}
use Rattle.debug_records.specs.declared.change.Change.{Change}
use Rattle.debug_records.specs.Change.{changes}
use Rattle.graph_core.specs.Graphs.{Graph, Logged, UnitForm, graph_view, logged, unit_view}
use Rattle.graph_core.specs.Validity.{IsGraph}
use Rattle.pass_law.specs.declared.cases.Case.{Case}
use Rattle.pass_law.specs.Kept.{EachFunction}
use Rattle.pass_law.specs.Changes.{AreCasesOf}
use Rattle.pass_law.proofs.Log.{changes_added, changes_of_cases}
use Rattle.dead_pass_rule.specs.Free.{AreNamed}
use Rattle.dead_pass_rule.specs.Removing.{IsReduced}
use Rattle.dead_pass_notes.specs.declared.idle_graph.IdleGraph.{IdleGraph}
use Rattle.dead_pass_notes.specs.Idle.{IsOf, graph_of}
use Rattle.dead_pass_notes.specs.Said.{SaysWhatItShall}
use Rattle.dead_pass_writes.specs.RemovedChangesTelling.{AreToldOf}
use Rattle.dead_pass_notes.specs.Writes.{IsRemovedWrite}
use Rattle.dead_pass_notes.proofs.FewWrites.{few_cases}
use Rattle.dead_pass_notes.proofs.OfUnits.{cases_before, each_count}
use Rattle.dead_pass_notes.proofs.Valid.{removed_valid}
use Rattle.dead_pass.proofs.Bounded.{all_named, cases_of, few_blocks, few_rooms, log_grown, made_of}
use Rattle.dead_pass.proofs.ByRule.{each_keeps, each_left}
use Rattle.dead_pass.proofs.pass.remove_dead.Goals as goal

pub idle_graphs-requires-clause-few : goal.idle_graphs-requires-clause-few
idle_graphs-requires-clause-few c =
    let u = unit_view c.args.unit.now in
    subst (λ gs. AllByRecursion (λ (g : Graph). length g.blocks + 2 < 2 ^ 32) (map graph_view gs)) (sym c.deref.ensures.value) (few_blocks u.graphs _ c.requires.valid.blocks (few_rooms u.room).0)

pub idle_graphs-requires-clause-named : goal.idle_graphs-requires-clause-named
idle_graphs-requires-clause-named c =
    let u = unit_view c.args.unit.now in
    subst (λ gs. AllByRecursion (λ (g : Graph). AreNamed g.blocks g.name_count) (map graph_view gs)) (sym c.deref.ensures.value) (all_named u u.graphs c.requires.valid.graphs)

pub log_cases-requires-clause-few : goal.log_cases-requires-clause-few
log_cases-requires-clause-few c =
    let u = unit_view c.args.unit.now in
    let was : map graph_of c.in_ok-idle.idle.items ≡ u.graphs = c.in_ok-idle.ensures.graphs ∙ ap (λ gs. map graph_view gs) c.deref.ensures.value in
    let are : AreCasesOf (λ g h. IsRemovedWrite u.assignments g) u.graphs u.graphs c.in_ok-cases.cases.items =
    cases_of u.assignments u.graphs c.in_ok-idle.idle.items _ _ c.deref-2.ensures.value was c.in_ok-idle.ensures.assignments c.in_ok-cases.ensures in
    let most = few_cases u.assignments u.graphs u.graphs c.in_ok-cases.cases.items are in
    let room = (few_rooms u.room).1 in
    let valid = c.requires.valid.instructions in
    let same = ap (λ (l : List Case). length l) c.deref_mut.ensures.value in
    omega (arith, most, room, valid, same)

pub new-requires : goal.new-requires
new-requires c =
    let u = unit_view c.args.unit.now in
    let was : map graph_of c.in_ok-idle.idle.items ≡ u.graphs = c.in_ok-idle.ensures.graphs ∙ ap (λ gs. map graph_view gs) c.deref.ensures.value in
    let are : AreCasesOf (λ g h. IsRemovedWrite u.assignments g) u.graphs u.graphs c.in_ok-cases.cases.items =
    cases_of u.assignments u.graphs c.in_ok-idle.idle.items _ _ c.deref-2.ensures.value was c.in_ok-idle.ensures.assignments c.in_ok-cases.ensures in
    let most = few_cases u.assignments u.graphs u.graphs c.in_ok-cases.cases.items are in
    let room = (few_rooms u.room).1 in
    let valid = c.requires.valid.instructions in
    let same = ap (λ (l : List Case). length l) c.deref_mut.ensures.value in
    let grown = log_grown c.dead_name.result Removed _ (changes c.in_ok-left.left.log) _ _ _ c.in_ok-log_cases.ensures.logged c.in_ok-log_cases.ensures.same in
    let old : length (changes c.in_ok-left.left.log) ≡ length u.log = sym (length-map (changes c.in_ok-left.left.log) logged) ∙ ap (λ (w : UnitForm). length w.log) c.in_ok-left.ensures in
    let read = ap (λ (l : List Change). length l) c.changes.ensures in
    record { few = omega (arith, most, room, valid, same, grown, old, read, c.requires.room) }

pub returns-clause-log : goal.returns-clause-log
returns-clause-log c =
    changes_added c.dead_name.result _ Removed c.in_ok-left.left _ _ _ _ _ refl c.in_ok-log_cases.ensures.logged c.in_ok-left.ensures c.dead_name.ensures

pub returns-clause-exact : goal.returns-clause-exact
returns-clause-exact c =
    let u = unit_view c.args.unit.now in
    let was : map graph_of c.in_ok-idle.idle.items ≡ u.graphs = c.in_ok-idle.ensures.graphs ∙ ap (λ gs. map graph_view gs) c.deref.ensures.value in
    let of : AllByRecursion (IsOf u.assignments) c.deref-3.result.now = subst (λ (xs : List IdleGraph). AllByRecursion (IsOf u.assignments) xs) (sym c.deref-3.ensures.value) c.in_ok-idle.ensures.assignments in
    made_of (IsReduced u.assignments) u.graphs (map graph_view c.in_ok-graphs.graphs.items) c.in_ok-idle.idle.items _ c.deref-3.ensures.value was (c.in_ok-graphs.ensures.left u.assignments of)

pub returns-clause-changes : goal.returns-clause-changes
returns-clause-changes c =
    let u = unit_view c.args.unit.now in
    let after = map graph_view c.in_ok-graphs.graphs.items in
    let left : EachFunction (IsReduced u.assignments) u.graphs after = returns-clause-exact c in
    let was : map graph_of c.in_ok-idle.idle.items ≡ u.graphs = c.in_ok-idle.ensures.graphs ∙ ap (λ gs. map graph_view gs) c.deref.ensures.value in
    let are : AreCasesOf (λ g h. IsRemovedWrite u.assignments g) u.graphs u.graphs c.in_ok-cases.cases.items =
    cases_of u.assignments u.graphs c.in_ok-idle.idle.items _ _ c.deref-2.ensures.value was c.in_ok-idle.ensures.assignments c.in_ok-cases.ensures in
    changes_of_cases c.dead_name.result _ Removed (λ g h. IsRemovedWrite u.assignments g) c.in_ok-left.left _ _ _ _ _ _ refl c.in_ok-log_cases.ensures.logged c.in_ok-left.ensures c.dead_name.ensures
    (subst (AreCasesOf (λ g h. IsRemovedWrite u.assignments g) u.graphs after) (sym c.deref_mut.ensures.value) (cases_before (IsRemovedWrite u.assignments) u.graphs after (each_count (IsReduced u.assignments) u.graphs after left) _ are))
    c.in_ok-log_cases.ensures.same c.in_ok-log_cases.ensures.in_order

pub returns-clause-functions : goal.returns-clause-functions
returns-clause-functions c =
    let u = unit_view c.args.unit.now in
    each_keeps u.assignments u.graphs (map graph_view c.in_ok-graphs.graphs.items) (returns-clause-exact c)

pub returns-clause-left : goal.returns-clause-left
returns-clause-left c =
    let u = unit_view c.args.unit.now in
    each_left u.assignments u.graphs (map graph_view c.in_ok-graphs.graphs.items) (returns-clause-exact c)

pub returns-clause-notes : goal.returns-clause-notes
returns-clause-notes c =
    let u = unit_view c.args.unit.now in
    let after = map graph_view c.in_ok-graphs.graphs.items in
    let log = map logged c.changes.result.now in
    let told : AreToldOf log c.in_ok-removed.removed = c.in_ok-removed.ensures in
    let before : map graph_of c.in_ok-idle.idle.items ≡ u.graphs = c.in_ok-idle.ensures.graphs ∙ ap (λ gs. map graph_view gs) c.deref.ensures.value in
    let valid = subst (λ (xs : List IdleGraph). AllByRecursion (IsGraph u) (map graph_of xs)) (sym c.deref-3.ensures.value) (subst (λ gs. AllByRecursion (IsGraph u) gs) (sym before) c.requires.valid.graphs) in
    let of : AllByRecursion (IsOf u.assignments) c.deref-3.result.now = subst (λ (xs : List IdleGraph). AllByRecursion (IsOf u.assignments) xs) (sym c.deref-3.ensures.value) c.in_ok-idle.ensures.assignments in
    let said = c.in_ok-graphs.ensures.notes log u told valid u.assignments of in
    subst (λ (cs : List Change). EachFunction (SaysWhatItShall u.assignments (map logged cs)) u.graphs after) c.changes.ensures
    (made_of (SaysWhatItShall u.assignments log) u.graphs after c.in_ok-idle.idle.items _ c.deref-3.ensures.value before said)

pub returns-clause-valid : goal.returns-clause-valid
returns-clause-valid c = removed_valid _ _ c.requires.valid (search rules) _ (returns-clause-changes c) (returns-clause-exact c) (returns-clause-notes c)
