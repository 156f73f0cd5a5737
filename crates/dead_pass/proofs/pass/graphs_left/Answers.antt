use Rattle.std.proofs.Common.{List, ap, map, subst, sym, ◌∙◌}
use Rattle.std.proofs.lemmas.List.{map-append}
use Rattle.graph_core.specs.declared.graph.Graph as declared-graph
use Rattle.graph_core.specs.Graphs.{Logged, UnitForm, graph_view}
use Rattle.graph_core.specs.Validity.{IsGraph}
use Rattle.pass_law.proofs.Functions.{Left, left_first, functions_step, functions_done}
use Rattle.dead_pass_rule.specs.Removing.{IsReduced}
use Rattle.dead_pass_notes.specs.Idle.{IsBorneOut, IsOf, assignments_of, graph_of}
use Rattle.dead_pass_notes.specs.Said.{SaysWhatItShall}
use Rattle.dead_pass_writes.specs.RemovedChangesTelling.{AreToldOf}
use Rattle.dead_pass.proofs.Leaving.{all_behind, all_unmapped, first_of_all}
use Rattle.dead_pass.proofs.pass.graphs_left.Goals as goal

pub loop-ahead-init : goal.loop-ahead-init
loop-ahead-init c =
    let before = map graph_of c.args.idle.now in
    record {
      left = λ assignments of. (of, subst (λ (hs : List declared-graph.Graph). Left (IsReduced assignments) before (map graph_view hs) before) (sym c.new-left.ensures.items) (left_first (IsReduced assignments) before));
      borne_out = c.requires;
      notes = λ log u told valid assignments of. (
        all_unmapped (IsGraph u) graph_of c.args.idle.now valid,
        subst (λ (hs : List declared-graph.Graph). Left (SaysWhatItShall assignments log) before (map graph_view hs) before) (sym c.new-left.ensures.items) (left_first (SaysWhatItShall assignments log) before),
      );
    }

pub graph_left-requires : goal.graph_left-requires
graph_left-requires c = first_of_all IsBorneOut _ c.graph-item.result c.in-len1-up.len_at_least c.graph-item.is c.loop-ahead.invariant.borne_out

pub loop-ahead-preserved : goal.loop-ahead-preserved
loop-ahead-preserved c =
    let one = c.graph-item.result in
    let left : IsReduced (assignments_of one) (graph_of one) (graph_view c.in_ok-next.next) = c.in_ok-next.ensures.left in
    let says : (log : List Logged) (u : UnitForm) → AreToldOf log c.args.removed.now → IsGraph u (graph_of one) → SaysWhatItShall (assignments_of one) log (graph_of one) (graph_view c.in_ok-next.next) = c.in_ok-next.ensures.notes in
    let grown = ap (λ xs. map graph_view xs) c.in_ok-push.ensures.items ∙ map-append graph_view _ _ in
    record {
      left = λ assignments of.
          (let so_far = c.loop-ahead.invariant.left assignments of in
          let its : IsOf assignments one = first_of_all (IsOf assignments) _ one c.in-len1-up.len_at_least c.graph-item.is so_far.0 in (
            all_behind (IsOf assignments) _ c.in-len1-up.len_at_least so_far.0,
            functions_step (IsReduced assignments) graph_of _ _ one _ _ _ (graph_view c.in_ok-next.next) c.in-len1-up.len_at_least c.graph-item.is grown (subst (λ l. IsReduced l (graph_of one) (graph_view c.in_ok-next.next)) its left) so_far.1,
          ));
      borne_out = all_behind IsBorneOut _ c.in-len1-up.len_at_least c.loop-ahead.invariant.borne_out;
      notes = λ log u told valid assignments of.
          (let so_far = c.loop-ahead.invariant.notes log u told valid assignments of in
          let its : IsOf assignments one = first_of_all (IsOf assignments) _ one c.in-len1-up.len_at_least c.graph-item.is (c.loop-ahead.invariant.left assignments of).0 in
          let graph = first_of_all (λ idle. IsGraph u (graph_of idle)) _ one c.in-len1-up.len_at_least c.graph-item.is so_far.0 in (
            all_behind (λ idle. IsGraph u (graph_of idle)) _ c.in-len1-up.len_at_least so_far.0,
            functions_step (SaysWhatItShall assignments log) graph_of _ _ one _ _ _ (graph_view c.in_ok-next.next) c.in-len1-up.len_at_least c.graph-item.is grown (subst (λ l. SaysWhatItShall l log (graph_of one) (graph_view c.in_ok-next.next)) its (says log u told graph)) so_far.1,
          ));
    }

pub returns-clause-notes : goal.returns-clause-notes
returns-clause-notes c = λ log u told valid assignments of. functions_done (SaysWhatItShall assignments log) graph_of _ _ _ c.in_default.len_below (c.loop-ahead.invariant.notes log u told valid assignments of).1

pub returns-clause-left : goal.returns-clause-left
returns-clause-left c = λ assignments of. functions_done (IsReduced assignments) graph_of _ _ _ c.in_default.len_below (c.loop-ahead.invariant.left assignments of).1
