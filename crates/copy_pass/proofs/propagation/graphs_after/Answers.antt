use Rattle.std.proofs.Common.{ap, map, subst, sym, ◌∙◌}
use Rattle.std.proofs.lemmas.List.{map-append}
use Rattle.graph_core.specs.Graphs.{graph_view}
use Rattle.pass_law.proofs.Functions.{Left, functions_step, functions_done, left_first}
use Rattle.copy_pass_rule.specs.Copying.{IsPropagated}
use Rattle.copy_pass_rule.specs.Countable.{IsCountable}
use Rattle.copy_pass.proofs.Countable.{so_of_first, so_of_rest}
use Rattle.copy_pass.proofs.propagation.graphs_after.Goals as goal

pub graph_after-requires : goal.graph_after-requires
graph_after-requires c = record {
  countable = so_of_first graph_view IsCountable _ c.graph-item.result _ c.in-len1-up.len_at_least c.graph-item.is
      c.loop-left.invariant.countable;
}

pub loop-left-init : goal.loop-left-init
loop-left-init c = record {
  countable = c.requires.countable;
  made = subst (λ out. Left IsPropagated (map graph_view c.args.graphs.now) (map graph_view out) (map graph_view c.args.graphs.now))
      (sym c.new-made.ensures.items)
      (left_first IsPropagated (map graph_view c.args.graphs.now));
}

pub loop-left-preserved : goal.loop-left-preserved
loop-left-preserved c = record {
  countable = so_of_rest graph_view IsCountable _ c.in-len1-up.len_at_least c.loop-left.invariant.countable;
  made = functions_step IsPropagated graph_view _ _ c.graph-item.result _ _ _ (graph_view c.in_ok-next.next) c.in-len1-up.len_at_least
      c.graph-item.is (ap (λ xs. map graph_view xs) c.in_ok-push.ensures.items ∙ map-append graph_view _ _) c.in_ok-next.ensures
      c.loop-left.invariant.made;
}

pub returns : goal.returns
returns c = functions_done IsPropagated graph_view _ _ _ c.in_default.len_below c.loop-left.invariant.made
