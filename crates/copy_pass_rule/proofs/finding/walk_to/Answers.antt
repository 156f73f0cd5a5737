use Rattle.std.proofs.Common.{refl, ◌∙◌}
use Rattle.graph_core.specs.Graphs.{instruction_view}
use Rattle.copy_pass_rule.proofs.Pointed.{walk_out, walk_past, walk_there}
use Rattle.copy_pass_rule.proofs.finding.walk_to.Goals as goal

pub loop-ahead-preserved : goal.loop-ahead-preserved
loop-ahead-preserved c = record {
  same_count = c.step.ensures.same_count ∙ c.loop-ahead.invariant.same_count;
  same_width = c.step.ensures.same_width ∙ c.loop-ahead.invariant.same_width;
  walked = λ k d at. walk_past instruction_view _ c.instruction-item.result _ d c.args.number c.args.left _ _ _ _ _ c.in-len1-up.len_at_least c.if-rest-left.false c.instruction-item.is refl c.target-target.ensures
      (c.step.ensures.walk k d at) (c.loop-ahead.invariant.walked k d at);
}

pub returns-then-rest-left-clause-walked : goal.returns-then-rest-left-clause-walked
returns-then-rest-left-clause-walked c = λ k d at. walk_there instruction_view _ d c.args.number c.args.left _ _ _ c.in-len1-up.len_at_least refl c.if-rest-left.true (c.loop-ahead.invariant.walked k d at)

pub returns-clause-walked : goal.returns-clause-walked
returns-clause-walked c = λ k d at. walk_out instruction_view _ d c.args.number _ _ _ c.in_default.len_below (c.loop-ahead.invariant.walked k d at)
