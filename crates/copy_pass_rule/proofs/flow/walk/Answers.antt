use Rattle.std.proofs.Common.{refl, ◌∙◌}
use Rattle.graph_core.specs.Graphs.{instruction_view}
use Rattle.copy_pass_rule.proofs.Walked.{walk_on}
use Rattle.copy_pass_rule.proofs.flow.walk.Goals as goal

pub loop-ahead-preserved : goal.loop-ahead-preserved
loop-ahead-preserved c = record {
  same_count = c.step.ensures.same_count ∙ c.loop-ahead.invariant.same_count;
  same_width = c.step.ensures.same_width ∙ c.loop-ahead.invariant.same_width;
  others = λ other bit ne. c.step.ensures.others other bit ne ∙ c.loop-ahead.invariant.others other bit ne;
  led = c.step.ensures.led ∙ c.loop-ahead.invariant.led;
  walk = λ k d at. walk_on instruction_view _ c.instruction-item.result _ d c.args.number _ _ _ _ _ c.in-len1-up.len_at_least c.instruction-item.is refl c.target-target.ensures
      (c.step.ensures.walk k d at) (c.loop-ahead.invariant.walk k d at);
}
