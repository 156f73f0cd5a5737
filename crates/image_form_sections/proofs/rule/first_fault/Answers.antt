use Rattle.std.proofs.Common.{sym, ◌∙◌}
use Rattle.image_form_sections.proofs.Broken.{passed, none_of}
use Rattle.image_form_sections.proofs.rule.first_fault.Goals as goal

pub loop-row-preserved : goal.loop-row-preserved
loop-row-preserved g c = sym (passed (g.R.Rule.tests c.args.rule.now) c.args.count c.loop-row.row c.loop-row-test.true (sym c.fault.ensures.first ∙ none_of c.fault.result c.in_default.not-Some)) ∙ c.loop-row.invariant
