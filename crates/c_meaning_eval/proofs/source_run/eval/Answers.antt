use Rattle.std.proofs.Common.{ap, ◌∙◌}
use Rattle.c_meaning_steps.specs.Views.{end_view}
use Rattle.c_meaning.specs.Runs.{with_ending}
use Rattle.c_meaning_eval.proofs.source_run.eval.Goals as goal

pub returns : goal.returns
returns c = c.in_ok-whole.ensures ∙ ap (with_ending (end_view c.in_ok-ended.ended.end)) c.in-Some.ensures ∙ c.in_ok-ended.ensures
