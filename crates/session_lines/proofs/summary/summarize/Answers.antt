use Rattle.std.proofs.Common.{◌≡◌, ap, subst, ◌∙◌, rules}
use Rattle.image_form.specs.Views.{viewed}
use Rattle.stop_engine.specs.EngineState.{EngineState, fresh_run}
use Rattle.session_lines.specs.Summary.{IsSummaryOf}
use Rattle.session_lines.proofs.summary.summarize.Goals as goal

pub returns : goal.returns
returns c =
    let limit : c.from.result ≡ c.args.limit = search rules in
    let start = ap (λ (e : EngineState). e.run) c.in_ok-engine.ensures ∙ ap (fresh_run (viewed c.args.image.now) c.args.input.now) limit in
    record { whole = subst (λ r. IsSummaryOf r c.in_ok-count_steps.field-0) start c.in_ok-count_steps.ensures.summary }
