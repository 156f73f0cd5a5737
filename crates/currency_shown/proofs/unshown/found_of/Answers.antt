use Rattle.std.proofs.Common.{◌∙◌}
use Rattle.currency_shown.proofs.Walking.{nothing_met, walk_falls}
use Rattle.currency_shown.proofs.unshown.found_of.Goals as goal

-- nothing was met
pub walk-requires-clause-met : goal.walk-requires-clause-met
walk-requires-clause-met c =
    let made = c.in_ok-found.ensures in
    nothing_met c.args.survey.now c.in_ok-found.found _ _ made.none made.places made.scalars (c.len-places.ensures ∙ c.args.survey.now.table.now.rows.ok.0) (c.len-scalars.ensures ∙ c.args.survey.now.function.now.graph.now.scalars.ok.0)

pub loop-is_new-init : goal.loop-is_new-init
loop-is_new-init c = record { full = c.in_ok-is_new.ensures.full; walked = c.in_ok-is_new.ensures.walked }

pub walk-requires-in-loop-is_new-clause-met : goal.walk-requires-in-loop-is_new-clause-met
walk-requires-in-loop-is_new-clause-met c =
    let made = c.in_ok-found-2.ensures in
    nothing_met c.args.survey.now c.in_ok-found-2.found _ _ made.none made.places made.scalars (c.len-places.ensures ∙ c.args.survey.now.table.now.rows.ok.0) (c.len-scalars.ensures ∙ c.args.survey.now.function.now.graph.now.scalars.ok.0)

pub loop-is_new-preserved : goal.loop-is_new-preserved
loop-is_new-preserved c = record { full = c.in_ok-is_new-2.ensures.full; walked = c.in_ok-is_new-2.ensures.walked }

pub loop-is_new-smaller : goal.loop-is_new-smaller
loop-is_new-smaller c = walk_falls c.args.survey.now.function.now c.loop-is_new.states _ c.loop-is_new.is_new _ c.loop-is_new-test.true c.in_ok-is_new-2.ensures.falls c.in_ok-is_new-2.ensures.quiet

pub returns : goal.returns
returns c = (c.loop-is_new.invariant.full, c.loop-is_new.invariant.walked c.loop-is_new-test.false)
