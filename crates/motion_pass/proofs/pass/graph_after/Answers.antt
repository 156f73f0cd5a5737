use Rattle.std.proofs.Common.{sym, subst}
use Rattle.graph_core.specs.Graphs.{graph_view}
use Rattle.motion_pass_placement.specs.declared.placement.Motion.{Motion}
use Rattle.motion_pass_placement.specs.Placed.{IsAnswered}
use Rattle.motion_pass_placement.specs.Moves.{BecomesIn, is_entered_again}
use Rattle.motion_pass.proofs.pass.graph_after.Goals as goal

pub place-requires : goal.place-requires
place-requires c = c.requires.bounded

pub returns-in_ok-same-in-EnteredAgain-clause-becomes : goal.returns-in_ok-same-in-EnteredAgain-clause-becomes
returns-in_ok-same-in-EnteredAgain-clause-becomes c = λ before behind is.
    (let g = graph_view c.args.graph.now in
    let answered = subst (λ (motion : Motion). IsAnswered g motion) c.in-EnteredAgain.is c.in_ok-motion.ensures in
    subst (λ h. BecomesIn c.args.room before g behind h) (sym c.in_ok-same-in-EnteredAgain.ensures) (is_entered_again answered))

pub moved_within-requires-clause-are : goal.moved_within-requires-clause-are
moved_within-requires-clause-are c =
    let g = graph_view c.args.graph.now in
    let answered = subst (λ (motion : Motion). IsAnswered g motion) c.in-Placed.is c.in_ok-motion.ensures in
    answered.0

pub moved_within-requires-clause-once : goal.moved_within-requires-clause-once
moved_within-requires-clause-once c =
    let g = graph_view c.args.graph.now in
    let answered = subst (λ (motion : Motion). IsAnswered g motion) c.in-Placed.is c.in_ok-motion.ensures in
    answered.1

pub moved_within-requires-clause-few : goal.moved_within-requires-clause-few
moved_within-requires-clause-few c = c.requires.bounded.blocks
