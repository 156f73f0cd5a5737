use Rattle.std.proofs.Common.{◌≤◌, length, refl, sym, ◌∙◌}
use Rattle.places.specs.declared.flow.FlowStep.{FlowStep}
use Rattle.places.specs.Search.{quest_of, IsFirstFrom}
use Rattle.places.proofs.Taking.{answer_step, end_steps, item_at, start_steps, step_at, step_room, stop_steps, take_one}
use Rattle.places.proofs.search.expand.Goals as goal

pub loop-index-init : goal.loop-index-init
loop-index-init c =
    let visit = item_at c.args.visits.now.items c.args.head c.index-visit.result.now c.requires.head c.index-visit.ensures in
    let firsts : IsFirstFrom c.args.request.now.steps.now c.index-visit.result.now.place.0 c.first_from-index.result = c.first_from-index.ensures in
    (start_steps (quest_of c.args.request.now) c.args.head c.args.visits.now.items c.args.closed.now c.index-visit.result.now c.first_from-index.result c.requires.searched visit firsts, visit)

pub returns-then-step-visit : goal.returns-then-step-visit
returns-then-step-visit c =
    let none : FlowStep = record { from = record { 0 = 0 }; to = record { 0 = 0 } } in
    let firsts : IsFirstFrom c.args.request.now.steps.now c.index-visit.result.now.place.0 c.first_from-index.result = c.first_from-index.ensures in
    let at = step_at c.args.request.now.steps.now c.args.request.now.steps.now c.loop-index.index none refl c.loop-index-test.true in
    stop_steps (quest_of c.args.request.now) c.args.head c.loop-index.index c.loop-index.visits.items c.loop-index.closed c.index-visit.result.now _ c.first_from-index.result
    c.loop-index.invariant.0 c.loop-index.invariant.1 c.requires.order firsts c.loop-index.auto.index at c.if-step-visit.true

pub returns-then-is_answer : goal.returns-then-is_answer
returns-then-is_answer c =
    let none : FlowStep = record { from = record { 0 = 0 }; to = record { 0 = 0 } } in
    let at = step_at c.args.request.now.steps.now c.args.request.now.steps.now c.loop-index.index none refl c.loop-index-test.true in
    answer_step (quest_of c.args.request.now) c.args.head c.loop-index.index c.loop-index.visits.items c.loop-index.closed c.index-visit.result.now _
    c.loop-index.invariant.0 c.loop-index.invariant.1 at c.if-step-visit.false (sym c.is_answer.ensures ∙ c.if-is_answer.true)

pub come_to-requires : goal.come_to-requires
come_to-requires c =
    let none : FlowStep = record { from = record { 0 = 0 }; to = record { 0 = 0 } } in
    let at = step_at c.args.request.now.steps.now c.args.request.now.steps.now c.loop-index.index none refl c.loop-index-test.true in
    step_room (quest_of c.args.request.now) c.args.head c.loop-index.index c.loop-index.visits.items c.loop-index.closed _ c.passes_by-passed.result c.loop-index.invariant.0 at

pub loop-index-preserved : goal.loop-index-preserved
loop-index-preserved c =
    let none : FlowStep = record { from = record { 0 = 0 }; to = record { 0 = 0 } } in
    let at = step_at c.args.request.now.steps.now c.args.request.now.steps.now c.loop-index.index none refl c.loop-index-test.true in
    take_one (quest_of c.args.request.now) c.args.head c.loop-index.index c.loop-index.visits.items c.come_to.new.visits.items c.loop-index.closed c.come_to.new.closed c.index-visit.result.now _
    c.passes_by-passed.result c.passes_by-passed.ensures c.loop-index.invariant.0 c.loop-index.invariant.1 c.requires.order at c.if-step-visit.false (sym c.is_answer.ensures ∙ c.if-is_answer.false)
    c.in_ok-come_to.ensures.visits c.in_ok-come_to.ensures.closed

pub returns : goal.returns
returns c =
    let past : length c.args.request.now.steps.now ≤ c.loop-index.index = c.loop-index-test.false in
    end_steps (quest_of c.args.request.now) c.args.head c.loop-index.index c.loop-index.visits.items c.loop-index.closed c.index-visit.result.now c.loop-index.invariant.0 c.loop-index.invariant.1 past
