use Rattle.std.proofs.Common.{ℕ, List, ap, map, ◌∙◌}
use Rattle.image_form.specs.Views.{viewed}
use Rattle.places.specs.declared.flow.Assignment.{Assignment}
use Rattle.places.specs.declared.flow.FlowStep.{FlowStep}
use Rattle.places.specs.Flow.{assigns}
use Rattle.places.specs.Path.{Quest}
use Rattle.places.specs.Route.{route_of}
use Rattle.stop_engine_view.specs.Evidence.{assignment_of, step_of}
use Rattle.stop_engine_texts.proofs.rows.evidence_path.Goals as goal

pub returns : goal.returns
returns c =
    let e = c.args.evidence in
    let m = viewed c.args.image.now in
    let flow = c.args.tables.now.flow in
    let is = c.requires.tables.flow in
    let steps : List FlowStep = map step_of m.flow in
    let all : List Assignment = map assignment_of m.assigned in
    let asked : List FlowStep → List Assignment → ℕ → Quest = λ steps all via. record { steps = steps; blocked = λ p. assigns all p e.variable; start = e.start; via = via; stop = e.place } in
    c.in_ok-route.ensures.value ∙ ap (λ s. route_of (asked s flow.assignments.items c.via_of-via.result)) is.steps
    ∙ ap (λ a. route_of (asked steps a c.via_of-via.result)) is.assignments ∙ ap (λ via. route_of (asked steps all via)) c.via_of-via.ensures
