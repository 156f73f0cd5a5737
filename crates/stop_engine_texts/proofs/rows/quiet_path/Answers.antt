use Rattle.std.proofs.Common.{ℕ, Bool, false, Option, List, [], ap, map, ◌∙◌}
use Rattle.std.specs.Prelude.{slice_index_or, unwrap_or}
use Rattle.image_form.specs.Views.{viewed}
use Rattle.places.specs.declared.flow.FlowStep.{FlowStep}
use Rattle.places.specs.Path.{Quest}
use Rattle.places.specs.Route.{route_of}
use Rattle.stop_engine_view.specs.Evidence.{step_of}
use Rattle.stop_engine_view.specs.HomeWrites.{disturbs}
use Rattle.stop_engine_view.proofs.RoutesAlike.{route_by_blocked}
use Rattle.stop_engine_texts.proofs.rows.quiet_path.Goals as goal

pub returns : goal.returns
returns c =
    let m = viewed c.args.image.now in
    let r = c.args.row in
    let flags : List Bool = c.in_ok-disturbed.disturbed.items in
    let steps : List FlowStep = map step_of m.flow in
    let asked : List FlowStep → List Bool → Quest = λ steps flags. record { steps = steps; blocked = λ p. slice_index_or flags p false; start = c.args.start; via = c.args.start; stop = r.place } in
    ap (λ (o : Option (List ℕ)). unwrap_or o []) (c.in_ok-route_past.ensures.value
    ∙ (ap (λ s. route_of (asked s c.deref-2.result.now)) (c.deref.ensures.value ∙ c.requires.tables.flow.steps)
    ∙ (ap (λ fs. route_of (asked steps fs)) c.deref-2.ensures.value
    ∙ route_by_blocked (asked steps flags) (λ p. disturbs m r.variable p) c.in_ok-disturbed.ensures)))
