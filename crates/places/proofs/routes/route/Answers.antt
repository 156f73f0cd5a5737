use Rattle.std.proofs.Common.{List, ℕ, subst}
use Rattle.std.specs.Prelude.{◌≡◌, IfNone, IfOk, IfSome, option_map}
use Rattle.places.specs.declared.flow.FlowStep.{FlowStep}
use Rattle.places.specs.Flow.{assigns}
use Rattle.places.specs.Path.{IsLeastRoute, IsRoute, Quest, places}
use Rattle.places.specs.Route.{route_of}
use Rattle.places.proofs.routes.route.Goals as goal

pub returns-clause-found : goal.returns-clause-found
returns-clause-found c =
    let asked : List FlowStep → Quest = λ steps. record { steps = steps; blocked = λ p. assigns c.args.table.now.assignments.items p c.args.var.0; start = c.args.start.0; via = c.args.via.0; stop = c.args.stop.0 } in
    subst (λ steps. IfOk c.least.result (λ answer. IfSome answer (λ path. IsLeastRoute (asked steps) (places path)))) c.deref.ensures.value c.least.ensures.found

pub returns-clause-value : goal.returns-clause-value
returns-clause-value c =
    let asked : List FlowStep → Quest = λ steps. record { steps = steps; blocked = λ p. assigns c.args.table.now.assignments.items p c.args.var.0; start = c.args.start.0; via = c.args.via.0; stop = c.args.stop.0 } in
    subst (λ steps. IfOk c.least.result (λ answer. option_map (λ path. places path) answer ≡ route_of (asked steps))) c.deref.ensures.value c.least.ensures.value

pub returns-clause-none : goal.returns-clause-none
returns-clause-none c =
    let asked : List FlowStep → Quest = λ steps. record { steps = steps; blocked = λ p. assigns c.args.table.now.assignments.items p c.args.var.0; start = c.args.start.0; via = c.args.via.0; stop = c.args.stop.0 } in
    subst (λ steps. IfOk c.least.result (λ answer. IfNone answer ((path : List ℕ) → IsRoute (asked steps) path → ⊥))) c.deref.ensures.value c.least.ensures.none
