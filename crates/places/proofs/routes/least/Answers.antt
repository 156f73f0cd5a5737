use Rattle.std.proofs.Common.{arith, ◌≡◌, ◌<◌, ◌≤◌, All, length, sym, subst, rules}
use Rattle.debug_records.specs.declared.change.Place.{Place}
use Rattle.places.specs.declared.flow.FlowStep.{FlowStep}
use Rattle.places.specs.Path.{IsLeastRoute, places}
use Rattle.places.specs.Search.{Expanded, IsWayTo, Searched, quest_of}
use Rattle.places.proofs.LeastByPlaces.{found_route, no_route_of}
use Rattle.places.proofs.Searched.{best_way, length_map, no_route}
use Rattle.places.proofs.Taking.{first_visit}
use Rattle.places.proofs.routes.least.Goals as goal

pub loop-head-init : goal.loop-head-init
loop-head-init c =
    let q = quest_of c.args.request in
    subst (λ vs. Searched q 0 0 vs c.in_ok-closed.closed.items) (sym c.in_ok-visits.ensures.items) (first_visit q c.in_ok-closed.closed.items c.place_bound-bound.result c.place_bound-bound.ensures.above c.in_ok-closed.ensures.size c.in_ok-closed.ensures.flags)

pub trace-requires : goal.trace-requires
trace-requires c =
    let q = quest_of c.args.request in
    let answered = subst (λ b. Expanded q c.loop-head.head b c.expand.new.visits.items c.expand.new.closed) c.if-branch.true c.in_ok-expand.ensures in
    let best = best_way q c.loop-head.head c.expand.new.visits.items answered in
    (best.way, subst (λ vs. IsWayTo vs c.loop-head.head best.way) (sym c.deref.ensures.value) best.leads)

pub returns-then-branch-clause-found : goal.returns-then-branch-clause-found
returns-then-branch-clause-found c =
    let q = quest_of c.args.request in
    let answered = subst (λ b. Expanded q c.loop-head.head b c.expand.new.visits.items c.expand.new.closed) c.if-branch.true c.in_ok-expand.ensures in
    let best = best_way q c.loop-head.head c.expand.new.visits.items answered in
    let path = c.in_ok-path.ensures.way best.way (subst (λ vs. IsWayTo vs c.loop-head.head best.way) (sym c.deref.ensures.value) best.leads) in
    subst (IsLeastRoute q) (sym path) best.least

pub returns-clause-none : goal.returns-clause-none
returns-clause-none c =
    let q = quest_of c.args.request in
    let past : length c.loop-head.visits.items ≤ c.loop-head.head = search rules in
    no_route q c.loop-head.head 0 c.loop-head.visits.items c.loop-head.closed.items c.loop-head.invariant past

pub returns-then-branch-clause-value : goal.returns-then-branch-clause-value
returns-then-branch-clause-value c =
    let q = quest_of c.args.request in
    let answered = subst (λ b. Expanded q c.loop-head.head b c.expand.new.visits.items c.expand.new.closed) c.if-branch.true c.in_ok-expand.ensures in
    let best = best_way q c.loop-head.head c.expand.new.visits.items answered in
    let path = c.in_ok-path.ensures.way best.way (subst (λ vs. IsWayTo vs c.loop-head.head best.way) (sym c.deref.ensures.value) best.leads) in
    let many : length (places c.in_ok-path.path) ≡ length c.in_ok-path.path.places.items = length_map (λ (p : Place). p.0) c.in_ok-path.path.places.items in
    found_route q (places c.in_ok-path.path) c.requires (subst (IsLeastRoute q) (sym path) best.least) (omega (arith, many, c.in_ok-path.ensures.short))

pub returns-clause-value : goal.returns-clause-value
returns-clause-value c =
    let q = quest_of c.args.request in
    let past : length c.loop-head.visits.items ≤ c.loop-head.head = search rules in
    no_route_of q c.requires (no_route q c.loop-head.head 0 c.loop-head.visits.items c.loop-head.closed.items c.loop-head.invariant past)
