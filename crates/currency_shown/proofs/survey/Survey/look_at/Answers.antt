use Rattle.std.proofs.Common.{ap, arith, inl, length, subst, sym, ◌∙◌}
use Rattle.std.proofs.lemmas.Option.{none-some, same_Some}
use Rattle.graph_core.specs.Graphs.{instruction_view}
use Rattle.graph_core.specs.Uses.{marker_of}
use Rattle.currency_shown.specs.Found.{AreBelow}
use Rattle.currency_shown.specs.Survey.{IsFound}
use Rattle.currency_shown.proofs.Reaching.{marker_tells}
use Rattle.currency_shown.proofs.Adding.{extended_new, extended_same, found_new, met_cases}
use Rattle.currency_shown.proofs.Walking.{marker_cases, place_room, place_within}
use Rattle.currency_shown.proofs.survey.Survey.look_at.Goals as goal

pub add_place-requires-clause-some : goal.add_place-requires-clause-some
add_place-requires-clause-some c = (c.requires.place c.in-Some.place.0 (marker_tells (instruction_view c.args.instruction.now) c.in-Some.place.0 c.in-Some.ensures)).some

pub add_place-requires-clause-within : goal.add_place-requires-clause-within
add_place-requires-clause-within c = place_within c.args.self.now.table.now c.args.self.now.number c.in-Some.place.0 (c.requires.place c.in-Some.place.0 (marker_tells (instruction_view c.args.instruction.now) c.in-Some.place.0 c.in-Some.ensures))

pub add_place-requires-clause-room : goal.add_place-requires-clause-room
add_place-requires-clause-room c = place_room c.args.self.now.table.now c.args.self.now.number c.in-Some.place.0 (length c.args.found.now.met.items) c.requires.met.places (omega arith) (c.requires.place c.in-Some.place.0 (marker_tells (instruction_view c.args.instruction.now) c.in-Some.place.0 c.in-Some.ensures))

pub add_place-requires-clause-fresh : goal.add_place-requires-clause-fresh
add_place-requires-clause-fresh c = c.requires.fresh c.in-Some.place.0 (marker_tells (instruction_view c.args.instruction.now) c.in-Some.place.0 c.in-Some.ensures)

pub add_place-requires-clause-numbers : goal.add_place-requires-clause-numbers
add_place-requires-clause-numbers c = subst (λ n. AreBelow c.args.self.now.numbering n) (sym c.requires.met.scalars) c.requires.survey.numbers

pub returns-in_ok-add_place-in-Some-clause-extended : goal.returns-in_ok-add_place-in-Some-clause-extended
returns-in_ok-add_place-in-Some-clause-extended c =
    (let is = marker_tells (instruction_view c.args.instruction.now) c.in-Some.place.0 c.in-Some.ensures in
    extended_new c.args.self.now c.args.found.now c.add_place.new.self c.args.state.now c.in-Some.place.0 c.in_ok-add_place-in-Some.ensures c.requires.met (c.requires.place c.in-Some.place.0 is) (c.requires.reached c.in-Some.place.0 is))

pub returns-in_ok-add_place-in-Some-clause-found : goal.returns-in_ok-add_place-in-Some-clause-found
returns-in_ok-add_place-in-Some-clause-found c = λ p e.
    (let is = marker_tells (instruction_view c.args.instruction.now) c.in-Some.place.0 c.in-Some.ensures in
    subst (λ q. IsFound c.args.self.now c.add_place.new.self c.args.state.now q) (same_Some c.in-Some.place.0 p (c.in-Some.ensures ∙ ap (λ i. marker_of i) e))
    (found_new c.args.self.now c.args.found.now c.add_place.new.self c.args.state.now c.in-Some.place.0 c.in_ok-add_place-in-Some.ensures c.requires.met (c.requires.place c.in-Some.place.0 is) (c.requires.reached c.in-Some.place.0 is)))

pub returns-in_ok-add_place-in-Some-clause-only : goal.returns-in_ok-add_place-in-Some-clause-only
returns-in_ok-add_place-in-Some-clause-only c = λ p e.
    (let is = marker_tells (instruction_view c.args.instruction.now) c.in-Some.place.0 c.in-Some.ensures in
    marker_cases c.args.found.now (instruction_view c.args.instruction.now) c.in-Some.place.0 p is (met_cases c.args.self.now c.args.found.now c.add_place.new.self c.args.state.now c.in-Some.place.0 c.in_ok-add_place-in-Some.ensures p e))

pub returns-in-None-clause-extended : goal.returns-in-None-clause-extended
returns-in-None-clause-extended c = extended_same c.args.self.now c.args.found.now c.requires.met

pub returns-in-None-clause-found : goal.returns-in-None-clause-found
returns-in-None-clause-found c = λ p is. absurd (none-some p (c.in-None.ensures ∙ ap (λ i. marker_of i) is))

pub returns-in-None-clause-only : goal.returns-in-None-clause-only
returns-in-None-clause-only c = λ p e. inl e
