use Rattle.std.proofs.Common.{◌≡◌, List, map, sym, ap, ◌∙◌, subst}
use Rattle.std.specs.List.{Contains}
use Rattle.places.specs.declared.flow.FlowStep.{FlowStep}
use Rattle.c_tree.specs.Programs.{program_view}
use Rattle.c_places.specs.Places.{places_of_program}
use Rattle.c_flow.specs.Flow.{flow_step_of, steps_of_program}
use Rattle.c_flow.specs.Tables.{step_between}
use Rattle.c_flow.proofs.SameNumbers.{same_steps}
use Rattle.c_flow.proofs.step_table.step_table.Goals as goal

pub returns-clause-exact : goal.returns-clause-exact
returns-clause-exact c =
    let places = places_of_program (program_view c.args.program.now) in
    let same : map (step_between c.args.positions.now) c.in_ok-edges.edges.items ≡ steps_of_program (program_view c.args.program.now) =
    same_steps places c.args.positions.now c.requires.numbers c.in_ok-edges.edges.items ∙ ap (map (flow_step_of places)) c.in_ok-edges.ensures in
    let passed : map (step_between c.args.positions.now) c.deref.result.now ≡ steps_of_program (program_view c.args.program.now) =
    ap (map (step_between c.args.positions.now)) c.deref.ensures.value ∙ same in
    let exact = c.in_ok-steps.ensures.exact in
    λ s. (λ h. subst (λ (xs : List FlowStep). Contains xs s) passed ((exact s).0 h), λ h. (exact s).1 (subst (λ (xs : List FlowStep). Contains xs s) (sym passed) h))
