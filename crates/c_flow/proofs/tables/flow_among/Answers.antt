use Rattle.std.proofs.Common.{ℕ, List, length, ap, ◌∙◌}
use Rattle.c_tree.specs.Programs.{program_view}
use Rattle.c_places.specs.Places.{places_of_program}
use Rattle.c_flow.specs.Tables.{place_number}
use Rattle.c_flow.proofs.Fitting.{few_positions, numbers_among, parameters_fit}
use Rattle.c_flow.proofs.tables.flow_among.Goals as goal

pub step_table-requires-clause-few : goal.step_table-requires-clause-few
step_table-requires-clause-few c =
    few_positions c.args.places.now c.deref.result.now (places_of_program (program_view c.args.program.now)) c.requires.places (ap length c.deref.ensures.value ∙ c.in_ok-positions.ensures.count) c.requires.fits.places

pub step_table-requires-clause-numbers : goal.step_table-requires-clause-numbers
step_table-requires-clause-numbers c =
    numbers_among c.args.places.now c.deref.result.now (places_of_program (program_view c.args.program.now)) c.requires.places
    (λ at. ap (λ (ps : List ℕ). place_number ps at) c.deref.ensures.value ∙ c.in_ok-positions.ensures.numbers at)

pub assignment_table-requires-clause-few : goal.assignment_table-requires-clause-few
assignment_table-requires-clause-few c =
    few_positions c.args.places.now c.deref-2.result.now (places_of_program (program_view c.args.program.now)) c.requires.places (ap length c.deref-2.ensures.value ∙ c.in_ok-positions.ensures.count) c.requires.fits.places

pub assignment_table-requires-clause-numbers : goal.assignment_table-requires-clause-numbers
assignment_table-requires-clause-numbers c =
    numbers_among c.args.places.now c.deref-2.result.now (places_of_program (program_view c.args.program.now)) c.requires.places
    (λ at. ap (λ (ps : List ℕ). place_number ps at) c.deref-2.ensures.value ∙ c.in_ok-positions.ensures.numbers at)

pub assignment_table-requires-clause-parameters : goal.assignment_table-requires-clause-parameters
assignment_table-requires-clause-parameters c = parameters_fit c.args.program.now.functions.items c.requires.fits.parameters
