use Rattle.std.proofs.Common.{length, map}
use Rattle.c_tree.specs.Programs.{program_view}
use Rattle.debug_records.specs.Change.{letters}
use Rattle.graph_core.specs.Graphs.{unit_view}
use Rattle.image_truth_units.proofs.BuiltMarked.{built_marked}
use Rattle.image_build.proofs.LastUnits.{built_last, comes_last, few_last, first_by, shape_last}
use Rattle.image_build.proofs.trails.trail_of.Goals as goal

pub program_unit-requires-clause-fits : goal.program_unit-requires-clause-fits
program_unit-requires-clause-fits g c = c.requires.fits

pub program_unit-requires-clause-laws : goal.program_unit-requires-clause-laws
program_unit-requires-clause-laws g c = c.requires.laws

pub run_list-requires-clause-few : goal.run_list-requires-clause-few
run_list-requires-clause-few g c = c.requires.few

pub run_list-requires-clause-marked : goal.run_list-requires-clause-marked
run_list-requires-clause-marked g c = built_marked (program_view c.args.program.now) (unit_view c.in_ok-unit.unit) c.requires.laws c.in_ok-unit.ensures.built

pub run_list-requires-clause-unchanged : goal.run_list-requires-clause-unchanged
run_list-requires-clause-unchanged g c = c.in_ok-unit.ensures.built.forms.log

pub returns-clause-first : goal.returns-clause-first
returns-clause-first g c = first_by c.run_list.result (program_view c.args.program.now) (unit_view c.in_ok-unit.unit) c.in_ok-unit.ensures.built c.run_list.ensures.first

pub returns-clause-shape : goal.returns-clause-shape
returns-clause-shape g c = shape_last c.run_list.result (program_view c.args.program.now) (unit_view c.in_ok-unit.unit) c.in_ok-unit.ensures.built c.run_list.ensures.first (length c.args.names.now) c.run_list.ensures.kept

pub returns-clause-few_changes : goal.returns-clause-few_changes
returns-clause-few_changes g c =
    few_last c.run_list.result (program_view c.args.program.now) (unit_view c.in_ok-unit.unit) c.in_ok-unit.ensures.built c.run_list.ensures.first (length c.args.names.now) c.requires.few c.run_list.ensures.few_changes

pub returns-clause-built : goal.returns-clause-built
returns-clause-built g c = λ none. built_last c.run_list.result (program_view c.args.program.now) (unit_view c.in_ok-unit.unit) c.in_ok-unit.ensures.built c.run_list.ensures.first c.args.names.now none

pub returns-clause-comes : goal.returns-clause-comes
returns-clause-comes g c =
    comes_last c.run_list.result (program_view c.args.program.now) (unit_view c.in_ok-unit.unit) c.in_ok-unit.ensures.built c.run_list.ensures.first (λ p. (goal.Pass-dyn g (p.vtable, p.value)).named p.value) (λ p. ((goal.Pass-dyn g (p.vtable, p.value)).steps p.value).leads) c.args.passes.now (map letters c.args.names.now) (length c.args.names.now)
    (built_marked (program_view c.args.program.now) (unit_view c.in_ok-unit.unit) c.requires.laws c.in_ok-unit.ensures.built) c.run_list.ensures.lawful
