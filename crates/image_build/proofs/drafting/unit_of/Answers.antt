use Rattle.std.proofs.Common.{length, map}
use Rattle.c_tree.specs.Programs.{program_view}
use Rattle.debug_records.specs.Change.{letters}
use Rattle.graph_core.specs.Graphs.{unit_view}
use Rattle.image_truth_units.proofs.BuiltMarked.{built_marked}
use Rattle.image_build.proofs.Behind.{built_by, comes_by, few_by, marked_by}
use Rattle.image_build.proofs.Units.{shaped_by}
use Rattle.image_build.proofs.drafting.unit_of.Goals as goal

pub returns-clause-shape : goal.returns-clause-shape
returns-clause-shape g c =
    let p = program_view c.args.program.now in
    let built = c.in_ok-unit.ensures.built in
    shaped_by p (unit_view c.in_ok-unit.unit) c.run_passes.result built.forms built.steps built.assignments c.run_passes.ensures.kept

pub returns-clause-built : goal.returns-clause-built
returns-clause-built g c =
    let p = program_view c.args.program.now in
    let built = c.in_ok-unit.ensures.built in
    λ none. built_by p c.in_ok-unit.unit c.run_passes.result built (c.run_passes.ensures.nothing none)

pub program_unit-requires-clause-fits : goal.program_unit-requires-clause-fits
program_unit-requires-clause-fits g c = c.requires.fits

pub program_unit-requires-clause-laws : goal.program_unit-requires-clause-laws
program_unit-requires-clause-laws g c = c.requires.laws

pub returns-clause-comes : goal.returns-clause-comes
returns-clause-comes g c =
    let p = program_view c.args.program.now in
    let u = unit_view c.in_ok-unit.unit in
    let built = c.in_ok-unit.ensures.built in
    comes_by (λ p. (goal.Pass-dyn g (p.vtable, p.value)).named p.value) (λ p. ((goal.Pass-dyn g (p.vtable, p.value)).steps p.value).leads) c.args.passes.now (map letters c.args.names.now) p
    u c.run_passes.result built c.run_passes.ensures.lawful c.run_passes.ensures.keeps

pub returns-clause-marked : goal.returns-clause-marked
returns-clause-marked g c = marked_by (unit_view c.in_ok-unit.unit) c.run_passes.result c.run_passes.ensures.keeps

pub run_passes-requires-clause-marked : goal.run_passes-requires-clause-marked
run_passes-requires-clause-marked g c = built_marked (program_view c.args.program.now) (unit_view c.in_ok-unit.unit) c.requires.laws c.in_ok-unit.ensures.built

pub run_passes-requires-clause-unchanged : goal.run_passes-requires-clause-unchanged
run_passes-requires-clause-unchanged g c = c.in_ok-unit.ensures.built.forms.log

pub returns-clause-few_changes : goal.returns-clause-few_changes
returns-clause-few_changes g c = few_by (unit_view c.in_ok-unit.unit) c.run_passes.result (length c.args.names.now) c.requires.few c.run_passes.ensures.few_changes

pub run_passes-requires-clause-few : goal.run_passes-requires-clause-few
run_passes-requires-clause-few g c = c.requires.few

pub run_passes-requires-clause-handed_in : goal.run_passes-requires-clause-handed_in
run_passes-requires-clause-handed_in g c = c.requires.handed_in
