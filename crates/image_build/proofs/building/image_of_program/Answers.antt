use Rattle.std.proofs.Common.{◌≡◌, map, refl, subst}
use Rattle.std.specs.Prelude.{IfOk}
use Rattle.c_tree.specs.Programs.{program_view}
use Rattle.debug_records.specs.Change.{letters}
use Rattle.graph_core.specs.Graphs.{unit_view}
use Rattle.image_build.proofs.Behind.{homed_by}
use Rattle.image_build.proofs.ToldTrails.{trail_told}
use Rattle.image_build.proofs.building.image_of_program.Goals as goal

pub unit_of-requires-clause-fits : goal.unit_of-requires-clause-fits
unit_of-requires-clause-fits g c = c.requires.fits

pub unit_of-requires-clause-laws : goal.unit_of-requires-clause-laws
unit_of-requires-clause-laws g c = c.requires.laws

pub unit_of-requires-clause-few : goal.unit_of-requires-clause-few
unit_of-requires-clause-few g c = c.requires.few

pub unit_of-requires-clause-handed_in : goal.unit_of-requires-clause-handed_in
unit_of-requires-clause-handed_in g c = c.requires.handed_in

pub image_of_unit-requires-clause-fits : goal.image_of_unit-requires-clause-fits
image_of_unit-requires-clause-fits g c = c.requires.fits

pub image_of_unit-requires-clause-laws : goal.image_of_unit-requires-clause-laws
image_of_unit-requires-clause-laws g c = c.requires.laws

pub image_of_unit-requires-clause-names : goal.image_of_unit-requires-clause-names
image_of_unit-requires-clause-names g c = c.requires.names

pub image_of_unit-requires-clause-spots : goal.image_of_unit-requires-clause-spots
image_of_unit-requires-clause-spots g c = c.requires.spots

pub image_of_unit-requires-clause-valid : goal.image_of_unit-requires-clause-valid
image_of_unit-requires-clause-valid g c = c.in_ok-unit.ensures.valid

pub image_of_unit-requires-clause-marked : goal.image_of_unit-requires-clause-marked
image_of_unit-requires-clause-marked g c = c.in_ok-unit.ensures.marked

pub image_of_unit-requires-clause-shape : goal.image_of_unit-requires-clause-shape
image_of_unit-requires-clause-shape g c = c.in_ok-unit.ensures.shape

pub image_of_unit-requires-clause-kept : goal.image_of_unit-requires-clause-kept
image_of_unit-requires-clause-kept g c =
    let comes = c.in_ok-unit.ensures.comes in
    record { first = comes.first; last = unit_view c.in_ok-unit.unit; built = comes.built; keeps = comes.keeps; same = refl }

pub image_of_unit-requires-clause-told : goal.image_of_unit-requires-clause-told
image_of_unit-requires-clause-told g c =
    trail_told (λ p. (goal.Pass-dyn g (p.vtable, p.value)).named p.value) (λ p. ((goal.Pass-dyn g (p.vtable, p.value)).steps p.value).leads) c.args.passes.now (program_view c.args.program) (map letters c.args.names.now) (unit_view c.in_ok-unit.unit)
    c.requires.laws c.requires.spelled c.in_ok-unit.ensures.comes

pub image_of_unit-requires-clause-few : goal.image_of_unit-requires-clause-few
image_of_unit-requires-clause-few g c = c.in_ok-unit.ensures.few_changes

pub image_of_unit-requires-clause-built : goal.image_of_unit-requires-clause-built
image_of_unit-requires-clause-built g c = λ none. c.in_ok-unit.ensures.built none

pub returns-clause-comes : goal.returns-clause-comes
returns-clause-comes g c =
    homed_by (λ p. (goal.Pass-dyn g (p.vtable, p.value)).named p.value) (λ p. ((goal.Pass-dyn g (p.vtable, p.value)).steps p.value).leads) c.args.passes.now (map letters c.args.names.now) (program_view c.args.program)
    (unit_view c.in_ok-unit.unit) c.image_of_unit.result c.in_ok-unit.ensures.comes c.image_of_unit.ensures.unit c.image_of_unit.ensures.changes
