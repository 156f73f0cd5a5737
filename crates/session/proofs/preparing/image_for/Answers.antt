use Rattle.std.proofs.Common.{◌≤◌, map, subst}
use Rattle.std.proofs.lemmas.List.{length-map}
use Rattle.debug_records.specs.Change.{letters}
use Rattle.c_tree.specs.Programs.{program_view}
use Rattle.graph_homes.specs.Homed.{homed_view}
use Rattle.image_form.specs.Form.{form}
use Rattle.image_build.proofs.CarriedOut.{carried}
use Rattle.image_build.proofs.Explained.{explains_all}
use Rattle.image_build.proofs.FromForms.{homed_of_forms}
use Rattle.image_build.proofs.KeptUnits.{kept_variables}
use Rattle.image_build.proofs.Truth.{runs_true}
use Rattle.session.proofs.Behind.{kept_behind}
use Rattle.session.proofs.Compiled.{none_named}
use Rattle.session.proofs.preparing.image_for.Goals as goal

pub image_of_program-requires-clause-fits : goal.image_of_program-requires-clause-fits
image_of_program-requires-clause-fits g c = c.requires.fits

pub image_of_program-requires-clause-laws : goal.image_of_program-requires-clause-laws
image_of_program-requires-clause-laws g c = c.requires.laws

pub image_of_program-requires-clause-names : goal.image_of_program-requires-clause-names
image_of_program-requires-clause-names g c = c.requires.names

pub image_of_program-requires-clause-spots : goal.image_of_program-requires-clause-spots
image_of_program-requires-clause-spots g c = c.requires.spots

pub image_of_program-requires-clause-few : goal.image_of_program-requires-clause-few
image_of_program-requires-clause-few g c = subst (λ n. n ≤ 32) (length-map c.args.names.now letters) c.requires.run.few

pub image_of_program-requires-clause-handed_in : goal.image_of_program-requires-clause-handed_in
image_of_program-requires-clause-handed_in g c = c.requires.run.are_handed_in

pub image_of_program-requires-clause-spelled : goal.image_of_program-requires-clause-spelled
image_of_program-requires-clause-spelled g c = c.requires.run.spelled

pub returns-clause-shows : goal.returns-clause-shows
returns-clause-shows g c = λ none slots. c.in_ok-build.ensures.shows (none_named c.args.names.now none) slots

pub returns-clause-comes : goal.returns-clause-comes
returns-clause-comes g c =
    let p = program_view c.args.program in
    let h = homed_view c.in_ok-build.build.homed in
    let is = c.in_ok-build.ensures in
    record {
      homed = h;
      homes = is.homed;
      made = carried p h (form c.in_ok-build.build.image) is.made;
      comes = homed_of_forms (λ p. (goal.Pass-dyn g (p.vtable, p.value)).named p.value) (λ p. ((goal.Pass-dyn g (p.vtable, p.value)).steps p.value).leads) c.args.passes.now (map letters c.args.names.now) p c.requires.laws h is.comes;
      explains = explains_all p h (form c.in_ok-build.build.image) is.made is.image is.tables (kept_variables p h.unit (kept_behind (λ p. (goal.Pass-dyn g (p.vtable, p.value)).named p.value) (λ p. ((goal.Pass-dyn g (p.vtable, p.value)).steps p.value).leads) c.args.passes.now (map letters c.args.names.now) p h is.comes) c.requires.laws);
    }

pub returns-clause-runs : goal.returns-clause-runs
returns-clause-runs g c =
    let p = program_view c.args.program in
    let h = homed_view c.in_ok-build.build.homed in
    let is = c.in_ok-build.ensures in
    runs_true c.args.mode p h (form c.in_ok-build.build.image) c.requires.laws is.homed is.made is.tables is.image
    (kept_behind (λ p. (goal.Pass-dyn g (p.vtable, p.value)).named p.value) (λ p. ((goal.Pass-dyn g (p.vtable, p.value)).steps p.value).leads) c.args.passes.now (map letters c.args.names.now) p h is.comes)
    c.requires.names
