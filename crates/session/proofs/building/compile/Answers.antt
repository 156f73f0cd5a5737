use Rattle.std.proofs.Common.{◌≡◌, ◌<◌, ◌≤◌, Ok, ap, arith, length, map, refl, subst, sym, ◌∙◌}
use Rattle.std.proofs.lemmas.Result.{err_from_is_err_and}
use Rattle.std.specs.Prelude.{IsSomeAnd, slice_get}
use Rattle.c_tree.specs.Programs.{program_view}
use Rattle.debug_records.specs.Change.{letters}
use Rattle.graph_build_laws.specs.Built.{IsBuilt}
use Rattle.graph_core.specs.Graphs.{unit_view}
use Rattle.graph_homes.specs.Homed.{homed_view}
use Rattle.image_build.specs.Behind.{ComesHomedForms, ComesOfForms}
use Rattle.image_build.specs.Kept.{IsKeptOf}
use Rattle.image_build.specs.Made.{HasHomesOf, IsMadeOf}
use Rattle.image_build.specs.Tables.{HasShapeOf}
use Rattle.image_build.proofs.CarriedOut.{carried}
use Rattle.image_build.proofs.Explained.{explains_all}
use Rattle.image_build.proofs.FromForms.{homed_of_forms}
use Rattle.image_build.proofs.KeptUnits.{kept_variables}
use Rattle.image_build.proofs.ToldTrails.{trail_told}
use Rattle.image_build.proofs.Truth.{runs_true}
use Rattle.image_form.specs.Form.{form}
use Rattle.session.specs.Behind.{ComesOfProgram}
use Rattle.session.proofs.ReadBack.{read_back}
use Rattle.session.proofs.Behind.{kept_behind}
use Rattle.session.proofs.CompiledCall.{holds_last, last_holds, list_reason, source_reason}
use Rattle.session.proofs.Compiled.{none_named, truthful_by}
use Rattle.session.proofs.building.compile.Goals as goal

pub trail_by-requires-clause-fits : goal.trail_by-requires-clause-fits
trail_by-requires-clause-fits g c = c.in_ok-program.ensures.fits

pub trail_by-requires-clause-laws : goal.trail_by-requires-clause-laws
trail_by-requires-clause-laws g c = c.in_ok-program.ensures.laws

pub trail_by-requires-clause-few : goal.trail_by-requires-clause-few
trail_by-requires-clause-few g c = c.requires.few

pub image_of_unit-requires-clause-fits : goal.image_of_unit-requires-clause-fits
image_of_unit-requires-clause-fits g c = c.in_ok-program.ensures.fits

pub image_of_unit-requires-clause-laws : goal.image_of_unit-requires-clause-laws
image_of_unit-requires-clause-laws g c = c.in_ok-program.ensures.laws

pub image_of_unit-requires-clause-names : goal.image_of_unit-requires-clause-names
image_of_unit-requires-clause-names g c = c.in_ok-program.ensures.names

pub image_of_unit-requires-clause-spots : goal.image_of_unit-requires-clause-spots
image_of_unit-requires-clause-spots g c = c.in_ok-program.ensures.spots

pub image_of_unit-requires-clause-kept : goal.image_of_unit-requires-clause-kept
image_of_unit-requires-clause-kept g c =
    let p = program_view c.in_ok-program.program in
    let u = unit_view c.index.result.now in
    let within : length c.args.list.now < length c.in_ok-trail.trail.units.items = let count = c.in_ok-trail.ensures.count in omega (arith, count) in
    let comes = last_holds (λ v. ComesOfForms (λ p. (goal.Pass-dyn g (p.vtable, p.value)).named p.value) (λ p. ((goal.Pass-dyn g (p.vtable, p.value)).steps p.value).leads) c.args.passes.now (map letters c.args.list.now) p v) c.in_ok-trail.trail.units.items (length c.args.list.now) c.index.result.now within c.index.ensures c.in_ok-trail.ensures.comes in
    record { first = comes.first; last = u; built = comes.built; keeps = comes.keeps; same = refl }

pub image_of_unit-requires-clause-valid : goal.image_of_unit-requires-clause-valid
unfolding image_of_unit-requires-clause-kept
image_of_unit-requires-clause-valid g c = (image_of_unit-requires-clause-kept g c).keeps.still_marked.valid

pub image_of_unit-requires-clause-marked : goal.image_of_unit-requires-clause-marked
unfolding image_of_unit-requires-clause-kept
image_of_unit-requires-clause-marked g c = (image_of_unit-requires-clause-kept g c).keeps.still_marked

pub image_of_unit-requires-clause-shape : goal.image_of_unit-requires-clause-shape
image_of_unit-requires-clause-shape g c =
    let within : length c.args.list.now < length c.in_ok-trail.trail.units.items = let count = c.in_ok-trail.ensures.count in omega (arith, count) in
    last_holds (λ v. HasShapeOf (program_view c.in_ok-program.program) v) c.in_ok-trail.trail.units.items (length c.args.list.now) c.index.result.now within c.index.ensures c.in_ok-trail.ensures.shape

pub image_of_unit-requires-clause-told : goal.image_of_unit-requires-clause-told
image_of_unit-requires-clause-told g c =
    let p = program_view c.in_ok-program.program in
    let within : length c.args.list.now < length c.in_ok-trail.trail.units.items = let count = c.in_ok-trail.ensures.count in omega (arith, count) in
    let comes = last_holds (λ v. ComesOfForms (λ p. (goal.Pass-dyn g (p.vtable, p.value)).named p.value) (λ p. ((goal.Pass-dyn g (p.vtable, p.value)).steps p.value).leads) c.args.passes.now (map letters c.args.list.now) p v) c.in_ok-trail.trail.units.items (length c.args.list.now) c.index.result.now within c.index.ensures c.in_ok-trail.ensures.comes in
    trail_told (λ p. (goal.Pass-dyn g (p.vtable, p.value)).named p.value) (λ p. ((goal.Pass-dyn g (p.vtable, p.value)).steps p.value).leads) c.args.passes.now p (map letters c.args.list.now) (unit_view c.index.result.now) c.in_ok-program.ensures.laws c.requires.spelled comes

pub image_of_unit-requires-clause-few : goal.image_of_unit-requires-clause-few
image_of_unit-requires-clause-few g c =
    let within : length c.args.list.now < length c.in_ok-trail.trail.units.items = let count = c.in_ok-trail.ensures.count in omega (arith, count) in
    last_holds (λ v. length v.log ≤ 32000000) c.in_ok-trail.trail.units.items (length c.args.list.now) c.index.result.now within c.index.ensures c.in_ok-trail.ensures.few_changes

pub image_of_unit-requires-clause-built : goal.image_of_unit-requires-clause-built
image_of_unit-requires-clause-built g c =
    let within : length c.args.list.now < length c.in_ok-trail.trail.units.items = let count = c.in_ok-trail.ensures.count in omega (arith, count) in
    λ none. last_holds (λ v. IsBuilt (program_view c.in_ok-program.program) v) c.in_ok-trail.trail.units.items (length c.args.list.now) c.index.result.now within c.index.ensures (c.in_ok-trail.ensures.built none)

pub returns-clause-program : goal.returns-clause-program
returns-clause-program g c = c.in_ok-program.ensures.program ∙ ap Ok (sym c.in_ok-made.ensures.program)

pub returns-clause-first : goal.returns-clause-first
returns-clause-first g c = subst (λ p. IsSomeAnd (slice_get (map unit_view c.in_ok-trail.trail.units.items) 0) (IsBuilt p)) (sym c.in_ok-made.ensures.program) c.in_ok-trail.ensures.first

pub returns-clause-homed : goal.returns-clause-homed
returns-clause-homed g c =
    let is = c.in_ok-made.ensures in
    let within : length c.args.list.now < length c.in_ok-trail.trail.units.items = let count = c.in_ok-trail.ensures.count in omega (arith, count) in
    holds_last (λ u. HasHomesOf c.args.mode u (homed_view c.in_ok-made.made.homed)) c.in_ok-trail.trail.units.items (length c.args.list.now) c.index.result.now within c.index.ensures
    (record { same = is.unit; changes = is.changes; homed = is.homed })

pub returns-clause-made : goal.returns-clause-made
returns-clause-made g c = subst (λ p. IsMadeOf p (homed_view c.in_ok-made.made.homed) (form c.in_ok-made.made.image)) (sym c.in_ok-made.ensures.program) (carried _ _ _ c.in_ok-made.ensures.made)

pub returns-clause-rules : goal.returns-clause-rules
returns-clause-rules g c = c.in_ok-made.ensures.image

pub returns-clause-image : goal.returns-clause-image
returns-clause-image g c =
    let p = program_view c.in_ok-program.program in
    let h = homed_view c.in_ok-made.made.homed in
    let m = form c.in_ok-made.made.image in
    let is = c.in_ok-made.ensures in
    let within : length c.args.list.now < length c.in_ok-trail.trail.units.items = let count = c.in_ok-trail.ensures.count in omega (arith, count) in
    let last = last_holds (λ v. ComesOfForms (λ p. (goal.Pass-dyn g (p.vtable, p.value)).named p.value) (λ p. ((goal.Pass-dyn g (p.vtable, p.value)).steps p.value).leads) c.args.passes.now (map letters c.args.list.now) p v) c.in_ok-trail.trail.units.items (length c.args.list.now) c.index.result.now within c.index.ensures c.in_ok-trail.ensures.comes in
    let homed : ComesHomedForms (λ p. (goal.Pass-dyn g (p.vtable, p.value)).named p.value) (λ p. ((goal.Pass-dyn g (p.vtable, p.value)).steps p.value).leads) c.args.passes.now (map letters c.args.list.now) p h = record { unit = unit_view c.index.result.now; comes = last; same = is.unit; changes = is.changes } in
    let kept : IsKeptOf p h.unit = kept_behind (λ p. (goal.Pass-dyn g (p.vtable, p.value)).named p.value) (λ p. ((goal.Pass-dyn g (p.vtable, p.value)).steps p.value).leads) c.args.passes.now (map letters c.args.list.now) p h homed in
    let comes : ComesOfProgram (λ p. (goal.Pass-dyn g (p.vtable, p.value)).named p.value) (λ p. ((goal.Pass-dyn g (p.vtable, p.value)).steps p.value).leads) c.args.passes.now p (map letters c.args.list.now) c.args.mode m = record { homed = h; homes = is.homed; made = carried p h m is.made; comes = homed_of_forms (λ p. (goal.Pass-dyn g (p.vtable, p.value)).named p.value) (λ p. ((goal.Pass-dyn g (p.vtable, p.value)).steps p.value).leads) c.args.passes.now (map letters c.args.list.now) p c.in_ok-program.ensures.laws h homed; explains = explains_all p h m is.made is.image is.tables (kept_variables p h.unit kept c.in_ok-program.ensures.laws) } in
    record {
      understood = record { program = p; program_is = c.in_ok-program.ensures.program };
      image = read_back m is.image;
      truthful = truthful_by c.args.text.now (map letters c.args.list.now) c.args.mode p m c.in_ok-program.ensures.program
          (runs_true c.args.mode p h m c.in_ok-program.ensures.laws is.homed is.made is.tables is.image kept c.in_ok-program.ensures.names)
          (λ none slots. is.shows (none_named c.args.list.now none) slots) is.tables comes;
    }

pub returns-in_err-program-clause-reason : goal.returns-in_err-program-clause-reason
returns-in_err-program-clause-reason g c =
    let p = err_from_is_err_and c.from_residual.result c.from_residual.ensures.1 in
    rw (p.1, p.2) (source_reason (λ p. (goal.Pass-dyn g (p.vtable, p.value)).named p.value) c.args.passes.now c.args.text.now c.args.list.now _ c.in_err-program.ensures.reason)

pub returns-in_err-trail-clause-reason : goal.returns-in_err-trail-clause-reason
returns-in_err-trail-clause-reason g c =
    let p = err_from_is_err_and c.from_residual-in_err-trail.result c.from_residual-in_err-trail.ensures.1 in
    rw (p.1, p.2) (list_reason (λ p. (goal.Pass-dyn g (p.vtable, p.value)).named p.value) c.args.passes.now c.args.text.now c.args.list.now (record { program = program_view c.in_ok-program.program; program_is = c.in_ok-program.ensures.program }) _ c.in_err-trail.ensures.reason)
