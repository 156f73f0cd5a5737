use Rattle.std.proofs.Common.{◌≤◌, arith, length, map, refl, subst, sym, ap, ◌∙◌}
use Rattle.std.proofs.lemmas.List.{length-map}
use Rattle.c_tree.specs.Programs.{automatic_view, program_view}
use Rattle.currency.specs.declared.verdict.PlaceVerdict.{PlaceVerdict}
use Rattle.graph_core.specs.Validity.{total}
use Rattle.graph_homes.specs.Homed.{homed_view}
use Rattle.image_form.specs.Form.{form}
use Rattle.image_build_tables.specs.Tables.{sight_of_verdict}
use Rattle.rv_emit_tables.specs.Emitted.{emitted_view}
use Rattle.image_build_tables.specs.Variables.{pass_names}
use Rattle.image_build_tables.specs.Rows.{AreNodesOf, AreRowsOf, AreShown, size_told, telling_of}
use Rattle.image_build.proofs.ImageEvidenceRows.{rows_evident}
use Rattle.image_build.specs.Made.{AreBorneOut}
use Rattle.image_build.proofs.Images.{is_image}
use Rattle.image_build.proofs.MadeAgain.{kept_each}
use Rattle.image_build.proofs.Owners.{all_owned}
use Rattle.image_build.proofs.Premises.{kept_in_order, kept_table}
use Rattle.image_build.proofs.QuietRows.{rows_quiet}
use Rattle.image_build.proofs.Plain.{shown_at, shows_all, tables_are}
use Rattle.image_build.proofs.Tables.{has_tables, rows_few}
use Rattle.image_build.proofs.Units.{entries_seen}
use Rattle.image_build.proofs.drafting.draft_of.Goals as goal

pub verdicts_on-requires-clause-plain : goal.verdicts_on-requires-clause-plain
verdicts_on-requires-clause-plain c =
    let few = rows_few (program_view c.args.program.now) c.in_ok-places.places.rows.items c.requires.fits c.in_ok-places.ensures in
    λ plain. shown_at (program_view c.args.program.now) (homed_view c.args.homed.now) c.in_ok-places.places c.requires.laws c.requires.marked.valid c.requires.shape (c.requires.plain plain) c.in_ok-places.ensures (omega (arith, few))

pub verdicts_on-requires-clause-marked : goal.verdicts_on-requires-clause-marked
verdicts_on-requires-clause-marked c = c.requires.marked

pub verdicts_on-requires-clause-flow : goal.verdicts_on-requires-clause-flow
verdicts_on-requires-clause-flow c = record { steps = refl; assignments = refl; in_order = kept_in_order (program_view c.args.program.now) (homed_view c.args.homed.now).unit c.requires.kept }

pub verdicts_on-requires-clause-table : goal.verdicts_on-requires-clause-table
verdicts_on-requires-clause-table c =
    let few = rows_few (program_view c.args.program.now) c.in_ok-places.places.rows.items c.requires.fits c.in_ok-places.ensures in
    kept_table (program_view c.args.program.now) c.requires.laws (homed_view c.args.homed.now).unit c.requires.kept c.requires.shape c.in_ok-places.places c.in_ok-places.ensures (omega (arith, few))

pub image_of-requires-clause-owned : goal.image_of-requires-clause-owned
image_of-requires-clause-owned c = all_owned (program_view c.args.program.now) c.requires.laws ∙ length-map c.args.program.now.automatics.items automatic_view

pub returns-clause-tables : goal.returns-clause-tables
returns-clause-tables c =
    let rows = c.in_ok-places.places.rows.items in
    let made = c.in_ok-image.ensures in
    let told = c.in_ok-verdicts.ensures.visible in
    has_tables (program_view c.args.program.now) (form c.in_ok-image.image) (homed_view c.args.homed.now).unit rows c.in_ok-verdicts.verdicts.items c.requires.shape c.requires.fits c.in_ok-places.ensures
    made.functions (made.entries ∙ entries_seen c.args.homed.now.unit.graphs.items) made.variables made.belonging (pass_names (homed_view c.args.homed.now).unit.log, made.names) made.places made.flow made.assigned (made.visible ∙ ap (map sight_of_verdict) c.deref.ensures.value) told

pub returns-clause-made : goal.returns-clause-made
returns-clause-made c =
    let h = homed_view c.args.homed.now in
    let rows = c.in_ok-places.places.rows.items in
    let made = c.in_ok-image.ensures in
    let image = c.in_ok-image.image in
    let emitted = emitted_view c.in_ok-emitted.emitted in
    let borne_out : AreBorneOut h c.in_ok-verdicts.verdicts.items = c.in_ok-verdicts.ensures.borne_out in
    λ few.
    let say : AreRowsOf (telling_of h rows emitted) image.nodes.items c.in_ok-verdicts.verdicts.items image.rows.items = subst (λ l. AreRowsOf (telling_of h rows emitted) image.nodes.items l image.rows.items) c.deref.ensures.value (made.rows few) in
    record {
      emitted = emitted;
      emits = c.in_ok-emitted.ensures.emits;
      parts = record {
        version = made.version;
        mode = made.mode;
        code = made.code;
        owners = made.owners;
        initial = made.initial;
        spans = made.spans;
        storages = kept_each h emitted _ image.variables.items made.storages;
        places = rows;
        places_are = c.in_ok-places.ensures;
        addresses = made.addresses;
        changes = made.changes;
        flow = made.flow;
        assigned = made.assigned;
        names = made.names;
        rows = record {
          told = c.in_ok-verdicts.verdicts.items;
          borne_out = borne_out;
          rows = image.rows.items;
          say = say;
          needed = subst (AreNodesOf (telling_of h rows emitted) image.nodes.items) c.deref.ensures.value (made.nodes few);
          same = refl;
        };
        evident = rows_evident h c.requires.marked.valid emitted c.in_ok-emitted.ensures.emits c.in_ok-emitted.ensures.countable borne_out.flow image.nodes.items rows c.in_ok-verdicts.verdicts.items image.rows.items borne_out.named borne_out.evident say;
        quiet = rows_quiet h c.requires.marked.valid emitted c.in_ok-emitted.ensures.emits borne_out.flow image.nodes.items rows c.in_ok-verdicts.verdicts.items image.rows.items borne_out.evident say;
      };
    }

pub verdicts_on-requires-clause-few : goal.verdicts_on-requires-clause-few
verdicts_on-requires-clause-few c = let few : length (homed_view c.args.homed.now).unit.log ≤ 33000000 = c.requires.told.few in omega (arith, few)

pub returns-clause-image : goal.returns-clause-image
returns-clause-image c =
    let p = program_view c.args.program.now in
    let h = homed_view c.args.homed.now in
    let rows = c.in_ok-places.places.rows.items in
    let made = c.in_ok-image.ensures in
    let image = c.in_ok-image.image in
    let emitted = emitted_view c.in_ok-emitted.emitted in
    is_image p h emitted rows (form image) c.in_ok-verdicts.verdicts.items c.requires.laws c.requires.names c.requires.spots c.requires.fits c.requires.marked.valid c.requires.homes c.requires.shape c.requires.kept c.requires.told
    c.in_ok-emitted.ensures.emits c.in_ok-emitted.ensures.coded c.in_ok-emitted.ensures.countable c.in_ok-emitted.ensures.few
    (tables_are p h emitted rows (form image) made.version made.code made.initial made.owners made.functions made.spans (made.entries ∙ entries_seen c.args.homed.now.unit.graphs.items) made.saved made.variables made.belonging (kept_each h emitted _ image.variables.items made.storages) made.names c.in_ok-places.ensures made.places made.addresses made.changes made.flow made.assigned made.calls made.members)
    c.tables_fit.ensures c.in_ok-verdicts.ensures.visible c.in_ok-verdicts.ensures.borne_out (made.visible ∙ ap (map sight_of_verdict) c.deref.ensures.value)
    (λ few. subst (λ l. AreRowsOf (telling_of h rows emitted) image.nodes.items l image.rows.items) c.deref.ensures.value (made.rows few))
    (λ few. subst (AreNodesOf (telling_of h rows emitted) image.nodes.items) c.deref.ensures.value (made.nodes few))
    made.once made.earlier
    (subst (λ l. length image.nodes.items ≤ total (λ (w : PlaceVerdict). size_told w.verdict) l) c.deref.ensures.value made.few)

pub returns-clause-shows : goal.returns-clause-shows
returns-clause-shows c =
    let p = program_view c.args.program.now in
    let h = homed_view c.args.homed.now in
    let rows = c.in_ok-places.places.rows.items in
    let made = c.in_ok-image.ensures in
    let image = c.in_ok-image.image in
    let emitted = emitted_view c.in_ok-emitted.emitted in
    λ plain.
    let shown = c.in_ok-verdicts.ensures.shown plain in
    let none = ap length (made.bare (subst AreShown (sym c.deref.ensures.value) shown)) in
    shows_all p h emitted rows (form image) (c.requires.plain plain) made.changes c.in_ok-verdicts.verdicts.items shown
    (subst (λ l. AreRowsOf (telling_of h rows emitted) image.nodes.items l image.rows.items) c.deref.ensures.value (made.rows (omega (arith, none))))

pub place_table-requires : goal.place_table-requires
place_table-requires c = c.requires.fits

pub image_of-requires-clause-places : goal.image_of-requires-clause-places
image_of-requires-clause-places c =
    let few = rows_few (program_view c.args.program.now) c.in_ok-places.places.rows.items c.requires.fits c.in_ok-places.ensures in
    omega (arith, few)

pub emit-requires-clause-valid : goal.emit-requires-clause-valid
emit-requires-clause-valid c = c.requires.marked.valid
