use Rattle.std.proofs.Common.{◌≡◌, ap, subst, ◌∙◌}
use Rattle.std.specs.Prelude.{IfNone, IfSome}
use Rattle.c_tree.specs.Programs.{program_view}
use Rattle.graph_core.specs.Graphs.{UnitForm, unit_view}
use Rattle.graph_homes.specs.Homed.{homed_view}
use Rattle.image_form.specs.Form.{form}
use Rattle.image_form.specs.Rules.{IsImage}
use Rattle.image_form.specs.Spelling.{spelling}
use Rattle.image_form_drafts.specs.Same.{SaysTheSame}
use Rattle.image_build.proofs.MadeAgain.{made_again}
use Rattle.image_build.proofs.MoreLogged.{marked_logged}
use Rattle.image_build.proofs.Plain.{plain_of, shows_again}
use Rattle.image_build.proofs.Shares.{shares_logged}
use Rattle.image_build.proofs.Tables.{tables_again}
use Rattle.image_build.proofs.ToldTrails.{all_told}
use Rattle.image_build.proofs.Units.{log_only}
use Rattle.image_build.proofs.building.image_of_unit.Goals as goal

pub draft_of-requires-clause-fits : goal.draft_of-requires-clause-fits
draft_of-requires-clause-fits c = c.requires.fits

pub draft_of-requires-clause-laws : goal.draft_of-requires-clause-laws
draft_of-requires-clause-laws c = c.requires.laws

pub draft_of-requires-clause-names : goal.draft_of-requires-clause-names
draft_of-requires-clause-names c = c.requires.names

pub draft_of-requires-clause-spots : goal.draft_of-requires-clause-spots
draft_of-requires-clause-spots c = c.requires.spots

pub draft_of-requires-clause-shape : goal.draft_of-requires-clause-shape
draft_of-requires-clause-shape c = log_only (program_view c.args.program) (unit_view c.args.unit.now) (unit_view c.in_ok-homed.homed.unit) c.in_ok-homed.ensures.unit c.requires.shape

pub draft_of-requires-clause-kept : goal.draft_of-requires-clause-kept
draft_of-requires-clause-kept c =
    let kept = c.requires.kept in
    let log = (unit_view c.in_ok-homed.homed.unit).log in
    record { first = kept.first; last = kept.last; built = kept.built; keeps = kept.keeps; same = c.in_ok-homed.ensures.unit ∙ ap (λ (v : UnitForm). record v { log = log }) kept.same }

pub draft_of-requires-clause-marked : goal.draft_of-requires-clause-marked
draft_of-requires-clause-marked c =
    let is = c.in_ok-homed.ensures in
    marked_logged (unit_view c.args.unit.now) (homed_view c.in_ok-homed.homed).unit _ is.unit is.changes.log c.requires.marked

pub draft_of-requires-clause-shared : goal.draft_of-requires-clause-shared
draft_of-requires-clause-shared c =
    let is = c.in_ok-homed.ensures in
    shares_logged c.args.mode (unit_view c.args.unit.now) (homed_view c.in_ok-homed.homed) is.valid is.homes is.slots is.rule is.changes is.unit

pub draft_of-requires-clause-told : goal.draft_of-requires-clause-told
draft_of-requires-clause-told c =
    all_told (program_view c.args.program) c.requires.laws (unit_view c.args.unit.now) (homed_view c.in_ok-homed.homed) c.requires.kept c.requires.valid c.in_ok-homed.ensures.changes c.requires.told c.requires.few

pub draft_of-requires-clause-plain : goal.draft_of-requires-clause-plain
draft_of-requires-clause-plain c =
    let is = c.in_ok-homed.ensures in
    λ plain.
    let both = c.is_plain.ensures.plain plain in
    plain_of (program_view c.args.program) (unit_view c.args.unit.now) (homed_view c.in_ok-homed.homed) (c.requires.built both.0) is.unit is.changes (is.slots both.1)

pub unreachable-requires : goal.unreachable-requires
unreachable-requires c = subst (λ o. IfNone o (IsImage (form c.in_ok-draft.draft) → ⊥)) c.in_default.is c.in_ok-spelled.ensures.left_out c.in_ok-draft.ensures.image

pub returns-clause-image : goal.returns-clause-image
returns-clause-image c = subst (λ o. IfSome o (λ s. IsImage (form s.image))) c.in-Some.is c.in_ok-spelled.ensures.image

pub returns-clause-bytes : goal.returns-clause-bytes
returns-clause-bytes c = subst (λ o. IfSome o (λ s. s.bytes.items ≡ spelling (form s.image))) c.in-Some.is c.in_ok-spelled.ensures.bytes

pub returns-clause-tables : goal.returns-clause-tables
returns-clause-tables c =
    tables_again (program_view c.args.program) (form c.in_ok-draft.draft) (form c.in-Some.spelled.image)
    (subst (λ o. IfSome o (λ s. IsImage (form s.image))) c.in-Some.is c.in_ok-spelled.ensures.image)
    (subst (λ o. IfSome o (λ s. SaysTheSame (form c.in_ok-draft.draft) (form s.image))) c.in-Some.is c.in_ok-spelled.ensures.same)
    c.in_ok-draft.ensures.tables

pub returns-clause-made : goal.returns-clause-made
returns-clause-made c =
    made_again (program_view c.args.program) (homed_view c.in_ok-homed.homed) (form c.in_ok-draft.draft) (form c.in-Some.spelled.image)
    (subst (λ o. IfSome o (λ s. IsImage (form s.image))) c.in-Some.is c.in_ok-spelled.ensures.image)
    (subst (λ o. IfSome o (λ s. SaysTheSame (form c.in_ok-draft.draft) (form s.image))) c.in-Some.is c.in_ok-spelled.ensures.same)
    c.in_ok-draft.ensures.made

pub returns-clause-homed : goal.returns-clause-homed
returns-clause-homed c =
    let is = c.in_ok-homed.ensures in
    record { valid = is.valid; homes = is.homes; mode_is = is.mode; slots = is.slots; registers = is.rule; apart = is.apart }

pub returns-clause-shows : goal.returns-clause-shows
returns-clause-shows c = λ none slots.
    shows_again (form c.in_ok-draft.draft) (form c.in-Some.spelled.image)
    (subst (λ o. IfSome o (λ s. SaysTheSame (form c.in_ok-draft.draft) (form s.image))) c.in-Some.is c.in_ok-spelled.ensures.same)
    (c.in_ok-draft.ensures.shows (c.is_plain.ensures.so none slots))
