use Rattle.std.proofs.Common.{◌∙◌, ap, drop}
use Rattle.image_form_sections.specs.Layouts.{rows_in}
use Rattle.image_form.proofs.NamesGot.{behind_next}
use Rattle.image_form.proofs.name_lookup.behind_names.Goals as goal

pub loop-row-preserved : goal.loop-row-preserved
loop-row-preserved c =
    let rows = rows_in c.args.table.now in
    c.behind-rest.ensures ∙ ap (λ n. drop n c.loop-row.rest.now) c.number.ensures ∙ behind_next rows c.loop-row.row c.args.bytes.now c.loop-row.rest.now c.loop-row.invariant
