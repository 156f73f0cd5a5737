use Rattle.std.proofs.Common.{◌∙◌, ap, take}
use Rattle.image_form_sections.specs.Layouts.{rows_in}
use Rattle.image_form.proofs.NamesGot.{name_there}
use Rattle.image_form.proofs.name_lookup.name_in.Goals as goal

pub returns : goal.returns
returns c =
    let rest = c.behind_names-rest.result.now in
    c.front.ensures ∙ ap (λ n. take n rest) c.number.ensures ∙ name_there (rows_in c.args.table.now) c.args.row c.args.bytes.now rest c.behind_names-rest.ensures
