use Rattle.std.proofs.Common.{◌∙◌, ◌-◌, ◌<◌, length, arith}
use Rattle.image_form_sections.specs.Layouts.{rows_in}
use Rattle.image_form.proofs.NamesGot.{name_first, name_second, name_third}
use Rattle.image_form.proofs.lent.View.name.Goals as goal

pub returns-then-n-functions : goal.returns-then-n-functions
returns-then-n-functions c = c.name_in.ensures ∙ name_first c.args.self.now c.args.n (omega (arith, c.if-n-functions.true, c.len-functions.ensures.len))

pub returns-then-n-functions-2 : goal.returns-then-n-functions-2
returns-then-n-functions-2 c =
    let rest = c.behind_names-names.result.now in
    let low : c.args.n - c.len-functions.result < length (rows_in c.args.self.now.layout.variables) = omega (arith, c.if-n-functions-2.true, c.len-variables.ensures.len) in
    c.name_in-then-n-functions-2.ensures ∙ name_second c.args.self.now c.args.n c.len-functions.result rest c.len-functions.ensures.len c.if-n-functions.false low c.behind_names-names.ensures

pub returns : goal.returns
returns c =
    let a = c.len-functions.result in
    let b = c.len-variables.result in
    let rest = c.behind_names-names.result.now in
    let more = c.behind_names-names-2.result.now in
    c.name_in-2.ensures
    ∙ name_third c.args.self.now c.args.n a b rest more c.len-functions.ensures.len c.len-variables.ensures.len c.if-n-functions.false c.if-n-functions-2.false c.behind_names-names.ensures c.behind_names-names-2.ensures
