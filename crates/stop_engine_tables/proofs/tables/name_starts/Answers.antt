use Rattle.std.proofs.Common.{◌≡◌, sum, ap, ◌∙◌, arith}
use Rattle.image_form.specs.Names.{function_name_lengths, pass_name_lengths, variable_name_lengths}
use Rattle.image_form.specs.Views.{viewed}
use Rattle.stop_engine_tables.proofs.NameBounds.{function_names-within, names-fit, pass_names-within, variable_names-within}
use Rattle.stop_engine_tables.proofs.tables.name_starts.Goals as goal

pub total-variables_from-requires : goal.total-variables_from-requires
total-variables_from-requires c =
    let m = viewed c.args.image.now in
    let functions : c.deref.result.now ≡ function_name_lengths m = c.deref.ensures.value ∙ c.in_ok-of_functions.ensures in
    omega (arith, ap sum functions, function_names-within m c.requires, names-fit m c.requires)

pub total-requires : goal.total-requires
total-requires c =
    let m = viewed c.args.image.now in
    let variables : c.deref-2.result.now ≡ variable_name_lengths m = c.deref-2.ensures.value ∙ c.in_ok-of_variables.ensures in
    omega (arith, ap sum variables, variable_names-within m c.requires, names-fit m c.requires)

pub overflow_add-passes_from : goal.overflow_add-passes_from
overflow_add-passes_from c =
    let m = viewed c.args.image.now in
    let functions : c.deref.result.now ≡ function_name_lengths m = c.deref.ensures.value ∙ c.in_ok-of_functions.ensures in
    let variables : c.deref-2.result.now ≡ variable_name_lengths m = c.deref-2.ensures.value ∙ c.in_ok-of_variables.ensures in
    omega (arith, c.total-variables_from.ensures, c.total.ensures, ap sum functions, ap sum variables, variable_names-within m c.requires, names-fit m c.requires)

pub starts_of-requires-2 : goal.starts_of-requires-2
starts_of-requires-2 c =
    let m = viewed c.args.image.now in
    let functions : c.deref.result.now ≡ function_name_lengths m = c.deref.ensures.value ∙ c.in_ok-of_functions.ensures in
    let variables : c.deref-4.result.now ≡ variable_name_lengths m = c.deref-4.ensures.value ∙ c.in_ok-of_variables.ensures in
    omega (arith, c.total-variables_from.ensures, ap sum functions, ap sum variables, variable_names-within m c.requires, names-fit m c.requires)

pub starts_of-requires-3 : goal.starts_of-requires-3
starts_of-requires-3 c =
    let m = viewed c.args.image.now in
    let functions : c.deref.result.now ≡ function_name_lengths m = c.deref.ensures.value ∙ c.in_ok-of_functions.ensures in
    let variables : c.deref-2.result.now ≡ variable_name_lengths m = c.deref-2.ensures.value ∙ c.in_ok-of_variables.ensures in
    let passes : c.deref-5.result.now ≡ pass_name_lengths m = c.deref-5.ensures.value ∙ c.in_ok-of_passes.ensures in
    omega (arith, c.total-variables_from.ensures, c.total.ensures, ap sum functions, ap sum variables, ap sum passes, pass_names-within m c.requires, names-fit m c.requires)
