use Rattle.std.proofs.Common.{◌∙◌, None, sym, ap}
use Rattle.std.specs.Prelude.{slice_get}
use Rattle.std.specs.Option.{option_map_or}
use Rattle.image_form.specs.Views.{viewed}
use Rattle.stop_engine.proofs.Called.{called-first, called-there}
use Rattle.stop_engine.proofs.breaks.function_called.Goals as goal

pub function_at-requires : goal.function_at-requires
function_at-requires c =
    let m = viewed c.args.image.now in
    called-there m c.args.name.now c.in-Some.number.now (sym (c.in-Some.ensures.value ∙ c.requires c.args.name.now))

pub returns-in-Some : goal.returns-in-Some
returns-in-Some c =
    let m = viewed c.args.image.now in
    sym c.function_at.ensures ∙ sym (called-first m c.args.name.now ∙ ap (λ o. option_map_or (slice_get m.functions) o None) (sym (c.in-Some.ensures.value ∙ c.requires c.args.name.now)))

pub returns-in-None : goal.returns-in-None
returns-in-None c =
    let m = viewed c.args.image.now in
    sym (called-first m c.args.name.now ∙ ap (λ o. option_map_or (slice_get m.functions) o None) (sym (c.in-None.ensures.value ∙ c.requires c.args.name.now)))
