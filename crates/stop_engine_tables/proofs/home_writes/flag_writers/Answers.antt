use Rattle.std.proofs.lemmas.Option.{get_or_from_slice_get, slice_get_within}
use Rattle.image_form.specs.Views.{viewed}
use Rattle.stop_engine_tables.proofs.HomeWords.{owner_there}
use Rattle.stop_engine_tables.proofs.home_writes.flag_writers.Goals as goal

pub function_at-function-requires : goal.function_at-function-requires
function_at-function-requires c = owner_there (viewed c.args.image.now) c.args.variable c.variable_at-kept.result c.in-Some.number c.requires.image c.variable_at-kept.ensures c.in-Some.is

pub flag_writing-requires-clause-function : goal.flag_writing-requires-clause-function
flag_writing-requires-clause-function c =
    let m = viewed c.args.image.now in
    let f = c.function_at-function.result in
    (c.in-Some.number, slice_get_within m.functions c.in-Some.number f c.function_at-function.ensures, get_or_from_slice_get m.functions c.in-Some.number f f c.function_at-function.ensures)
