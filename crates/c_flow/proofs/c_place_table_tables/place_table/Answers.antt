use Rattle.std.proofs.Common.{map, ap, ◌∙◌}
use Rattle.c_tree.specs.Programs.{program_view}
use Rattle.c_places.specs.Places.{place_view}
use Rattle.c_flow.proofs.CPlaceTableFitting.{functions_fit}
use Rattle.c_flow.proofs.c_place_table_tables.place_table.Goals as goal

pub table_of-requires-clause-functions : goal.table_of-requires-clause-functions
table_of-requires-clause-functions c = functions_fit c.deref.result.now (program_view c.args.program.now) (ap (map place_view) c.deref.ensures.value ∙ c.in_ok-places.ensures) c.requires.functions
