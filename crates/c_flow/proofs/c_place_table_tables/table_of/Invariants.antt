use Rattle.std.proofs.Common.{◌≡◌, map, take}
use Rattle.c_tree.specs.Programs.{program_view}
use Rattle.c_places.specs.Places.{place_view}
use Rattle.c_flow.specs.Rows.{flow_row, row_view}
use Rattle.c_flow.proofs.c_place_table_tables.table_of.Given as goal

abbrev pub invariant-loop-place : goal.invariant-loop-place
invariant-loop-place l = map row_view l.rows.items ≡ map (flow_row (program_view l.program)) (map place_view (take l.place-index l.places))
