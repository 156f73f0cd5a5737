use Rattle.std.proofs.Common.{◌≡◌, ◌+◌, ◌++◌, ◌<◌, ◌^◌, length, map}
use Rattle.rv_emit_tables.specs.declared.emitted.EmittedFunction.{EmittedFunction}
use Rattle.rv_emit_tables.specs.Emitted.{function_view}
use Rattle.image_build_tables.specs.Places.{address, addresses_from, addresses_of}
use Rattle.image_build_tables.specs.Tables.{spot, spot_of_row}
use Rattle.image_build_tables.proofs.places_table.places_of.Given as goal

abbrev pub invariant-loop-left : goal.invariant-loop-left
invariant-loop-left l = record {
  few : l.number + length l.left < 2 ^ 32;
  spots : map spot l.places.items ++ map spot_of_row l.left ≡ map spot_of_row l.rows;
  addresses : map address l.places.items ++ addresses_from l.number (map (λ (c : EmittedFunction). c.first) l.code) l.addresses.items l.left ≡ addresses_of (map function_view l.code) l.stops l.rows;
}

abbrev pub decreases-loop-left : goal.decreases-loop-left
decreases-loop-left l = length l.left
