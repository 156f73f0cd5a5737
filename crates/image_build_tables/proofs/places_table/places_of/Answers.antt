use Rattle.std.proofs.Common.{◌∙◌, ◌++◌, ap, arith, map}
use Rattle.rv_emit_tables.specs.declared.emitted.EmittedFunction.{EmittedFunction}
use Rattle.image_build_tables.specs.Places.{address, addresses_from}
use Rattle.image_build_tables.specs.Tables.{spot, spot_of_row}
use Rattle.image_build_tables.proofs.Counting.{places_begin}
use Rattle.image_build_tables.proofs.places_table.places_of.Goals as goal

pub loop-left-init : goal.loop-left-init
loop-left-init c =
    let rows = c.args.rows.now in
    let table = c.in_ok-addresses.addresses.items in
    let none = c.new-places.ensures.items in
    let few_rows = c.requires in
    record {
      few = omega (arith, few_rows);
      spots = ap (λ l. map spot l ++ map spot_of_row rows) none;
      addresses = ap (λ l. map address l ++ addresses_from 1 (map (λ (f : EmittedFunction). f.first) c.args.code.now) table rows) none ∙ places_begin c.args.code.now c.args.stops.now rows table c.in_ok-addresses.ensures;
    }
