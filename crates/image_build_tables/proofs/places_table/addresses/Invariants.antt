use Rattle.std.proofs.Common.{◌≡◌, length}
use Rattle.image_build_tables.specs.Places.{put_stops, stop_addresses}
use Rattle.image_build_tables.proofs.places_table.addresses.Given as goal

abbrev pub invariant-loop-left : goal.invariant-loop-left
invariant-loop-left l = put_stops l.left l.addresses.items ≡ stop_addresses l.stops l.count

abbrev pub decreases-loop-left : goal.decreases-loop-left
decreases-loop-left l = length l.left
