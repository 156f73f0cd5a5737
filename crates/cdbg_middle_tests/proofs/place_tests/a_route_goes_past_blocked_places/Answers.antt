use Rattle.cdbg_middle_tests.proofs.InOrder.{by_two}
use Rattle.cdbg_middle_tests.proofs.place_tests.a_route_goes_past_blocked_places.Goals as goal

pub route_past-requires : goal.route_past-requires
route_past-requires g c = by_two
