use Rattle.home_assign.proofs.Stops.{recipe_shown}
use Rattle.home_assign.proofs.laws.stops_show_homes.Goals as goal

pub returns : goal.returns
returns c = recipe_shown
