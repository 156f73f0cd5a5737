use Rattle.home_assign.proofs.Whole.{leads_over_homes, shows_as_much}
use Rattle.home_assign.proofs.laws.names_lead_homes.Goals as goal

pub returns : goal.returns
returns c = record { leads = leads_over_homes; as_much = shows_as_much }
