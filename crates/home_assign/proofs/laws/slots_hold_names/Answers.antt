use Rattle.home_assign.proofs.Slots.{slots_apart, slots_hold}
use Rattle.home_assign.proofs.laws.slots_hold_names.Goals as goal

pub returns : goal.returns
returns c = record { apart = slots_apart; hold = λ h d e slots same. slots_hold h slots d e same }
