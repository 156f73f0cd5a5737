use Rattle.std.proofs.Common.{refl}
use Rattle.c_flow.proofs.laws.flows_are_worked.Goals as goal

pub returns : goal.returns
returns c = record {
  sums_flow = record { steps_are = refl; assignments_are = refl };
  empty_if_flows = record { steps_are = refl; assignments_are = refl };
  endless_flows = record { steps_are = refl; assignments_are = refl };
  falls_through_flows = record { steps_are = refl; assignments_are = refl };
  goes_on_flows = record { steps_are = refl; assignments_are = refl };
  two_functions_flow = record { steps_are = refl; assignments_are = refl };
}
