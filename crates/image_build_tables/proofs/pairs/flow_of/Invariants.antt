use Rattle.std.proofs.Common.{◌≡◌, map, take}
use Rattle.image_build_tables.specs.Tables.{flow_pair}
use Rattle.image_build_tables.proofs.pairs.flow_of.Given as goal

abbrev pub invariant-loop-step : goal.invariant-loop-step
invariant-loop-step l = l.pairs.items ≡ map flow_pair (take l.step-index l.steps)
