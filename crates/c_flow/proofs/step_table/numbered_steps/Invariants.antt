use Rattle.std.proofs.Common.{◌≡◌, map, take}
use Rattle.c_flow.specs.Tables.{step_between}
use Rattle.c_flow.proofs.step_table.numbered_steps.Given as goal

abbrev pub invariant-loop-edge : goal.invariant-loop-edge
invariant-loop-edge l = l.steps.items ≡ map (step_between l.positions) (take l.edge-index l.edges)
