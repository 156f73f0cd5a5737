use Rattle.std.proofs.Common.{◌≡◌, map, take}
use Rattle.graph_core.specs.Graphs.{instruction_view}
use Rattle.graph_core.specs.Validity.{place_behind}
use Rattle.motion_pass.specs.Placing.{placed}
use Rattle.motion_pass.proofs.moving.end_place.Given as goal

abbrev pub invariant-loop-index : goal.invariant-loop-index
invariant-loop-index l = placed l.place ≡ place_behind (take l.index (map instruction_view l.block.instructions.items)) (placed l.block.place)
