use Rattle.std.proofs.Common.{◌≡◌, length, map}
use Rattle.std.specs.List.{list_any}
use Rattle.graph_core.specs.Graphs.{instruction_view}
use Rattle.graph_homes.specs.Frames.{writes_register}
use Rattle.rv_emit_storage.specs.Kept.{home_in}
use Rattle.rv_emit_storage.proofs.frame.block_writes.Given as goal

abbrev pub invariant-loop-left : goal.invariant-loop-left
invariant-loop-left l = list_any (writes_register (home_in l.fn.homes) l.fn.register) (map instruction_view l.left) ≡ list_any (writes_register (home_in l.fn.homes) l.fn.register) (map instruction_view l.fn.instructions)

abbrev pub decreases-loop-left : goal.decreases-loop-left
decreases-loop-left l = length l.left
