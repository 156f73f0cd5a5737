use Rattle.std.proofs.Common.{◌≡◌, length, map}
use Rattle.std.specs.List.{list_any}
use Rattle.graph_core.specs.Graphs.{Block, block_view}
use Rattle.graph_homes.specs.Frames.{writes_register}
use Rattle.rv_emit_storage.specs.Kept.{home_in}
use Rattle.rv_emit_storage.proofs.frame.blocks_write.Given as goal

abbrev pub invariant-loop-left : goal.invariant-loop-left
invariant-loop-left l =
    list_any (λ (b : Block). list_any (writes_register (home_in l.fn.homes) l.fn.register) b.instructions) (map block_view l.left)
    ≡ list_any (λ (b : Block). list_any (writes_register (home_in l.fn.homes) l.fn.register) b.instructions) (map block_view l.fn.blocks)

abbrev pub decreases-loop-left : goal.decreases-loop-left
decreases-loop-left l = length l.left
