use Rattle.std.proofs.Common.{◌^◌, ◌-◌, List, map, min, ap, ◌∙◌}
use Rattle.graph_core.specs.declared.block.Block as declared-block
use Rattle.graph_core.specs.Graphs.{Block, block_view}
use Rattle.graph_core.specs.Validity.{counts, total}
use Rattle.motion_pass.proofs.bounds.counted_of.Goals as goal

pub returns : goal.returns
returns c = c.counted_along.ensures ∙ ap (λ (bs : List declared-block.Block). min (total (λ (b : Block). total counts b.instructions) (map block_view bs)) (2 ^ 64 - 1)) c.deref.ensures.value
