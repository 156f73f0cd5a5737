use Rattle.std.proofs.Common.{List, map, length, ap, ◌∙◌}
use Rattle.c_tree.specs.Programs.{function_view, program_view}
use Rattle.graph_core.specs.declared.block.Block.{Block}
use Rattle.graph_core.specs.Graphs.{block_view}
use Rattle.graph_build.proofs.Graphs.{blocks_counted_by}
use Rattle.graph_build.proofs.function.block_count.Goals as goal

pub returns : goal.returns
returns c =
    blocks_counted_by (program_view c.args.source.now.program.now) (function_view c.args.function.now) c.args.is_main _ _ _ _ c.requires c.in_ok-form.ensures c.in_ok-blocks.ensures
    (c.in_ok-count.ensures ∙ ap (λ (bs : List Block). length (map block_view bs)) c.deref.ensures.value)
