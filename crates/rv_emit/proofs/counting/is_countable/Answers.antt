use Rattle.std.proofs.Common.{◌≡◌, ◌-◌, ◌^◌, ◌∙◌, List, ap, length, map, min, rules}
use Rattle.graph_core.specs.declared.block.Block as declared-block
use Rattle.graph_core.specs.Graphs.{Block, block_view, graph_view}
use Rattle.graph_core.specs.Validity.{total}
use Rattle.rv_emit_runs.specs.Told.{instructions_before}
use Rattle.rv_emit.proofs.Counted.{all_before}
use Rattle.rv_emit.proofs.counting.is_countable.Goals as goal

pub returns : goal.returns
returns c =
    let blocks : List Block = (graph_view c.args.graph.now).blocks in
    let counted : c.instruction_count.result ≡ min (instructions_before blocks (length blocks)) (2 ^ 64 - 1) =
    c.instruction_count.ensures ∙ ap (λ (bs : List declared-block.Block). min (total (λ (b : Block). length b.instructions) (map block_view bs)) (2 ^ 64 - 1)) c.deref.ensures.value
    ∙ ap (λ n. min n (2 ^ 64 - 1)) (all_before blocks) in
    search (rules, counted)
