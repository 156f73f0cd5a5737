use Rattle.std.proofs.Common.{◌≡◌, ◌≤◌, ◌-◌, ◌^◌, ◌∙◌, List, true, false, map, min, ap, arith}
use Rattle.graph_core.specs.declared.block.Block as declared-block
use Rattle.graph_core.specs.declared.validity.Counted.TheVariants.{Instructions}
use Rattle.graph_core.specs.Graphs.{block_view, graph_view, unit_view}
use Rattle.graph_core.specs.Bounds.{most_instructions_of_function}
use Rattle.graph_core.specs.Counts.{count_in_blocks}
use Rattle.graph_core.specs.Validity.{IsGraph}
use Rattle.graph_core.proofs.validity.is_graph.Goals as goal

pub returns-then-count_in_blocks-gt-MAX_FUNCTION_INSTRUCTIONS : goal.returns-then-count_in_blocks-gt-MAX_FUNCTION_INSTRUCTIONS
returns-then-count_in_blocks-gt-MAX_FUNCTION_INSTRUCTIONS c =
    let u = unit_view c.args.unit.now in
    let g = graph_view c.args.graph.now in
    let same : c.count_in_blocks.result ≡ min (count_in_blocks Instructions g.blocks) (2 ^ 64 - 1) =
    c.count_in_blocks.ensures ∙ ap (λ (all : List declared-block.Block). min (count_in_blocks Instructions (map block_view all)) (2 ^ 64 - 1)) c.deref.ensures.value in
    let over : IsGraph u g → ⊥ = λ (h : IsGraph u g). (let few : count_in_blocks Instructions g.blocks ≤ most_instructions_of_function = h.instructions in omega (arith, few, same)) in
    (λ (t : false ≡ true). cc, λ (h : IsGraph u g). absurd (over h))
