use Rattle.std.proofs.Common.{arith}
use Rattle.std.proofs.lemmas.List.{length-map}
use Rattle.graph_core.specs.Graphs.{block_view, graph_view}
use Rattle.motion_pass.proofs.Within.{blocks_with, instructions_with}
use Rattle.motion_pass.proofs.bounds.Amount.with.Goals as goal

pub returns-clause-instructions : goal.returns-clause-instructions
returns-clause-instructions c = λ before behind is.
    instructions_with c.args.self before behind (graph_view c.args.graph.now) (graph_view c.args.moved.now) is c.counted_of-was.result c.counted_of-own.result c.saturating_add-instructions.result c.counted_of-was.ensures c.counted_of-own.ensures (omega arith)
    (omega (arith, c.saturating_sub-rest.ensures, c.saturating_add-instructions.ensures))

pub returns-clause-blocks : goal.returns-clause-blocks
returns-clause-blocks c = λ before behind is.
    (let old = length-map c.args.graph.now.blocks.items block_view in
    let new = length-map c.args.moved.now.blocks.items block_view in
    blocks_with c.args.self before behind (graph_view c.args.graph.now) (graph_view c.args.moved.now) is c.saturating_add-blocks.result (omega arith)
    (omega (arith, old, new, c.len.ensures, c.len-2.ensures, c.saturating_sub-others.ensures, c.saturating_add-blocks.ensures)))
