use Rattle.std.proofs.Common.{◌≡◌, ◌<◌, Some, length, map, sym, ap, ◌∙◌, arith}
use Rattle.std.specs.Prelude.{slice_get}
use Rattle.std.proofs.lemmas.List.{length-map}
use Rattle.graph_core.specs.declared.block.Block as declared-block
use Rattle.graph_core.specs.Graphs.{block_view}
use Rattle.graph_paths.specs.PathMarksTable.{bits_of}
use Rattle.graph_paths.proofs.Leading.{block_there}
use Rattle.graph_solve_live.specs.Flowing.{is_live_at_some, is_live_at_start}
use Rattle.graph_solve_live.proofs.flow.LivingTransfer.pass.Goals as goal

pub returns-clause-passed : goal.returns-clause-passed
returns-clause-passed c =
    let all = c.args.self.now.all.now in
    let count : length (map block_view all) ≡ length all = length-map all block_view in
    let within : c.args.block < length all = omega (arith, c.requires.block, count) in
    let b = c.index-self-block.result in
    let at : slice_get (map block_view all) c.args.block ≡ Some (block_view b) = block_there block_view all c.args.block b within c.index-self-block.is in
    λ x lt. c.in_ok-pass_back.ensures.walk x lt
    ∙ ap (λ (d : declared-block.Block). is_live_at_start x (block_view d) (bits_of c.args.rows.now c.args.row x)) (sym c.index-self-block.is)
    ∙ ap (λ o. is_live_at_some x o (bits_of c.args.rows.now c.args.row x)) (sym at)
