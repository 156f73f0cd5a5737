use Rattle.std.proofs.Common.{◌≡◌, map, take}
use Rattle.graph_core.specs.Graphs.{block_view, graph_view, instruction_view}
use Rattle.graph_core.specs.Validity.{place_behind}
use Rattle.pass_law.specs.Changes.{Adds, Below}
use Rattle.motion_pass.specs.Cases.{IsReadingIn}
use Rattle.motion_pass.specs.Placing.{placed}
use Rattle.motion_pass.proofs.Along.{index_of}
use Rattle.motion_pass.proofs.cases.add_block.Given as goal

abbrev pub invariant-loop-index : goal.invariant-loop-index
invariant-loop-index l = record {
  place : placed l.place ≡ place_behind (take l.index (map instruction_view l.block.instructions.items)) (placed l.block.place);
  added : Adds (Below (IsReadingIn (graph_view l.graph).scalars (graph_view l.graph).blocks l.number (block_view l.block)) index_of l.index) l.fn.cases.items l.cases.items;
}
