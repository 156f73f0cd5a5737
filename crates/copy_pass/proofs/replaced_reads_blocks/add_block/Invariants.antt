use Rattle.std.proofs.Common.{◌≡◌, map, take}
use Rattle.graph_core.specs.Graphs.{block_view, instruction_view, scalar_view}
use Rattle.graph_core.specs.Validity.{place_behind}
use Rattle.pass_law.specs.Changes.{Adds, Below}
use Rattle.copy_pass.specs.Points.{IsReplacedIn, placed}
use Rattle.copy_pass.proofs.Instructions.{index_of}
use Rattle.copy_pass.proofs.replaced_reads_blocks.add_block.Given as goal

abbrev pub invariant-loop-index : goal.invariant-loop-index
invariant-loop-index l = record {
  stood : placed l.stood ≡ place_behind (take l.index (map instruction_view l.was.instructions.items)) (placed l.was.place);
  stands : placed l.stands ≡ place_behind (take l.index (map instruction_view l.is.instructions.items)) (placed l.is.place);
  added : Adds (Below (IsReplacedIn (map scalar_view l.scalars) l.number (block_view l.was) (block_view l.is)) index_of l.index) l.fn.cases.items l.cases.items;
}
