use Rattle.std.proofs.Common.{◌≡◌, map, take}
use Rattle.graph_core.specs.Graphs.{block_view, instruction_view, scalar_view}
use Rattle.graph_core.specs.Validity.{place_behind}
use Rattle.pass_law.specs.Changes.{Adds, Below}
use Rattle.dead_pass_rule.specs.Asking.{is_going}
use Rattle.dead_pass_rule.specs.Walks.{turn_of}
use Rattle.dead_pass_notes.specs.Points.{IsRemovedIn, placed}
use Rattle.dead_pass_notes.proofs.Instructions.{index_of}
use Rattle.dead_pass_notes.proofs.blocks.add_block.Given as goal

abbrev pub invariant-loop-index : goal.invariant-loop-index
invariant-loop-index l = record {
  place : placed l.place ≡ place_behind (take l.index (map instruction_view l.block.instructions.items)) (placed l.block.place);
  added : Adds (Below (IsRemovedIn (map scalar_view l.scalars) (is_going (turn_of l.turns) l.number) l.number (block_view l.block)) index_of l.index) l.fn.cases.items l.cases.items;
}
