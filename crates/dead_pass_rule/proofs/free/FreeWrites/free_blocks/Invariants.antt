use Rattle.std.proofs.Common.{◌≡◌, ℕ, ◌<◌, Some, length, map}
use Rattle.std.specs.Prelude.{slice_get}
use Rattle.graph_core.specs.Graphs.{Block, block_view, graph_view}
use Rattle.dead_pass_rule.specs.Free.{AreFreeOnce}
use Rattle.dead_pass_rule.proofs.free.FreeWrites.free_blocks.Given as goal

abbrev pub invariant-loop-block : goal.invariant-loop-block
invariant-loop-block l = record {
  count : length l.told.items ≡ l.block-index;
  are : (n : ℕ) (b : Block) → n < l.block-index → slice_get (map block_view l.blocks) n ≡ Some b → AreFreeOnce l.self.flow.now.assignments.items (graph_view l.self.graph.now) b (slice_get l.told.items n);
}
