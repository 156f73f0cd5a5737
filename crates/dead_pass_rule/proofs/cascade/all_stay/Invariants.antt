use Rattle.std.proofs.Common.{◌≡◌, ℕ, ◌<◌, Some, length, map}
use Rattle.std.specs.Prelude.{slice_get, slice_index_or}
use Rattle.std.specs.declared.vec.Vec.{Vec}
use Rattle.std.specs.declared.alloc.Global.{Global}
use Rattle.graph_core.specs.Graphs.{Block, block_view}
use Rattle.dead_pass_rule.specs.Cascade.{HasRow}
use Rattle.dead_pass_rule.proofs.cascade.all_stay.Given as goal

abbrev pub invariant-loop-block : goal.invariant-loop-block
invariant-loop-block l = record {
  count : length l.turns.items ≡ l.block-index;
  rows : (n : ℕ) (b : Block) → n < l.block-index → slice_get (map block_view l.blocks) n ≡ Some b → HasRow (slice_get l.turns.items n) b;
  zero : (n : ℕ) (row : Vec ℕ Global) → slice_get l.turns.items n ≡ Some row → (left : ℕ) → slice_index_or row.items left 0 ≡ 0;
}
