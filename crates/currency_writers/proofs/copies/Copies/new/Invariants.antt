use Rattle.std.proofs.Common.{◌≡◌, ℕ, ◌<◌, length, map, take}
use Rattle.graph_core.specs.Graphs.{block_view}
use Rattle.graph_homes.specs.Reused.{first_copy}
use Rattle.currency_writers.specs.Copies.{copies_to, first_of}
use Rattle.currency_writers.proofs.copies.Copies.new.Given as goal

abbrev pub invariant-loop-block : goal.invariant-loop-block
invariant-loop-block l = record {
  graph : l.copies.graph.now ≡ l.graph;
  count : length l.copies.by_target.items ≡ length l.graph.scalars.items;
  first : (p x : ℕ) → x < length l.copies.by_target.items → first_of (copies_to l.copies.by_target.items x) p ≡ first_copy p x (take l.block-index (map block_view l.graph.blocks.items));
}
