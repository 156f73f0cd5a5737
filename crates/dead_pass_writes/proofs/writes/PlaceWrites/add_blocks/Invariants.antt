use Rattle.std.proofs.Common.{◌≡◌, ◌+◌, ℕ, length, map}
use Rattle.graph_core.specs.Graphs.{block_view}
use Rattle.dead_pass_writes.specs.Telling.{told, written_in}
use Rattle.dead_pass_writes.proofs.writes.PlaceWrites.add_blocks.Given as goal

abbrev pub invariant-loop-ahead : goal.invariant-loop-ahead
invariant-loop-ahead l = record {
  counted : l.number + length l.ahead ≡ length l.blocks;
  same : (p x : ℕ) → written_in p x (told l.self p x) l.number (map block_view l.ahead) ≡ written_in p x (told l.fn.self p x) 0 (map block_view l.blocks);
}

abbrev pub decreases-loop-ahead : goal.decreases-loop-ahead
decreases-loop-ahead l = length l.ahead
