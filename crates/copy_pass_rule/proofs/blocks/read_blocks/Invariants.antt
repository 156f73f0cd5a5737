use Rattle.std.proofs.Common.{◌≡◌, ◌+◌, length, map}
use Rattle.graph_core.specs.Graphs.{block_view, scalar_view}
use Rattle.graph_paths.specs.PathMarksTable.{bits_of}
use Rattle.copy_pass_rule.proofs.Standing.{AreFrom}
use Rattle.copy_pass_rule.proofs.Walked.{AreAhead}
use Rattle.copy_pass_rule.proofs.blocks.read_blocks.Given as goal

abbrev pub invariant-loop-ahead : goal.invariant-loop-ahead
invariant-loop-ahead l = record {
  count : l.walk.count ≡ 1;
  width : l.walk.width ≡ length l.copies.all.now + 1;
  counted : l.number + length l.ahead ≡ length l.fn.blocks;
  from : AreFrom l.fn.blocks l.ahead l.number;
  read : AreAhead (map scalar_view l.scalars) l.copies.all.now (bits_of l.starts) (map block_view l.fn.blocks) (map block_view l.ahead) l.number (map block_view l.read.items);
}

abbrev pub decreases-loop-ahead : goal.decreases-loop-ahead
decreases-loop-ahead l = length l.ahead
