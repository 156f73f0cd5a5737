use Rattle.std.proofs.Common.{◌≡◌, length, map}
use Rattle.graph_core.specs.Graphs.{instruction_view, scalar_view}
use Rattle.copy_pass_rule.specs.Flow.{missing_in}
use Rattle.graph_paths.specs.PathMarksTable.{bits_of}
use Rattle.copy_pass_rule.proofs.Standing.{StandsBefore}
use Rattle.copy_pass_rule.proofs.Walked.{IsAhead}
use Rattle.copy_pass_rule.proofs.blocks.read_instructions.Given as goal

abbrev pub invariant-loop-ahead : goal.invariant-loop-ahead
invariant-loop-ahead l = record {
  same_count : l.walk.count ≡ l.fn.walk.count;
  same_width : l.walk.width ≡ l.fn.walk.width;
  stands : StandsBefore l.copies.all.now l.number (map instruction_view l.fn.instructions) (map instruction_view l.ahead) (missing_in (bits_of l.fn.walk) 0) (missing_in (bits_of l.walk) 0);
  read : IsAhead (map scalar_view l.scalars) l.copies.all.now l.number (map instruction_view l.fn.instructions) (map instruction_view l.ahead) (missing_in (bits_of l.fn.walk) 0) (missing_in (bits_of l.walk) 0) (map instruction_view l.read.items);
}

abbrev pub decreases-loop-ahead : goal.decreases-loop-ahead
decreases-loop-ahead l = length l.ahead
