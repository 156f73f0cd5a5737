use Rattle.std.proofs.Common.{◌≡◌, ℕ, suc, Some, length, map}
use Rattle.std.specs.Prelude.{slice_get}
use Rattle.graph_core.specs.Graphs.{block_view, instruction_view}
use Rattle.graph_core.specs.Uses.{target_of}
use Rattle.copy_pass_rule.specs.declared.copies.CopyAt.{CopyAt}
use Rattle.copy_pass_rule.specs.Flow.{line_of, missing_where}
use Rattle.graph_paths.specs.PathMarksTable.{bits_of}
use Rattle.copy_pass_rule.proofs.finding.walk_to.Given as goal

abbrev pub invariant-loop-ahead : goal.invariant-loop-ahead
invariant-loop-ahead l = record {
  same_count : l.marks.count ≡ l.fn.marks.count;
  same_width : l.marks.width ≡ l.fn.marks.width;
  walked : (k : ℕ) (c : CopyAt) → slice_get l.copies.all.now k ≡ Some c → missing_where c l.number (suc l.left) (map target_of (map instruction_view l.ahead)) (bits_of l.marks l.row (suc k)) ≡ missing_where c l.number (suc l.left) (line_of (block_view l.block)).writes (bits_of l.fn.marks l.row (suc k));
}

abbrev pub decreases-loop-ahead : goal.decreases-loop-ahead
decreases-loop-ahead l = length l.ahead
