use Rattle.std.proofs.Common.{◌≡◌, ℕ, ◌-◌, ◌<◌, ◌||◌, drop, length, map}
use Rattle.graph_core.specs.Graphs.{end_view, instruction_view}
use Rattle.graph_paths.specs.Flood.{AreSameBut}
use Rattle.graph_paths.specs.PathMarksTable.{bits_of}
use Rattle.graph_solve_live.specs.Flowing.{is_live_along}
use Rattle.graph_solve_live.specs.Live.{end_reads}
use Rattle.graph_solve_live.proofs.flow.pass_back.Given as goal

abbrev pub invariant-loop-left : goal.invariant-loop-left
invariant-loop-left l = record {
  same_count : l.marks.count ≡ l.fn.marks.count;
  same_width : l.marks.width ≡ l.fn.marks.width;
  others : AreSameBut l.row (bits_of l.fn.marks) (bits_of l.marks);
  walk :
      (x : ℕ) → x < l.names
      → bits_of l.marks l.row x ≡ is_live_along x (map instruction_view (drop (length l.block.instructions.items - l.left) l.block.instructions.items)) (end_reads x (end_view l.block.end) || bits_of l.fn.marks l.row x);
}
