use Rattle.std.proofs.Common.{◌≡◌, ℕ, ◌-◌, ◌<◌, ◌||◌, drop, length, map}
use Rattle.std.specs.Prelude.{◌==◌}
use Rattle.std.specs.List.{list_any}
use Rattle.graph_core.specs.Graphs.{end_view, instruction_view}
use Rattle.graph_core.specs.Uses.{reads_of_end}
use Rattle.graph_paths.specs.PathMarksTable.{bits_of}
use Rattle.dead_pass_rule.specs.Walks.{AreSameBut, asked_along, turn_of}
use Rattle.dead_pass_rule.proofs.asked.pass_back.Given as goal

abbrev pub invariant-loop-left : goal.invariant-loop-left
invariant-loop-left l = record {
  same_count : l.marks.count ≡ l.fn.marks.count;
  same_width : l.marks.width ≡ l.fn.marks.width;
  others : AreSameBut l.row l.fn.marks l.marks;
  walk :
      (x : ℕ) → x < l.names
      → bits_of l.marks l.row x
      ≡ asked_along (turn_of l.turns) x l.number (map instruction_view (drop (length l.instructions - l.left) l.instructions)) (list_any (λ y. y == x) (reads_of_end (end_view l.block.end)) || bits_of l.fn.marks l.row x);
}
