use Rattle.std.proofs.Common.{◌≡◌, ℕ, ◌-◌, ◌<◌, length, map, take}
use Rattle.graph_core.specs.Graphs.{instruction_view}
use Rattle.dead_pass_rule.specs.Asking.{is_going}
use Rattle.dead_pass_rule.specs.Walks.{AreSameBut, turn_of}
use Rattle.graph_paths.specs.PathMarksTable.{bits_of}
use Rattle.dead_pass_notes.specs.Rows.{stale_behind}
use Rattle.dead_pass_notes.proofs.walks.walk.Given as goal

abbrev pub invariant-loop-index : goal.invariant-loop-index
invariant-loop-index l = record {
  same_count : l.marks.count ≡ l.fn.marks.count;
  same_width : l.marks.width ≡ l.fn.marks.width;
  others : AreSameBut l.row l.fn.marks l.marks;
  walk : (x : ℕ) → x < l.names → bits_of l.marks l.row x ≡ stale_behind (is_going (turn_of l.turns) l.number) x (bits_of l.fn.marks l.row x) (take l.index (map instruction_view l.instructions)) (length l.instructions - l.index);
}
