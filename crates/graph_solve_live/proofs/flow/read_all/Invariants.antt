use Rattle.std.proofs.Common.{◌≡◌, ℕ, ◌<◌, drop}
use Rattle.std.specs.Prelude.{◌==◌, ◌||◌}
use Rattle.std.specs.List.{list_any}
use Rattle.graph_core.specs.Uses.{numbers}
use Rattle.graph_paths.specs.Flood.{AreSameBut}
use Rattle.graph_paths.specs.PathMarksTable.{bits_of}
use Rattle.graph_solve_live.proofs.flow.read_all.Given as goal

abbrev pub invariant-loop-name : goal.invariant-loop-name
invariant-loop-name l = record {
  same_count : l.marks.count ≡ l.fn.marks.count;
  same_width : l.marks.width ≡ l.fn.marks.width;
  others : AreSameBut l.row (bits_of l.fn.marks) (bits_of l.marks);
  walk : (x : ℕ) → x < l.names → (list_any (λ y. y == x) (numbers (drop l.name-index l.all)) || bits_of l.marks l.row x) ≡ (list_any (λ y. y == x) (numbers l.all) || bits_of l.fn.marks l.row x);
}
