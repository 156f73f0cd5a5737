use Rattle.std.proofs.Common.{◌≡◌, ◌+◌, ◌≤◌, length, map, false}
use Rattle.std.specs.Prelude.{slice_index_or, []}
use Rattle.graph_core.specs.Graphs.{block_view}
use Rattle.motion_pass_points.specs.Numbers.{AreNumbers, views_of, computed_in}
use Rattle.motion_pass_points.proofs.Passing.{ArePassed}
use Rattle.motion_pass_points.proofs.computations.Computations.new.Given as goal

abbrev pub invariant-loop-ahead : goal.invariant-loop-ahead
invariant-loop-ahead l = record {
  counted : l.number + length l.ahead ≡ length l.blocks;
  numbers : AreNumbers l.made;
  few : length l.made.all.items + length (computed_in (λ n. slice_index_or l.flags n false) l.number (map block_view l.ahead)) ≤ length (computed_in (λ n. slice_index_or l.flags n false) 0 (map block_view l.blocks));
  passed : ArePassed [] (views_of l.made) (computed_in (λ n. slice_index_or l.flags n false) 0 (map block_view l.blocks)) (computed_in (λ n. slice_index_or l.flags n false) l.number (map block_view l.ahead));
}

abbrev pub decreases-loop-ahead : goal.decreases-loop-ahead
decreases-loop-ahead l = length l.ahead
