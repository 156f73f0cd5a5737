use Rattle.std.proofs.Common.{ℕ, Option, option_map, length, map}
use Rattle.debug_records.specs.declared.change.Place as declared-place
use Rattle.graph_core.specs.Graphs.{block_view, instruction_view, scalar_view}
use Rattle.graph_homes.specs.Reused.{first_among, one_or_other}
use Rattle.home_assign.specs.Copies.{AreSoFar}
use Rattle.home_assign.specs.Moves.{is_moved_at}
use Rattle.home_assign.proofs.copies.Copies.add_block.Given as goal

abbrev pub invariant-loop-left : goal.invariant-loop-left
invariant-loop-left l =
    (rest whole : ℕ → ℕ → Option ℕ) → AreSoFar (is_moved_at (map scalar_view l.scalars) l.moves) (length l.scalars) (λ p x. one_or_other (first_among p x (block_view l.block).place (block_view l.block).instructions) (rest p x)) whole l.fn.self
    → AreSoFar (is_moved_at (map scalar_view l.scalars) l.moves) (length l.scalars) (λ p x. one_or_other (first_among p x (option_map (λ (q : declared-place.Place). q.0) l.place) (map instruction_view l.left)) (rest p x)) whole l.self

abbrev pub decreases-loop-left : goal.decreases-loop-left
decreases-loop-left l = length l.left
