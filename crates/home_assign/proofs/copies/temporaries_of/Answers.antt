use Rattle.std.proofs.Common.{ℕ, Option, length, map, sym, ap}
use Rattle.graph_core.specs.Graphs.{block_view, scalar_view}
use Rattle.graph_homes.specs.Reused.{first_copy}
use Rattle.home_assign.specs.Moves.{is_moved_at}
use Rattle.home_assign.proofs.FirstCopies.{so_far_none, so_far_same}
use Rattle.home_assign.proofs.copies.temporaries_of.Goals as goal

pub loop-left-init : goal.loop-left-init
loop-left-init c =
    let moved = is_moved_at (map scalar_view c.args.graph.now.scalars.items) c.args.moves.now in
    let scalars = length c.args.graph.now.scalars.items in
    let whole : ℕ → ℕ → Option ℕ = λ p x. first_copy p x (map block_view c.args.graph.now.blocks.items) in
    so_far_same moved scalars whole _ whole _ (λ p x. ap (λ bs. first_copy p x (map block_view bs)) (sym c.as_slice-left.ensures.value)) (so_far_none moved scalars whole _ c.new.ensures c.new-2.ensures)
