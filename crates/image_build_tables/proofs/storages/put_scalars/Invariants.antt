use Rattle.std.proofs.Common.{◌≡◌, length, map}
use Rattle.graph_core.specs.Graphs.{scalar_view}
use Rattle.image_build_tables.specs.Storages.{put_all, scalars_kept}
use Rattle.image_build_tables.proofs.storages.put_scalars.Given as goal

abbrev pub invariant-loop-left : goal.invariant-loop-left
invariant-loop-left l =
    put_all (scalars_kept l.slots (map scalar_view l.left) l.homes_left) l.table ≡ put_all (scalars_kept l.slots (map scalar_view l.scalars) l.homes) l.fn.table

abbrev pub decreases-loop-left : goal.decreases-loop-left
decreases-loop-left l = length l.left
