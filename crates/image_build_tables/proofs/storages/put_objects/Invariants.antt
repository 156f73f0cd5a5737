use Rattle.std.proofs.Common.{◌≡◌, length}
use Rattle.image_build_tables.specs.Storages.{objects_kept, put_all}
use Rattle.image_build_tables.proofs.storages.put_objects.Given as goal

abbrev pub invariant-loop-left : goal.invariant-loop-left
invariant-loop-left l = put_all (objects_kept l.left l.offsets_left) l.table ≡ put_all (objects_kept l.objects l.offsets) l.fn.table

abbrev pub decreases-loop-left : goal.decreases-loop-left
decreases-loop-left l = length l.left
