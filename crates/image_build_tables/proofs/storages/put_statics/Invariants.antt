use Rattle.std.proofs.Common.{◌≡◌, ◌+◌, length}
use Rattle.image_build_tables.specs.Storages.{put_all, statics_kept}
use Rattle.image_build_tables.proofs.storages.put_statics.Given as goal

abbrev pub invariant-loop-left : goal.invariant-loop-left
invariant-loop-left l = record {
  counted : l.number + length l.left ≡ length l.addresses;
  put : put_all (statics_kept l.number l.left) l.table ≡ put_all (statics_kept 0 l.addresses) l.fn.table;
}

abbrev pub decreases-loop-left : goal.decreases-loop-left
decreases-loop-left l = length l.left
