use Rattle.std.proofs.Common.{◌≡◌, ◌^◌, ◌-◌, ◌≤◌, length, min, max}
use Rattle.graph_homes.specs.Frames.{slot_count}
use Rattle.rv_emit_storage.proofs.frame.slot_count.Given as goal

abbrev pub invariant-loop-left : goal.invariant-loop-left
invariant-loop-left l = record {
  fits : l.count ≤ 2 ^ 32 - 1;
  same : min (max l.count (slot_count l.left)) (2 ^ 32 - 1) ≡ min (slot_count l.fn.homes) (2 ^ 32 - 1);
}

abbrev pub decreases-loop-left : goal.decreases-loop-left
decreases-loop-left l = length l.left
