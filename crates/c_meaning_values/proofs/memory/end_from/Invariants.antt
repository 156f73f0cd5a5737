use Rattle.std.proofs.Common.{◌≡◌, ◌≤◌, ◌-◌, map, length}
use Rattle.c_meaning_values.specs.Views.{object_view}
use Rattle.c_meaning_values.specs.Memory.{ended_from}
use Rattle.c_meaning_values.specs.Living.{living_from}
use Rattle.c_meaning_values.proofs.memory.end_from.Given as goal

abbrev pub invariant-loop-n : goal.invariant-loop-n
invariant-loop-n l = record {
  length_is : length l.memory.items ≡ length l.fn.memory.items;
  least : l.first ≤ l.n;
  most : l.n ≤ length l.memory.items;
  so_far : map object_view l.memory.items ≡ ended_from l.n (map object_view l.fn.memory.items);
  known : l.fn.living.items ≡ living_from 0 (map object_view l.fn.memory.items) → l.living.items ≡ living_from 0 (map object_view l.memory.items);
}

abbrev pub decreases-loop-n : goal.decreases-loop-n
decreases-loop-n l = l.n - l.first
