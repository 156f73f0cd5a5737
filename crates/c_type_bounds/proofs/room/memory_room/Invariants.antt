use Rattle.std.proofs.Common.{◌≡◌, take}
use Rattle.std.specs.Prelude.{sum_by}
use Rattle.c_tree.specs.Programs.{automatic_view}
use Rattle.c_type_bounds.specs.Bounds.{kept_room}
use Rattle.c_type_bounds.specs.Counts.{capped}
use Rattle.c_type_bounds.proofs.room.memory_room.Given as goal

abbrev pub invariant-loop-one : goal.invariant-loop-one
invariant-loop-one l = l.total ≡ capped (sum_by (λ x. kept_room (automatic_view x)) (take l.one-index l.variables))
