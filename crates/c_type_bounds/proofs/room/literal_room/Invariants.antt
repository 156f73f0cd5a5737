use Rattle.std.proofs.Common.{◌≡◌, take}
use Rattle.std.specs.Prelude.{sum_by}
use Rattle.c_tree.specs.Programs.{literal_view}
use Rattle.c_type_bounds.specs.Bounds.{text_room}
use Rattle.c_type_bounds.specs.Counts.{capped}
use Rattle.c_type_bounds.proofs.room.literal_room.Given as goal

abbrev pub invariant-loop-one : goal.invariant-loop-one
invariant-loop-one l = l.total ≡ capped (sum_by (λ x. text_room (literal_view x)) (take l.one-index l.literals))
