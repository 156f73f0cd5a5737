use Rattle.std.proofs.Common.{ap, arith, ◌∙◌, ◌-◌, ◌%◌}
use Rattle.c_type_rules.specs.Integers.{room}
use Rattle.c_type_bounds.specs.Counts.{capped}
use Rattle.c_type_bounds.proofs.Sums.{room_in_parts}
use Rattle.c_type_bounds.proofs.room.bytes_room.Goals as goal

pub returns : goal.returns
returns c = c.plus.ensures.sum_of (c.args.count - c.args.count % 4611686018427387904) (room (c.args.count % 4611686018427387904)) (omega arith) (omega arith) ∙ ap capped (room_in_parts c.args.count)
