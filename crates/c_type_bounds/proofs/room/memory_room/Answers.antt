use Rattle.std.proofs.Common.{ap, arith, ◌∙◌}
use Rattle.c_tree.specs.Programs.{automatic_view}
use Rattle.c_type_bounds.specs.Bounds.{kept_room}
use Rattle.c_type_bounds.specs.Counts.{capped}
use Rattle.c_type_bounds.proofs.Sums.{sum_whole}
use Rattle.c_type_bounds.proofs.room.memory_room.Goals as goal

pub returns : goal.returns
returns c = c.loop-one.invariant ∙ ap capped (sum_whole kept_room automatic_view c.args.variables.now c.loop-one.one-index (omega arith))
