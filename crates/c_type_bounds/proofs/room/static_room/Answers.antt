use Rattle.std.proofs.Common.{ap, arith, ◌∙◌}
use Rattle.c_tree.specs.Programs.{static_view}
use Rattle.c_type_bounds.specs.Bounds.{own_room}
use Rattle.c_type_bounds.specs.Counts.{capped}
use Rattle.c_type_bounds.proofs.Sums.{sum_whole}
use Rattle.c_type_bounds.proofs.room.static_room.Goals as goal

pub returns : goal.returns
returns c = c.loop-one.invariant ∙ ap capped (sum_whole own_room static_view c.args.variables.now c.loop-one.one-index (omega arith))
