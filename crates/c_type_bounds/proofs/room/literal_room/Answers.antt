use Rattle.std.proofs.Common.{ap, arith, ◌∙◌}
use Rattle.c_tree.specs.Programs.{literal_view}
use Rattle.c_type_bounds.specs.Bounds.{text_room}
use Rattle.c_type_bounds.specs.Counts.{capped}
use Rattle.c_type_bounds.proofs.Sums.{sum_whole}
use Rattle.c_type_bounds.proofs.room.literal_room.Goals as goal

pub returns : goal.returns
returns c = c.loop-one.invariant ∙ ap capped (sum_whole text_room literal_view c.args.literals.now c.loop-one.one-index (omega arith))
