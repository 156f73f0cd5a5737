use Rattle.std.proofs.Common.{ap, arith, ◌∙◌}
use Rattle.std.specs.Prelude.{map}
use Rattle.c_tree.specs.Programs.{automatic_view, function_view, program_view}
use Rattle.c_type_bounds.specs.Counts.{capped}
use Rattle.c_type_bounds.specs.Visible.{at_function}
use Rattle.c_type_bounds.proofs.PlacesCounted.{pairs_counted}
use Rattle.c_type_bounds.proofs.Sums.{sum_whole}
use Rattle.c_type_bounds.proofs.visible.visible_pairs.Goals as goal

pub returns : goal.returns
returns c =
    c.loop-f.invariant
    ∙ ap capped (sum_whole (at_function (map automatic_view c.args.program.now.automatics.items)) function_view c.args.program.now.functions.items c.loop-f.f-index (omega arith) ∙ pairs_counted (program_view c.args.program.now))
