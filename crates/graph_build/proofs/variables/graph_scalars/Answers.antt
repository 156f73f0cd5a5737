use Rattle.std.proofs.Common.{ℕ, List, map, ap, ◌∙◌}
use Rattle.c_tree.specs.Programs.{function_view, program_view}
use Rattle.graph_build.specs.Units.{scalar_record}
use Rattle.graph_build.proofs.variables.graph_scalars.Goals as goal

pub returns : goal.returns
returns c =
    c.in_ok-records.ensures
    ∙ ap (λ (l : List ℕ). map (scalar_record (program_view c.args.source.now.program.now) (function_view c.args.function.now) c.args.entry l) l) (c.deref.ensures.value ∙ c.in_ok-scalars.ensures)
