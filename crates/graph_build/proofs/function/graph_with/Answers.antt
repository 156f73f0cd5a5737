use Rattle.c_tree.specs.Programs.{function_view, program_view}
use Rattle.graph_build.proofs.Graphs.{graph_made_by}
use Rattle.graph_build.proofs.function.graph_with.Goals as goal

pub returns : goal.returns
returns c =
    graph_made_by (program_view c.args.source.now.program.now) (function_view c.args.function.now) c.args.is_main _ _ _ _ c.requires c.in_ok-count.ensures c.in_ok-form.ensures c.in_ok-graph.ensures
