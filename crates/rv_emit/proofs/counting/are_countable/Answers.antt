use Rattle.std.proofs.Common.{rules, tests}
use Rattle.std.proofs.lemmas.Iterator.{YieldsList-from_slice}
use Rattle.graph_core.specs.Graphs.{graph_view}
use Rattle.graph_core.proofs.Lists.{all_passes}
use Rattle.rv_emit_runs.specs.Told.{IsCountable}
use Rattle.rv_emit.proofs.counting.are_countable.Goals as goal

pub returns : goal.returns
returns c = all_passes IsCountable graph_view _ _ _ c.all.ensures.ran (YieldsList-from_slice c.args.graphs.now cc) (λ x b q k. search (rules, tests))
