use Rattle.std.proofs.Common.{rules, tests}
use Rattle.std.proofs.lemmas.Iterator.{YieldsList-from_slice}
use Rattle.graph_core.specs.Graphs.{binding_view, graph_view}
use Rattle.graph_core.specs.Validity.{IsBinding}
use Rattle.graph_core.proofs.Lists.{all_passes}
use Rattle.graph_core.proofs.validity.are_bindings.Goals as goal

pub returns : goal.returns
returns c = all_passes (IsBinding (graph_view c.args.graph.now)) binding_view _ _ _ c.all.ensures.ran (YieldsList-from_slice c.args.bindings.now cc) (λ x b q k. search (rules, tests))
