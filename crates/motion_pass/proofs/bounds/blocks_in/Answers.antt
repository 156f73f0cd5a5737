use Rattle.std.proofs.Common.{rules, tests, length}
use Rattle.std.proofs.lemmas.List.{length-map}
use Rattle.std.proofs.lemmas.Iterator.{YieldsList-from_slice}
use Rattle.graph_core.specs.Graphs.{Graph, graph_view}
use Rattle.graph_core.proofs.Lists.{adds_up}
use Rattle.motion_pass.proofs.bounds.blocks_in.Goals as goal

pub returns : goal.returns
returns c = adds_up (λ (g : Graph). length g.blocks) graph_view _ _ c.fold.ensures.ran (YieldsList-from_slice c.args.graphs.now cc) (λ a x b q k. search (rules, tests, length-map))
