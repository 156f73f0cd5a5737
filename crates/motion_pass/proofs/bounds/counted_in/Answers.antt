use Rattle.std.proofs.Common.{rules, tests}
use Rattle.std.proofs.lemmas.Iterator.{YieldsList-from_slice}
use Rattle.graph_core.specs.Graphs.{graph_view}
use Rattle.graph_core.specs.Validity.{instructions_of}
use Rattle.graph_core.proofs.Lists.{adds_up}
use Rattle.motion_pass.proofs.bounds.counted_in.Goals as goal

pub returns : goal.returns
returns c = adds_up instructions_of graph_view _ _ c.fold.ensures.ran (YieldsList-from_slice c.args.graphs.now cc) (λ a x b q k. search (rules, tests))
