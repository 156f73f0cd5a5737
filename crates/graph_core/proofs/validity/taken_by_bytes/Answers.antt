use Rattle.std.proofs.Common.{rules, tests, length}
use Rattle.std.proofs.lemmas.Iterator.{YieldsList-from_slice}
use Rattle.graph_core.specs.Graphs.{bytes_view}
use Rattle.graph_core.specs.Validity.{taken_by}
use Rattle.graph_core.proofs.Lists.{adds_up}
use Rattle.graph_core.proofs.validity.taken_by_bytes.Goals as goal

pub returns : goal.returns
returns c = adds_up (λ b. taken_by (length b)) bytes_view _ _ c.fold.ensures.ran (YieldsList-from_slice c.args.all.now cc) (λ a x b q k. search (rules, tests))
