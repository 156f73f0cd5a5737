use Rattle.std.proofs.Common.{rules, tests}
use Rattle.std.proofs.lemmas.Iterator.{YieldsList-from_slice}
use Rattle.graph_core.specs.Graphs.{static_view}
use Rattle.graph_core.specs.Memory.{static_bytes}
use Rattle.graph_core.specs.Validity.{taken_by}
use Rattle.graph_core.proofs.Lists.{adds_up}
use Rattle.graph_core.proofs.validity.taken_by_statics.Goals as goal

pub returns : goal.returns
returns c = adds_up (λ o. taken_by (static_bytes o)) static_view _ _ c.fold.ensures.ran (YieldsList-from_slice c.args.objects.now cc) (λ a x b q k. search (rules, tests))
