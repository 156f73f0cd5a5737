use Rattle.std.proofs.Common.{rules, tests}
use Rattle.std.proofs.lemmas.Iterator.{YieldsList-from_slice}
use Rattle.graph_core.specs.Graphs.{StaticObject, static_view, unit_view}
use Rattle.graph_core.specs.Validity.{AreRelocations}
use Rattle.graph_core.proofs.Lists.{all_passes}
use Rattle.graph_core.proofs.validity.have_relocations.Goals as goal

pub returns : goal.returns
returns c = all_passes (λ (o : StaticObject). AreRelocations (unit_view c.args.unit.now).statics o.relocations) static_view _ _ _ c.all.ensures.ran (YieldsList-from_slice c.args.objects.now cc) (λ x b q k. search (rules, tests))
