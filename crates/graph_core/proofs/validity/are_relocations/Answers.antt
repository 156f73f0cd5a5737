use Rattle.std.proofs.Common.{rules, subst, tests}
use Rattle.std.proofs.lemmas.Iterator.{YieldsList-from_slice}
use Rattle.std.proofs.lemmas.List.{map-id}
use Rattle.std.specs.Prelude.{◌↔◌, IsTrue}
use Rattle.std.specs.List.{AllByRecursion}
use Rattle.graph_core.specs.Graphs.{unit_view}
use Rattle.graph_core.specs.Validity.{IsStatic}
use Rattle.graph_core.specs.declared.unit.Relocation.{Relocation}
use Rattle.graph_core.proofs.Lists.{all_passes}
use Rattle.graph_core.proofs.validity.are_relocations.Goals as goal

pub returns : goal.returns
returns c =
    let P : Relocation → Type 0 = λ r. IsStatic (unit_view c.args.unit.now).statics r.object in
    subst (λ all. IsTrue c.all.result ↔ AllByRecursion P all) (map-id c.args.relocations.now) (all_passes P (λ r. r) _ _ _ c.all.ensures.ran (YieldsList-from_slice c.args.relocations.now cc) (λ x b q k. search (rules, tests)))
