use Rattle.std.proofs.Common.{◌≡◌, ◌^◌, ◌-◌, min, rules, subst, tests}
use Rattle.std.proofs.lemmas.Iterator.{YieldsList-from_slice}
use Rattle.std.proofs.lemmas.List.{map-id}
use Rattle.graph_core.specs.Validity.{taken_by_object, total}
use Rattle.graph_core.proofs.Lists.{adds_up}
use Rattle.graph_core.proofs.validity.taken_by_objects.Goals as goal

pub returns : goal.returns
returns c =
    subst (λ all. c.fold.result ≡ min (total taken_by_object all) (2 ^ 64 - 1)) (map-id c.args.objects.now)
    (adds_up taken_by_object (λ o. o) _ _ c.fold.ensures.ran (YieldsList-from_slice c.args.objects.now cc) (λ a x b q k. search (rules, tests)))
