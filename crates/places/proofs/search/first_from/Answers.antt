use Rattle.std.proofs.Common.{ltb, rules}
use Rattle.std.proofs.lemmas.List.Sorted.{IsPartitionPoint-from_clause}
use Rattle.places.specs.declared.flow.FlowStep.{FlowStep}
use Rattle.places.proofs.Taking.{first_point, parted_from}
use Rattle.places.proofs.search.first_from.Goals as goal

pub returns : goal.returns
returns c =
    let parted = parted_from c.args.steps.now c.args.place.0 c.requires in
    let point = IsPartitionPoint-from_clause (λ (s : FlowStep). ltb s.from.0 c.args.place.0) _ _ c.partition_point.ensures.partitioned parted (λ a r q k. search rules) in
    first_point c.args.steps.now c.args.place.0 _ point
