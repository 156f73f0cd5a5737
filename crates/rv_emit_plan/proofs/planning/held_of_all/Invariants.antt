use Rattle.std.proofs.Common.{◌≡◌, [], length, slice_get}
use Rattle.std.specs.Option.{option_map_or}
use Rattle.std.specs.List.{AllByRecursion}
use Rattle.rv_emit_plan.specs.Plans.{AreChosen, AreConstants}
use Rattle.rv_emit_plan.proofs.planning.held_of_all.Given as goal

abbrev pub invariant-loop-block : goal.invariant-loop-block
invariant-loop-block l = record {
  constants : AreChosen l.holdings → AllByRecursion (λ held. AreConstants held.items) l.all.items;
  start : option_map_or (λ held. held.items) (slice_get l.all.items 0) [] ≡ [];
  count : length l.all.items ≡ l.block;
}
