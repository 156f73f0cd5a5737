use Rattle.std.proofs.Common.{◌≡◌, [], length, slice_get, sym, ap, subst, ◌∙◌, arith}
use Rattle.std.specs.Option.{option_map_or}
use Rattle.std.specs.List.{AllByRecursion}
use Rattle.rv_emit_plan.specs.Plans.{AreConstants}
use Rattle.rv_emit_plan.proofs.Holding.{all_with, first_with}
use Rattle.rv_emit_plan.proofs.planning.held_of_all.Goals as goal

pub loop-block-preserved : goal.loop-block-preserved
loop-block-preserved c = record {
  constants = λ chosen. subst (λ l. AllByRecursion (λ held. AreConstants held.items) l) (sym c.in_ok-push.ensures.items) (all_with (λ held. AreConstants held.items) c.loop-block.all.items c.in_ok-held.held (c.loop-block.invariant.constants chosen) (c.in_ok-held.ensures.constants chosen));
  start = subst (λ l. option_map_or (λ held. held.items) (slice_get l 0) [] ≡ []) (sym c.in_ok-push.ensures.items)
      (first_with (λ held. held.items) c.loop-block.all.items c.in_ok-held.held (λ none. c.in_ok-held.ensures.start (sym c.loop-block.invariant.count ∙ ap (λ l. length l) none)) c.loop-block.invariant.start);
  count = omega (arith, c.loop-block.invariant.count, c.in_ok-push.ensures.len);
}
