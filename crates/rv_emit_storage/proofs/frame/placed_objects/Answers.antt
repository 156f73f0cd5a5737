use Rattle.std.proofs.Common.{◌++◌, refl, ap, arith}
use Rattle.graph_core.specs.Validity.{taken_by_object}
use Rattle.graph_homes.specs.Frames.{object_offsets}
use Rattle.rv_emit_storage.proofs.Offsets.{found_step, found_all, found_end}
use Rattle.rv_emit_storage.proofs.frame.placed_objects.Goals as goal

pub loop-left-init : goal.loop-left-init
loop-left-init c = record { fits = omega (arith, c.ranges.start.fits); end = refl; offsets = λ lt. ap (λ l. l ++ object_offsets c.args.start c.args.objects.now) c.new-offsets.ensures.items }

pub loop-left-preserved : goal.loop-left-preserved
loop-left-preserved c = found_step taken_by_object object_offsets (λ n. refl) (λ n o left. refl) _ _ _ _ _ _ _ _ _ c.in-len1-up.len_at_least refl c.behind-offset.ensures c.in_ok-push.ensures.items c.loop-left.invariant

pub returns-clause-offsets : goal.returns-clause-offsets
returns-clause-offsets c = λ lt. found_all taken_by_object object_offsets (λ n. refl) (λ n o left. refl) _ _ _ _ _ c.in_default.len_below c.loop-left.invariant lt

pub returns-clause-end : goal.returns-clause-end
returns-clause-end c = found_end taken_by_object object_offsets (λ n. refl) (λ n o left. refl) _ _ _ _ _ c.in_default.len_below c.loop-left.invariant
