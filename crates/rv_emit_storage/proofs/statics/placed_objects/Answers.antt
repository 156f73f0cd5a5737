use Rattle.std.proofs.Common.{◌≡◌, ◌+◌, List, [], ◌∷◌, ◌++◌, map, min, refl, ap, subst, arith}
use Rattle.graph_core.specs.declared.unit.StaticObject.{StaticObject}
use Rattle.graph_core.specs.Graphs.{static_view}
use Rattle.graph_core.specs.Memory.{static_bytes}
use Rattle.graph_core.specs.Validity.{taken_by, total}
use Rattle.rv_emit_storage.specs.StaticAddresses.{addresses_from}
use Rattle.rv_emit_storage.proofs.Offsets.{found_step, found_all, found_end}
use Rattle.rv_emit_storage.proofs.statics.placed_objects.Goals as goal

total_map : (xs : List StaticObject) → total (λ (o : StaticObject). taken_by (static_bytes (static_view o))) xs ≡ total taken_by (map static_bytes (map static_view xs))
total_map [] = refl
total_map (x ∷ xs) = ap (λ n. taken_by (static_bytes (static_view x)) + n) (total_map xs)

pub loop-left-init : goal.loop-left-init
loop-left-init c = record { fits = omega (arith, c.ranges.start.fits); end = refl; offsets = λ lt. ap (λ l. l ++ addresses_from c.args.start (map static_bytes (map static_view c.args.objects.now))) c.new-offsets.ensures.items }

pub loop-left-preserved : goal.loop-left-preserved
loop-left-preserved c = found_step (λ (o : StaticObject). taken_by (static_bytes (static_view o))) (λ n xs. addresses_from n (map static_bytes (map static_view xs))) (λ n. refl) (λ n o left. refl) _ _ _ _ _ _ _ c.first-item.result _ c.in-len1-up.len_at_least c.first-item.is (subst (λ n. c.behind-address.result ≡ min (c.loop-left.address + taken_by n) 4294967295) c.bytes_of.ensures c.behind-address.ensures) c.in_ok-push.ensures.items c.loop-left.invariant

pub returns-clause-offsets : goal.returns-clause-offsets
returns-clause-offsets c = λ lt. found_all (λ (o : StaticObject). taken_by (static_bytes (static_view o))) (λ n xs. addresses_from n (map static_bytes (map static_view xs))) (λ n. refl) (λ n o left. refl) _ _ _ _ _ c.in_default.len_below c.loop-left.invariant (omega (arith, total_map c.args.objects.now, lt))

pub returns-clause-end : goal.returns-clause-end
returns-clause-end c = omega (arith, total_map c.args.objects.now, found_end (λ (o : StaticObject). taken_by (static_bytes (static_view o))) (λ n xs. addresses_from n (map static_bytes (map static_view xs))) (λ n. refl) (λ n o left. refl) _ _ _ _ _ c.in_default.len_below c.loop-left.invariant)
