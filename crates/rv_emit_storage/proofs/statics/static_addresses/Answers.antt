use Rattle.std.proofs.Common.{◌≡◌, ◌+◌, ◌<◌, ℕ, List, ap, ◌∙◌, length, map, min, subst}
use Rattle.graph_core.specs.Graphs.{static_view, bytes_view, unit_view}
use Rattle.graph_core.specs.Memory.{static_bytes}
use Rattle.graph_core.specs.Validity.{taken_by, total}
use Rattle.memory_map.specs.Maps.{bytes_start}
use Rattle.rv_emit_storage.specs.StaticAddresses.{addresses_from}
use Rattle.rv_emit_storage.proofs.Offsets.{placed_all, placed_parts}
use Rattle.rv_emit_storage.proofs.statics.static_addresses.Goals as goal

pub returns-clause-addresses : goal.returns-clause-addresses
returns-clause-addresses c = λ fits. placed_all (unit_view c.args.unit.now) c.bytes_start.result c.in_ok-objects.objects.offsets.items c.in_ok-arrays.arrays.offsets.items c.in_ok-objects.objects.end
    (c.bytes_start.ensures ∙ ap bytes_start c.map_of_unit-map.ensures)
    (subst (λ xs. c.bytes_start.result + total taken_by (map static_bytes (map static_view xs)) < 4294967295 → c.in_ok-objects.objects.offsets.items ≡ addresses_from c.bytes_start.result (map static_bytes (map static_view xs))) c.deref.ensures.value c.in_ok-objects.ensures.offsets)
    (subst (λ xs. c.in_ok-objects.objects.end ≡ min (c.bytes_start.result + total taken_by (map static_bytes (map static_view xs))) 4294967295) c.deref.ensures.value c.in_ok-objects.ensures.end)
    (subst (λ xs. c.in_ok-objects.objects.end + total taken_by (map (λ (b : List ℕ). length b) (map bytes_view xs)) < 4294967295 → c.in_ok-arrays.arrays.offsets.items ≡ addresses_from c.in_ok-objects.objects.end (map (λ (b : List ℕ). length b) (map bytes_view xs))) c.deref-2.ensures.value c.in_ok-arrays.ensures.offsets)
    fits

pub returns-clause-objects : goal.returns-clause-objects
returns-clause-objects c = λ fits. (placed_parts (unit_view c.args.unit.now) c.bytes_start.result c.in_ok-objects.objects.offsets.items c.in_ok-arrays.arrays.offsets.items c.in_ok-objects.objects.end
    (c.bytes_start.ensures ∙ ap bytes_start c.map_of_unit-map.ensures)
    (subst (λ xs. c.bytes_start.result + total taken_by (map static_bytes (map static_view xs)) < 4294967295 → c.in_ok-objects.objects.offsets.items ≡ addresses_from c.bytes_start.result (map static_bytes (map static_view xs))) c.deref.ensures.value c.in_ok-objects.ensures.offsets)
    (subst (λ xs. c.in_ok-objects.objects.end ≡ min (c.bytes_start.result + total taken_by (map static_bytes (map static_view xs))) 4294967295) c.deref.ensures.value c.in_ok-objects.ensures.end)
    (subst (λ xs. c.in_ok-objects.objects.end + total taken_by (map (λ (b : List ℕ). length b) (map bytes_view xs)) < 4294967295 → c.in_ok-arrays.arrays.offsets.items ≡ addresses_from c.in_ok-objects.objects.end (map (λ (b : List ℕ). length b) (map bytes_view xs))) c.deref-2.ensures.value c.in_ok-arrays.ensures.offsets)
    fits).0

pub returns-clause-arrays : goal.returns-clause-arrays
returns-clause-arrays c = λ fits. (placed_parts (unit_view c.args.unit.now) c.bytes_start.result c.in_ok-objects.objects.offsets.items c.in_ok-arrays.arrays.offsets.items c.in_ok-objects.objects.end
    (c.bytes_start.ensures ∙ ap bytes_start c.map_of_unit-map.ensures)
    (subst (λ xs. c.bytes_start.result + total taken_by (map static_bytes (map static_view xs)) < 4294967295 → c.in_ok-objects.objects.offsets.items ≡ addresses_from c.bytes_start.result (map static_bytes (map static_view xs))) c.deref.ensures.value c.in_ok-objects.ensures.offsets)
    (subst (λ xs. c.in_ok-objects.objects.end ≡ min (c.bytes_start.result + total taken_by (map static_bytes (map static_view xs))) 4294967295) c.deref.ensures.value c.in_ok-objects.ensures.end)
    (subst (λ xs. c.in_ok-objects.objects.end + total taken_by (map (λ (b : List ℕ). length b) (map bytes_view xs)) < 4294967295 → c.in_ok-arrays.arrays.offsets.items ≡ addresses_from c.in_ok-objects.objects.end (map (λ (b : List ℕ). length b) (map bytes_view xs))) c.deref-2.ensures.value c.in_ok-arrays.ensures.offsets)
    fits).1
