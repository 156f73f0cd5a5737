use Rattle.std.proofs.Common.{◌≡◌, ◌+◌, ◌++◌, ℕ, List, length, length-append, map, min, ap, ◌∙◌}
use Rattle.std.specs.List.{flat_map}
use Rattle.graph_core.specs.Graphs.{static_view, bytes_view, unit_view}
use Rattle.graph_core.specs.Validity.{taken_by}
use Rattle.rv_emit_storage.specs.StaticAddresses.{padded, object_bytes}
use Rattle.rv_emit_storage.specs.Filled.{filled_object}
use Rattle.rv_emit_storage.proofs.Offsets.{arrays_few, bytes_in_all}
use Rattle.rv_emit_storage.proofs.Filling.{all_filled, arrays_filled, arrays_length, filled_length, have_all}
use Rattle.rv_emit_storage.proofs.statics.initial_bytes.Goals as goal

abbrev arrays_of : List (List ℕ) → List ℕ
arrays_of all = flat_map (λ (b : List ℕ). padded (min (taken_by (length b)) 18446744073709551615) b) all

objects_are : (c : goal.In_ok-push_arrays) → c.push_objects.new.made.items ≡ flat_map (filled_object c.args.statics.now.objects.items) (map static_view c.args.unit.now.statics.items)
objects_are c =
    c.in_ok-push_objects.ensures ∙ ap (λ l. l ++ flat_map (filled_object c.args.statics.now.objects.items) (map static_view c.deref.result.now)) c.new-initial.ensures.items
    ∙ ap (λ xs. flat_map (filled_object c.args.statics.now.objects.items) (map static_view xs)) c.deref.ensures.value

all_are : (c : goal.In_ok-push_arrays) → c.push_arrays.new.made.items ≡ c.push_objects.new.made.items ++ arrays_of (map bytes_view c.args.unit.now.array_bytes.items)
all_are c = c.in_ok-push_arrays.ensures.made ∙ ap (λ xs. c.push_objects.new.made.items ++ arrays_of (map bytes_view xs)) c.deref-2.ensures.value

pub returns-clause-length : goal.returns-clause-length
returns-clause-length c = λ fits.
    let u = unit_view c.args.unit.now in
    bytes_in_all u (length c.push_objects.new.made.items) (length c.push_arrays.new.made.items)
    (ap (λ l. length l) (objects_are c) ∙ filled_length c.args.statics.now.objects.items u.statics)
    (ap (λ l. length l) (all_are c) ∙ length-append c.push_objects.new.made.items (arrays_of u.array_bytes) ∙ ap (λ n. length c.push_objects.new.made.items + n) (arrays_length u.array_bytes))
    fits

pub returns-clause-exact : goal.returns-clause-exact
returns-clause-exact c = λ fits have named.
    let u = unit_view c.args.unit.now in
    all_are c
    ∙ ap (λ l. l ++ arrays_of u.array_bytes) (objects_are c ∙ all_filled u c.args.statics.now.objects.items (have_all u c.args.statics.now.objects.items have) u.statics named)
    ∙ ap (λ l. flat_map (object_bytes u) u.statics ++ l) (arrays_filled u.array_bytes (arrays_few u fits))
