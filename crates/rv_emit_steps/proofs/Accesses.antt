-- What an access reaches: a value of an object.
use Rattle.std.proofs.Common.{◌≡◌, ℕ, ◌+◌, ◌*◌, ◌/◌, ◌%◌, ◌<◌, inl, inr, sym, ap, ◌∙◌, subst, arith, refl, Option, Some, None, Bool, true, false, cond, length, slice_get, slice_set}
use Rattle.std.specs.Prelude.{◌==◌, ◌&&◌, nat_lt, option_map, option_and_then}
use Rattle.std.proofs.lemmas.Bool.{eqb-true, ltb-true}
use Rattle.memory_map.specs.declared.map.Map.{Map}
use Rattle.graph_core.specs.declared.value.Value.{Value}
use Rattle.graph_core.specs.declared.value.Value.TheVariants.{Number, Pointer, Odd}
use Rattle.graph_core.specs.declared.instruction.Element.{Element}
use Rattle.graph_core.specs.declared.instruction.Element.TheVariants.{Unsigned8, Signed8, Unsigned16, Signed16, Word}
use Rattle.graph_core.specs.Values.{size_of, as_element}
use Rattle.graph_core.specs.Memory.{Memory, Object, index_in, value_in, read, write_in, write, with_value, written_in}
use Rattle.rv_emit_steps.specs.Holding.{IsDataAt}
use Rattle.rv_emit_steps.specs.Meaning.{IsInMemory, AreLaid}
use Rattle.rv_emit_steps.proofs.Objects.{element_within}

-- An access by an element reaches a value of an object: that lives, has elements as wide, and one of this index at the offset.
pub record Hits (memory : Memory) (e : Element) (p : Value) (number : ℕ) (object : Object) (index : ℕ) : Type 0 where
  pub size : ℕ
  pub offset : ℕ
  pub is : p ≡ Pointer number size offset
  pub there : slice_get memory number ≡ Some object
  pub live : object.live ≡ true
  pub wide : size_of e ≡ size_of object.element
  pub at : offset ≡ index * size_of object.element
  pub low : index < length object.values

some_same : {A : Type 0} (x y : A) → Some x ≡ Some y → x ≡ y
some_same x y h = cc

whole : (e : Element) (offset : ℕ) → offset % size_of e ≡ 0 → offset ≡ offset / size_of e * size_of e
whole Unsigned8 offset h = omega arith
whole Signed8 offset h = omega arith
whole Unsigned16 offset h = omega (arith, h)
whole Signed16 offset h = omega (arith, h)
whole Word offset h = omega (arith, h)

all_tests : (a b c d : Bool) (i j : ℕ) → cond (a && b && c && d) (Some i) None ≡ Some j → (a ≡ true) × (b ≡ true) × (c ≡ true) × (d ≡ true) × (i ≡ j)
all_tests true true true true i j e = let same : i ≡ j = cc in (refl, refl, refl, refl, same)
all_tests true true true false i j e = cc
all_tests true true false d i j e = cc
all_tests true false c d i j e = cc
all_tests false b c d i j e = cc

index_hits : (memory : Memory) (e : Element) (n size offset j : ℕ) (o : Object) → slice_get memory n ≡ Some o → index_in e offset o ≡ Some j → Hits memory e (Pointer n size offset) n o j
index_hits memory e n size offset j o there found =
    let tests = all_tests o.live (size_of e == size_of o.element) (offset % size_of e == 0) (nat_lt (offset / size_of e) (length o.values)) (offset / size_of e) j found in
    let wide : size_of e ≡ size_of o.element = eqb-true (size_of e) (size_of o.element) tests.1 in
    record {
      size = size;
      offset = offset;
      is = refl;
      there = there;
      live = tests.0;
      wide = wide;
      at = whole e offset (eqb-true (offset % size_of e) 0 tests.2) ∙ ap (λ s. offset / size_of e * s) wide ∙ ap (λ k. k * size_of o.element) tests.4;
      low = subst (λ k. k < length o.values) tests.4 (ltb-true (offset / size_of e) (length o.values) tests.3);
    }

-- ---- Reads

-- What a read gives.
pub record Reads (memory : Memory) (e : Element) (p v : Value) : Type 0 where
  pub number : ℕ
  pub object : Object
  pub index : ℕ
  pub value : Value
  pub hits : Hits memory e p number object index
  pub has : slice_get object.values index ≡ Some value
  pub gives : v ≡ as_element e value

pub read_reads : (memory : Memory) (e : Element) (p v : Value) → read memory e p ≡ Some v → Reads memory e p v
read_reads memory e (Number w) v found = cc
read_reads memory e Odd v found = cc
read_reads memory e (Pointer n size offset) v found = by_object (slice_get memory n) refl found
  where
    by_value : (o : Object) (i : ℕ) → Hits memory e (Pointer n size offset) n o i → (x : Option Value) → slice_get o.values i ≡ x → option_map (as_element e) x ≡ Some v → Reads memory e (Pointer n size offset) v
    by_value o i hits None has got = cc
    by_value o i hits (Some x) has got = let same : as_element e x ≡ v = cc in record { number = n; object = o; index = i; value = x; hits = hits; has = has; gives = sym same }

    by_index : (o : Object) → slice_get memory n ≡ Some o → (i : Option ℕ) → index_in e offset o ≡ i → option_map (as_element e) (option_and_then (λ k. slice_get o.values k) i) ≡ Some v → Reads memory e (Pointer n size offset) v
    by_index o there None is got = cc
    by_index o there (Some i) is got = by_value o i (index_hits memory e n size offset i o there is) (slice_get o.values i) refl got

    by_object : (o : Option Object) → slice_get memory n ≡ o → option_and_then (value_in e offset) o ≡ Some v → Reads memory e (Pointer n size offset) v
    by_object None there got = cc
    by_object (Some o) there got = by_index o there (index_in e offset o) refl got

-- ---- Writes

-- What a write makes of memory.
pub record WritesTo (memory : Memory) (e : Element) (p v : Value) (later : Memory) : Type 0 where
  pub number : ℕ
  pub object : Object
  pub index : ℕ
  pub hits : Hits memory e p number object index
  pub makes : slice_set memory number (with_value index v object) ≡ later

pub write_writes : (memory : Memory) (e : Element) (p v : Value) (later : Memory) → write memory e p v ≡ Some later → WritesTo memory e p v later
write_writes memory e (Number w) v later found = cc
write_writes memory e Odd v later found = cc
write_writes memory e (Pointer n size offset) v later found = by_object (slice_get memory n) refl found
  where
    by_index : (o : Object) → slice_get memory n ≡ Some o → (i : Option ℕ) → index_in e offset o ≡ i → option_map (written_in memory n v o) i ≡ Some later → WritesTo memory e (Pointer n size offset) v later
    by_index o there None is got = cc
    by_index o there (Some i) is got =
        let same : slice_set memory n (with_value i v o) ≡ later = some_same (slice_set memory n (with_value i v o)) later got in
        record { number = n; object = o; index = i; hits = index_hits memory e n size offset i o there is; makes = same }

    by_object : (o : Option Object) → slice_get memory n ≡ o → option_and_then (write_in memory n e offset v) o ≡ Some later → WritesTo memory e (Pointer n size offset) v later
    by_object None there got = cc
    by_object (Some o) there got = by_index o there (index_in e offset o) refl got

-- ---- Where it stands

aligned_at : (f : Element) (a i : ℕ) → a % 4 ≡ 0 → (a + i * size_of f) % size_of f ≡ 0
aligned_at Unsigned8 a i aligned = omega arith
aligned_at Signed8 a i aligned = omega arith
aligned_at Unsigned16 a i aligned = omega (arith, aligned)
aligned_at Signed16 a i aligned = omega (arith, aligned)
aligned_at Word a i aligned = omega (arith, aligned)

data_at : (m : Map) (f : Element) (a i count : ℕ) → a % 4 ≡ 0 → i < count → IsInMemory m a (count * size_of f) → IsDataAt m (size_of f) (a + i * size_of f)
data_at m f a i count aligned lt (inl (l, u)) = let within = element_within f i count lt in (aligned_at f a i aligned, inl (omega (arith, l), omega (arith, u, within)))
data_at m f a i count aligned lt (inr (l, u)) = let within = element_within f i count lt in (aligned_at f a i aligned, inr (omega (arith, l), omega (arith, u, within)))

-- The element that is reached stands in static memory or in the stack.
pub hit_data : {m : Map} (addresses : ℕ → ℕ) (memory : Memory) (e : Element) (p : Value) (n : ℕ) (o : Object) (i : ℕ) → AreLaid m addresses memory → Hits memory e p n o i
    → IsDataAt m (size_of e) (addresses n + i * size_of o.element)
hit_data {m} addresses memory e p n o i laid hits =
    subst (λ s. IsDataAt m (size_of e) (addresses n + i * s)) hits.wide
    (data_at m e (addresses n) i (length o.values) (laid.aligned n o hits.there) hits.low (subst (λ s. IsInMemory m (addresses n) (length o.values * s)) (sym hits.wide) (laid.lie n o hits.there)))
