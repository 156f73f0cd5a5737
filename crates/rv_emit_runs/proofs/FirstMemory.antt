-- Static memory that begins with a unit's initial bytes holds the unit's first objects and the bytes that initialise arrays.
use Rattle.std.proofs.Common.{◌≡◌, ◌≢◌, ℕ, zero, suc, ◌+◌, ◌-◌, ◌*◌, ◌/◌, ◌%◌, ◌<◌, ◌≤◌, ◌⊎◌, ⊎_elim, inl, inr, sym, ap, ◌∙◌, subst, arith, refl, Option, Some, None, Bool, true, false, cond, List, [], ◌∷◌, ◌++◌, length, map, take, drop, slice_get}
use Rattle.std.specs.Prelude.{◌==◌, nat_le, option_map, slice_index}
use Rattle.std.specs.Option.{option_map_or}
use Rattle.std.specs.List.{flat_map}
use Rattle.std.proofs.lemmas.Bool.{cases_lt, leb-true}
use Rattle.std.proofs.lemmas.Option.{slice_get_within}
use Rattle.memory_map.specs.Maps.{bytes_end, bytes_start}
use Rattle.memory_map.proofs.Facts.{map_facts}
use Rattle.rv_emit_storage.proofs.UnitMaps.{statics_begin}
use Rattle.rv_emit_runs.proofs.Maps.{over_homes_map}
use Rattle.rv_emit_storage.specs.UnitMaps.{map_of_unit}
use Rattle.rv_machine.specs.State.{bytes_size, stack_size}
use Rattle.rv_machine.specs.Table.{zeros}
use Rattle.graph_core.specs.declared.value.Value.{Value}
use Rattle.graph_core.specs.declared.value.Value.TheVariants.{Number, Pointer, Odd}
use Rattle.graph_core.specs.declared.instruction.Element.{Element}
use Rattle.graph_core.specs.declared.instruction.Element.TheVariants.{Unsigned8, Signed8, Unsigned16, Signed16, Word}
use Rattle.graph_core.specs.declared.unit.Relocation.{Relocation}
use Rattle.graph_core.specs.Graphs.{StaticObject, UnitForm}
use Rattle.graph_core.specs.Values.{size_of, as_element, pointer_at}
use Rattle.graph_core.specs.Memory.{Memory, Object, bytes_of, spelled, element_in, static_bytes, address_at, first_value, first_values, static_objects, first_memory}
use Rattle.graph_core.specs.Validity.{IsValid, AreRelocations, taken_by, total}
use Rattle.graph_homes.specs.Homed.{HomedForm, over_homes}
use Rattle.rv_emit_storage.specs.StaticAddresses.{statics_start, static_sizes, static_addresses, static_at, padded, word_bytes, relocation_at, word_there, word_of_bytes, words_there, bytes_by_element, object_bytes, initial_bytes}
use Rattle.rv_emit_tables.specs.Emitted.{EmittedForm}
use Rattle.rv_emit_storage.specs.Storages.{StorageForm, static_object_at, array_bytes_at}
use Rattle.rv_emit_steps.specs.Holding.{half_at, word_at}
use Rattle.rv_emit_steps.proofs.Bytes.{in_bytes}
use Rattle.rv_emit_steps.specs.Meaning.{size_at, bits_at, low_bits, HoldsBits, HoldsObjects, AreLaid}
use Rattle.rv_emit_steps.specs.Frames.{Setting, HasArray}
use Rattle.rv_emit_steps.proofs.Elements.{kept_means}
use Rattle.rv_emit_steps.proofs.Spelled.{spelled_1, spelled_2, spelled_4}
use Rattle.rv_emit_runs.specs.Loaded.{IsLoaded}
use Rattle.rv_emit_runs.specs.Laid.{Arrangement, code_of, first_bytes}
use Rattle.rv_emit_runs.proofs.Beginnings.{mapped_there}
use Rattle.rv_emit_runs.proofs.Chunks.{with_zeros, in_front, behind_front, front_only, rest_only, padded_at, padded_length, joined, AreChunks, lies_among, lies_before, chunk_at, joined_both, joined_mapped, chunks_both, chunks_mapped, total_both}
use Rattle.rv_emit_runs.proofs.Lists.{all_at, get_some}
use Rattle.base_laws.proofs.Lists.{length_mapped}
use Rattle.base_laws.proofs.Options.{same_some as some_same}

-- ---- Elements

-- The bits of an element that stand in memory are those that bytes spell.
element_bits : (e : Element) (all : List ℕ) (j a : ℕ) (m : ℕ → ℕ) → ((b : ℕ) → m b < 256) → ((i : ℕ) → i < size_of e → m (a + i) ≡ slice_index all (j * size_of e + i))
    → bits_at m (size_of e) a ≡ low_bits (size_of e) (spelled (take (size_of e) (drop (j * size_of e) all)))
element_bits e all j a m small same = by e same
  where
    first : (k : ℕ) → m (a + 0) ≡ slice_index all (k + 0) → m a ≡ slice_index all k
    first k h = let e0 : a ≡ a + 0 = omega arith in let e1 : k + 0 ≡ k = omega arith in ap m e0 ∙ h ∙ ap (slice_index all) e1

    one : (k : ℕ) → m (a + 0) ≡ slice_index all (k + 0) → m a ≡ spelled (take 1 (drop k all)) % 256
    one k h = let s0 = small a in let f = first k h in let n = spelled_1 all k in omega (arith, s0, f, n)

    two : (k : ℕ) → m (a + 0) ≡ slice_index all (k + 0) → m (a + 1) ≡ slice_index all (k + 1) → half_at m a ≡ spelled (take 2 (drop k all)) % 65536
    two k h g = let s0 = small a in let s1 = small (a + 1) in let f = first k h in let n = spelled_2 all k in omega (arith, s0, s1, f, g, n)

    four : (k : ℕ) → m (a + 0) ≡ slice_index all (k + 0) → m (a + 1) ≡ slice_index all (k + 1) → m (a + 2) ≡ slice_index all (k + 2) → m (a + 3) ≡ slice_index all (k + 3) → word_at m a ≡ spelled (take 4 (drop k all))
    four k h0 h1 h2 h3 = let f = first k h0 in let n = spelled_4 all k in omega (arith, f, h1, h2, h3, n)

    by : (x : Element) → ((i : ℕ) → i < size_of x → m (a + i) ≡ slice_index all (j * size_of x + i)) → bits_at m (size_of x) a ≡ low_bits (size_of x) (spelled (take (size_of x) (drop (j * size_of x) all)))
    by Unsigned8 h = one (j * 1) (h 0 (omega arith))
    by Signed8 h = one (j * 1) (h 0 (omega arith))
    by Unsigned16 h = two (j * 2) (h 0 (omega arith)) (h 1 (omega arith))
    by Signed16 h = two (j * 2) (h 0 (omega arith)) (h 1 (omega arith))
    by Word h = four (j * 4) (h 0 (omega arith)) (h 1 (omega arith)) (h 2 (omega arith)) (h 3 (omega arith))

-- An address is kept by words alone.
address_kept : (e : Element) (addresses : ℕ → ℕ) (memory : Memory) (object size offset bits : ℕ) → (e ≡ Word → HoldsBits addresses memory 4 (pointer_at object size offset) bits) → HoldsBits addresses memory (size_of e) (as_element e (pointer_at object size offset)) bits
address_kept Word addresses memory object size offset bits holds = holds refl
address_kept Unsigned8 addresses memory object size offset bits holds = by_test (nat_le offset size)
  where
    by_test : (b : Bool) → HoldsBits addresses memory 1 (as_element Unsigned8 (cond b (Pointer object size offset) Odd)) bits
    by_test true = tt
    by_test false = tt
address_kept Signed8 addresses memory object size offset bits holds = by_test (nat_le offset size)
  where
    by_test : (b : Bool) → HoldsBits addresses memory 1 (as_element Signed8 (cond b (Pointer object size offset) Odd)) bits
    by_test true = tt
    by_test false = tt
address_kept Unsigned16 addresses memory object size offset bits holds = by_test (nat_le offset size)
  where
    by_test : (b : Bool) → HoldsBits addresses memory 2 (as_element Unsigned16 (cond b (Pointer object size offset) Odd)) bits
    by_test true = tt
    by_test false = tt
address_kept Signed16 addresses memory object size offset bits holds = by_test (nat_le offset size)
  where
    by_test : (b : Bool) → HoldsBits addresses memory 2 (as_element Signed16 (cond b (Pointer object size offset) Odd)) bits
    by_test true = tt
    by_test false = tt

-- ---- Words of objects

word_length : (u : UnitForm) (o : StaticObject) (i : ℕ) (bytes : List ℕ) → length bytes ≡ 4 → length (word_there u o i bytes) ≡ 4
word_length u o i bytes four = by_found (relocation_at o.relocations (4 * i))
  where
    by_found : (found : Option Relocation) → length (option_map_or (λ (r : Relocation). word_bytes (static_at u r.object + r.offset)) found bytes) ≡ 4
    by_found None = four
    by_found (Some r) = refl

words_at : (u : UnitForm) (o : StaticObject) (index count i j : ℕ) → i < count → j < 4 → slice_index (words_there u o index count) (4 * i + j) ≡ slice_index (word_there u o (index + i) (word_of_bytes o.bytes (index + i))) j
words_at u o index zero i j lt small = absurd (omega (arith, lt))
words_at u o index (suc count) zero j lt small =
    let w : List ℕ = word_there u o index (word_of_bytes o.bytes index) in
    let four : length w ≡ 4 = word_length u o index (word_of_bytes o.bytes index) refl in
    let here : index ≡ index + 0 = omega arith in
    let at : 4 * 0 + j ≡ j = omega arith in
    ap (slice_index (w ++ words_there u o (index + 1) count)) at ∙ in_front w (words_there u o (index + 1) count) j (omega (arith, four, small)) ∙ ap (λ n. slice_index (word_there u o n (word_of_bytes o.bytes n)) j) here
words_at u o index (suc count) (suc i) j lt small =
    let w : List ℕ = word_there u o index (word_of_bytes o.bytes index) in
    let four : length w ≡ 4 = word_length u o index (word_of_bytes o.bytes index) refl in
    let here : index + 1 + i ≡ index + suc i = omega arith in
    let at : 4 * suc i + j ≡ length w + (4 * i + j) = omega (arith, four) in
    ap (slice_index (w ++ words_there u o (index + 1) count)) at ∙ behind_front w (words_there u o (index + 1) count) (4 * i + j) ∙ words_at u o (index + 1) count i j (omega (arith, lt)) small
    ∙ ap (λ n. slice_index (word_there u o n (word_of_bytes o.bytes n)) j) here

-- The first relocation at an offset is the one by which an element holds an address there.
relocated : (statics : List StaticObject) (all : List Relocation) (at : ℕ) → AreRelocations statics all
    → ((relocation_at all at ≡ None) × (address_at statics all at ≡ None))
    ⊎ ((r : Relocation) × (z : StaticObject) × (relocation_at all at ≡ Some r) × (slice_get statics r.object ≡ Some z) × (address_at statics all at ≡ Some (pointer_at r.object (static_bytes z) r.offset)))
relocated statics [] at are = inl (refl, refl)
relocated statics (r ∷ more) at are = by_test (r.at == at) (relocated statics more at are.1)
  where
    here : (z : StaticObject) → slice_get statics r.object ≡ Some z → option_map (λ (o : StaticObject). pointer_at r.object (static_bytes o) r.offset) (slice_get statics r.object) ≡ Some (pointer_at r.object (static_bytes z) r.offset)
    here z is = ap (option_map (λ (o : StaticObject). pointer_at r.object (static_bytes o) r.offset)) is

    by_test : (b : Bool)
        → ((relocation_at more at ≡ None) × (address_at statics more at ≡ None))
        ⊎ ((q : Relocation) × (z : StaticObject) × (relocation_at more at ≡ Some q) × (slice_get statics q.object ≡ Some z) × (address_at statics more at ≡ Some (pointer_at q.object (static_bytes z) q.offset)))
        → ((cond b (Some r) (relocation_at more at) ≡ None) × (cond b (option_map (λ (o : StaticObject). pointer_at r.object (static_bytes o) r.offset) (slice_get statics r.object)) (address_at statics more at) ≡ None))
        ⊎ ((q : Relocation) × (z : StaticObject) × (cond b (Some r) (relocation_at more at) ≡ Some q) × (slice_get statics q.object ≡ Some z)
        × (cond b (option_map (λ (o : StaticObject). pointer_at r.object (static_bytes o) r.offset) (slice_get statics r.object)) (address_at statics more at) ≡ Some (pointer_at q.object (static_bytes z) q.offset)))
    by_test true later = let some = get_some statics r.object are.0 in inr (r, some.0, refl, some.1, here some.0 some.1)
    by_test false later = later

-- ---- First objects

first_length : (statics : List StaticObject) (o : StaticObject) (i n : ℕ) → length (first_values statics o i n) ≡ n
first_length statics o i zero = refl
first_length statics o i (suc n) = let same = first_length statics o (i + 1) n in omega (arith, same)

first_have : (statics : List StaticObject) (o : StaticObject) (i count j : ℕ) (v : Value) → slice_get (first_values statics o i count) j ≡ Some v → (j < count) × (v ≡ first_value statics o (i + j))
first_have statics o i zero j v found = cc
first_have statics o i (suc n) zero v found =
    let same : first_value statics o i ≡ v = cc in
    let here : i ≡ i + 0 = omega arith in
    (omega arith, sym same ∙ ap (first_value statics o) here)
first_have statics o i (suc n) (suc j) v found =
    let rest = first_have statics o (i + 1) n j v found in
    let next : i + 1 + j ≡ i + suc j = omega arith in
    (omega (arith, rest.0), rest.1 ∙ ap (first_value statics o) next)

-- An object of the first memory is that of a static one.
pub record IsFirst (statics all : List StaticObject) (n : ℕ) (o : Object) : Type 0 where
  pub static : StaticObject
  pub there : slice_get all n ≡ Some static
  pub element : o.element ≡ static.element
  pub values : o.values ≡ first_values statics static 0 static.count
  pub bytes : bytes_of o ≡ static_bytes static

first_of : (statics all : List StaticObject) (k n : ℕ) (o : Object) → slice_get (static_objects statics k all) n ≡ Some o → IsFirst statics all n o
first_of statics [] k n o e = cc
first_of statics (z ∷ all) k zero o e =
    let same = some_same e in
    record {
      static = z;
      there = refl;
      element = ap (λ (q : Object). q.element) (sym same);
      values = ap (λ (q : Object). q.values) (sym same);
      bytes = ap (λ (q : Object). bytes_of q) (sym same) ∙ ap (λ c. c * size_of z.element) (first_length statics z 0 z.count);
    }
first_of statics (z ∷ all) k (suc n) o e =
    let later = first_of statics all (k + 1) n o e in
    record { static = later.static; there = later.there; element = later.element; values = later.values; bytes = later.bytes }

static_size : (statics all : List StaticObject) (k n : ℕ) (o : StaticObject) → slice_get all n ≡ Some o → size_at (static_objects statics k all) n ≡ Some (static_bytes o)
static_size statics [] k n o e = cc
static_size statics (x ∷ all) k zero o e =
    let same : x ≡ o = cc in
    ap (λ c. Some (c * size_of x.element)) (first_length statics x 0 x.count) ∙ ap (λ (z : StaticObject). Some (static_bytes z)) same
static_size statics (x ∷ all) k (suc n) o e = static_size statics all (k + 1) n o e

front_there : {A : Type 0} (xs ys : List A) (n : ℕ) (x : A) → slice_get xs n ≡ Some x → slice_get (xs ++ ys) n ≡ Some x
front_there [] ys n x e = cc
front_there (y ∷ xs) ys zero x e = e
front_there (y ∷ xs) ys (suc n) x e = front_there xs ys n x e

back_there : {A : Type 0} (xs ys : List A) (n : ℕ) (x : A) → slice_get ys n ≡ Some x → slice_get (xs ++ ys) (length xs + n) ≡ Some x
back_there [] ys n x e = let same : 0 + n ≡ n = omega arith in ap (slice_get ys) same ∙ e
back_there (y ∷ xs) ys n x e = let same : length (y ∷ xs) + n ≡ suc (length xs + n) = omega arith in ap (slice_get ((y ∷ xs) ++ ys)) same ∙ back_there xs ys n x e

module _ (u : UnitForm) (valid : IsValid u) (e : EmittedForm) (same_map : e.map ≡ map_of_unit u) (same : e.initial ≡ initial_bytes u) (bytes : (a : ℕ) → first_bytes e a < 256) where
  -- ---- Where they lie

  abbrev chunks : List (List ℕ)
  chunks = map (object_bytes u) u.statics ++ map (λ (b : List ℕ). padded (taken_by (length b)) b) u.array_bytes

  initial_is : e.initial ≡ joined chunks
  initial_is =
      same ∙ ap (λ l. l ++ flat_map (λ (b : List ℕ). padded (taken_by (length b)) b) u.array_bytes) (joined_mapped (object_bytes u) u.statics)
      ∙ ap (λ l. joined (map (object_bytes u) u.statics) ++ l) (joined_mapped (λ (b : List ℕ). padded (taken_by (length b)) b) u.array_bytes)
      ∙ sym (joined_both (map (object_bytes u) u.statics) (map (λ (b : List ℕ). padded (taken_by (length b)) b) u.array_bytes))

  are_chunks : AreChunks chunks (static_sizes u)
  are_chunks =
      chunks_both (map (object_bytes u) u.statics) (map (λ (b : List ℕ). padded (taken_by (length b)) b) u.array_bytes) (map static_bytes u.statics) (map (λ (b : List ℕ). length b) u.array_bytes)
      (chunks_mapped (object_bytes u) static_bytes (λ o. padded_length (taken_by (static_bytes o)) (bytes_by_element u o o.element)) u.statics)
      (chunks_mapped (λ (b : List ℕ). padded (taken_by (length b)) b) (λ (b : List ℕ). length b) (λ b. padded_length (taken_by (length b)) b) u.array_bytes)

  start_is : (statics_start u) ≡ bytes_start (map_of_unit u)
  start_is = statics_begin u

  -- The regions are those of the unit.
  begin_is : (statics_start u) ≡ bytes_start e.map
  begin_is = start_is ∙ sym (ap (λ m. bytes_start m) same_map)

  fits : (statics_start u) + total taken_by (static_sizes u) ≤ bytes_end (map_of_unit u)
  fits =
      let all = total_both static_bytes (λ (b : List ℕ). length b) u.statics u.array_bytes in
      let few = valid.statics in
      let start = start_is in
      omega (arith, all, few, start)

  -- What stands in memory so far behind the beginning of a thing.
  stands_there : (n : ℕ) (c : List ℕ) (s : ℕ) → slice_get chunks n ≡ Some c → slice_get (static_sizes u) n ≡ Some s → (k : ℕ) → k < length c → k < taken_by s → first_bytes e (slice_index (static_addresses u) n + k) ≡ slice_index c k
  stands_there n c s there sized k lt within =
      let start = begin_is in
      let inside = start_is in
      let most = fits in
      let lies = lies_among (static_sizes u) (statics_start u) n s sized in
      let low = lies.low in
      let high = lies.high in
      let at : (statics_start u) + (slice_index (static_addresses u) n + k - bytes_start e.map) ≡ slice_index (static_addresses u) n + k = omega (arith, start, low) in
      in_bytes e.map (e.initial ++ zeros (bytes_size - length e.initial)) (zeros stack_size) (slice_index (static_addresses u) n + k) (omega (arith, start, low)) (omega (arith, high, most, within, start, inside, (map_facts e.map).apart))
      ∙ with_zeros e.initial (bytes_size - length e.initial) (slice_index (static_addresses u) n + k - bytes_start e.map)
      ∙ ap (λ l. slice_index l (slice_index (static_addresses u) n + k - bytes_start e.map)) initial_is
      ∙ chunk_at chunks (static_sizes u) (statics_start u) n c are_chunks there k (slice_index (static_addresses u) n + k - bytes_start e.map) lt at

  -- ---- Static objects

  static_sized : (n : ℕ) (o : StaticObject) → slice_get u.statics n ≡ Some o → slice_get (static_sizes u) n ≡ Some (static_bytes o)
  static_sized n o is = front_there (map static_bytes u.statics) (map (λ (b : List ℕ). length b) u.array_bytes) n (static_bytes o) (mapped_there static_bytes u.statics n o is)

  static_chunk : (n : ℕ) (o : StaticObject) → slice_get u.statics n ≡ Some o → slice_get chunks n ≡ Some (object_bytes u o)
  static_chunk n o is = front_there (map (object_bytes u) u.statics) (map (λ (b : List ℕ). padded (taken_by (length b)) b) u.array_bytes) n (object_bytes u o) (mapped_there (object_bytes u) u.statics n o is)

  -- Where one lies.
  pub record StaticLies (n : ℕ) (o : StaticObject) : Type 0 where
    pub aligned : static_at u n % 4 ≡ 0
    pub low : bytes_start (map_of_unit u) ≤ static_at u n
    pub high : static_at u n + taken_by (static_bytes o) ≤ bytes_end (map_of_unit u)

  pub static_lies : (n : ℕ) (o : StaticObject) → slice_get u.statics n ≡ Some o → StaticLies n o
  static_lies n o is =
      let lies = lies_among (static_sizes u) (statics_start u) n (static_bytes o) (static_sized n o is) in
      let start = start_is in
      let most = fits in
      let low = lies.low in
      let high = lies.high in
      record { aligned = lies.aligned (omega (arith, start, (map_facts (map_of_unit u)).pages)); low = omega (arith, low, start); high = omega (arith, high, most) }

  -- What stands in memory of its bytes, as far as it has elements.
  object_there : (n : ℕ) (o : StaticObject) → slice_get u.statics n ≡ Some o → (k : ℕ) → k < static_bytes o → first_bytes e (static_at u n + k) ≡ slice_index (bytes_by_element u o o.element) k
  object_there n o is k lt =
      let many = padded_length (taken_by (static_bytes o)) (bytes_by_element u o o.element) in
      stands_there n (object_bytes u o) (static_bytes o) (static_chunk n o is) (static_sized n o is) k (omega (arith, lt, many)) (omega (arith, lt))
      ∙ padded_at (taken_by (static_bytes o)) (bytes_by_element u o o.element) k (omega (arith, lt))

  module _ (memory : Memory) (addresses : ℕ → ℕ) (known : (n : ℕ) (o : StaticObject) → slice_get u.statics n ≡ Some o → (size_at memory n ≡ Some (static_bytes o)) × (addresses n ≡ static_at u n)) where
    -- An element that holds no address.
    plain_held : (n : ℕ) (o : StaticObject) → slice_get u.statics n ≡ Some o → (i : ℕ) → i < o.count → ((k : ℕ) → k < size_of o.element → slice_index (bytes_by_element u o o.element) (i * size_of o.element + k) ≡ slice_index o.bytes (i * size_of o.element + k))
        → HoldsBits addresses memory (size_of o.element) (element_in o.bytes o.element i) (bits_at (first_bytes e) (size_of o.element) (static_at u n + i * size_of o.element))
    plain_held n o is i lt same_bytes =
        let number : ℕ = spelled (take (size_of o.element) (drop (i * size_of o.element) o.bytes)) in
        let within : i * size_of o.element + size_of o.element ≤ o.count * size_of o.element = fits_in o.element i o.count lt in
        let bits = element_bits o.element o.bytes i (static_at u n + i * size_of o.element) (first_bytes e) bytes
        (λ k less. let place : static_at u n + i * size_of o.element + k ≡ static_at u n + (i * size_of o.element + k) = omega arith in
        ap (first_bytes e) place ∙ object_there n o is (i * size_of o.element + k) (omega (arith, within, less)) ∙ same_bytes k less) in
        subst (λ y. HoldsBits addresses memory (size_of o.element) (as_element o.element (Number number)) y) (sym bits) (kept_means addresses memory o.element (Number number) number refl)
      where
        fits_in : (x : Element) (j count : ℕ) → j < count → j * size_of x + size_of x ≤ count * size_of x
        fits_in Unsigned8 j count below = omega (arith, below)
        fits_in Signed8 j count below = omega (arith, below)
        fits_in Unsigned16 j count below = omega (arith, below)
        fits_in Signed16 j count below = omega (arith, below)
        fits_in Word j count below = omega (arith, below)

    -- An address.
    address_held : (n : ℕ) (o : StaticObject) → slice_get u.statics n ≡ Some o → o.element ≡ Word → (i : ℕ) → i < o.count → (r : Relocation) (z : StaticObject) → relocation_at o.relocations (4 * i) ≡ Some r → slice_get u.statics r.object ≡ Some z
        → HoldsBits addresses memory 4 (pointer_at r.object (static_bytes z) r.offset) (word_at (first_bytes e) (static_at u n + i * 4))
    address_held n o is words i lt r z found there = by_test (nat_le r.offset (static_bytes z)) refl
      where
        byte : (k : ℕ) → k < 4 → first_bytes e (static_at u n + i * 4 + k) ≡ slice_index (word_bytes (static_at u r.object + r.offset)) k
        byte k small =
            let place : static_at u n + i * 4 + k ≡ static_at u n + (4 * i + k) = omega arith in
            let size : static_bytes o ≡ o.count * 4 = ap (λ x. o.count * size_of x) words in
            let zero_plus : 0 + i ≡ i = omega arith in
            ap (first_bytes e) place
            ∙ object_there n o is (4 * i + k) (omega (arith, size, lt, small))
            ∙ ap (λ x. slice_index (bytes_by_element u o x) (4 * i + k)) words
            ∙ words_at u o 0 o.count i k lt small
            ∙ ap (λ j. slice_index (word_there u o j (word_of_bytes o.bytes j)) k) zero_plus
            ∙ ap (λ f. slice_index (option_map_or (λ (q : Relocation). word_bytes (static_at u q.object + q.offset)) f (word_of_bytes o.bytes i)) k) found

        in_it : r.offset ≤ static_bytes z → HoldsBits addresses memory 4 (Pointer r.object (static_bytes z) r.offset) (word_at (first_bytes e) (static_at u n + i * 4))
        in_it le =
            let lies = static_lies r.object z there in
            let high = lies.high in
            let here : static_at u n + i * 4 + 0 ≡ static_at u n + i * 4 = omega arith in
            let b0 : first_bytes e (static_at u n + i * 4) ≡ (static_at u r.object + r.offset) % 256 = ap (first_bytes e) (sym here) ∙ byte 0 (omega arith) in
            let b1 : first_bytes e (static_at u n + i * 4 + 1) ≡ (static_at u r.object + r.offset) / 256 % 256 = byte 1 (omega arith) in
            let b2 : first_bytes e (static_at u n + i * 4 + 2) ≡ (static_at u r.object + r.offset) / 65536 % 256 = byte 2 (omega arith) in
            let b3 : first_bytes e (static_at u n + i * 4 + 3) ≡ (static_at u r.object + r.offset) / 16777216 % 256 = byte 3 (omega arith) in
            let at = (known r.object z there).1 in
            ((known r.object z there).0, le, omega (arith, b0, b1, b2, b3, at, high, le, (map_facts (map_of_unit u)).apart, (map_facts (map_of_unit u)).whole))

        by_test : (b : Bool) → nat_le r.offset (static_bytes z) ≡ b → HoldsBits addresses memory 4 (cond b (Pointer r.object (static_bytes z) r.offset) Odd) (word_at (first_bytes e) (static_at u n + i * 4))
        by_test true le = in_it (leb-true r.offset (static_bytes z) le)
        by_test false le = tt

    -- Whichever an element is.
    element_held : (n : ℕ) (o : StaticObject) → slice_get u.statics n ≡ Some o → (i : ℕ) → i < o.count
        → HoldsBits addresses memory (size_of o.element) (first_value u.statics o i) (bits_at (first_bytes e) (size_of o.element) (static_at u n + i * size_of o.element))
    element_held n o is i lt = by_element o.element refl (relocated u.statics o.relocations (i * size_of o.element) (all_at (λ (x : StaticObject). AreRelocations u.statics x.relocations) u.statics n o valid.relocations is))
      where
        -- Bytes of an object of anything but words are its own.
        narrow : (x : Element) → o.element ≡ x → bytes_by_element u o x ≡ padded (static_bytes o) o.bytes → (k : ℕ) → k < size_of o.element → slice_index (bytes_by_element u o o.element) (i * size_of o.element + k) ≡ slice_index o.bytes (i * size_of o.element + k)
        narrow x at made k less =
            ap (λ y. slice_index (bytes_by_element u o y) (i * size_of o.element + k)) at ∙ ap (λ l. slice_index l (i * size_of o.element + k)) made
            ∙ padded_at (static_bytes o) o.bytes (i * size_of o.element + k) (within o.element k less)
          where
            within : (y : Element) (m : ℕ) → m < size_of y → i * size_of y + m < o.count * size_of y
            within Unsigned8 m below = omega (arith, below, lt)
            within Signed8 m below = omega (arith, below, lt)
            within Unsigned16 m below = omega (arith, below, lt)
            within Signed16 m below = omega (arith, below, lt)
            within Word m below = omega (arith, below, lt)

        -- A word that no relocation is for.
        wide : o.element ≡ Word → relocation_at o.relocations (i * size_of o.element) ≡ None → (k : ℕ) → k < size_of o.element → slice_index (bytes_by_element u o o.element) (i * size_of o.element + k) ≡ slice_index o.bytes (i * size_of o.element + k)
        wide at none k less =
            let size : size_of o.element ≡ 4 = ap size_of at in
            let place : i * size_of o.element + k ≡ 4 * i + k = ap (λ x. i * x + k) size ∙ omega arith in
            let offset : 4 * i ≡ i * size_of o.element = (let plain : 4 * i ≡ i * 4 = omega arith in plain) ∙ ap (λ x. i * x) (sym size) in
            let zero_plus : 0 + i ≡ i = omega arith in
            ap (λ y. slice_index (bytes_by_element u o y) (i * size_of o.element + k)) at
            ∙ ap (λ j. slice_index (words_there u o 0 o.count) j) place
            ∙ words_at u o 0 o.count i k lt (omega (arith, less, size))
            ∙ ap (λ j. slice_index (word_there u o j (word_of_bytes o.bytes j)) k) zero_plus
            ∙ ap (λ f. slice_index (option_map_or (λ (q : Relocation). word_bytes (static_at u q.object + q.offset)) f (word_of_bytes o.bytes i)) k) (ap (relocation_at o.relocations) offset ∙ none)
            ∙ four k (omega (arith, less, size))
            ∙ ap (slice_index o.bytes) (sym place)
          where
            four : (j : ℕ) → j < 4 → slice_index (word_of_bytes o.bytes i) j ≡ slice_index o.bytes (4 * i + j)
            four zero small = let here : 4 * i ≡ 4 * i + 0 = omega arith in ap (slice_index o.bytes) here
            four (suc zero) small = refl
            four (suc (suc zero)) small = refl
            four (suc (suc (suc zero))) small = refl
            four (suc (suc (suc (suc j)))) small = absurd (omega (arith, small))

        own : ((k : ℕ) → k < size_of o.element → slice_index (bytes_by_element u o o.element) (i * size_of o.element + k) ≡ slice_index o.bytes (i * size_of o.element + k)) → address_at u.statics o.relocations (i * size_of o.element) ≡ None
            → HoldsBits addresses memory (size_of o.element) (first_value u.statics o i) (bits_at (first_bytes e) (size_of o.element) (static_at u n + i * size_of o.element))
        own same_bytes none =
            subst (λ v. HoldsBits addresses memory (size_of o.element) v (bits_at (first_bytes e) (size_of o.element) (static_at u n + i * size_of o.element))) (sym (ap (λ f. option_map_or (as_element o.element) f (element_in o.bytes o.element i)) none)) (plain_held n o is i lt same_bytes)

        foreign : (r : Relocation) (z : StaticObject) → relocation_at o.relocations (i * size_of o.element) ≡ Some r → slice_get u.statics r.object ≡ Some z → address_at u.statics o.relocations (i * size_of o.element) ≡ Some (pointer_at r.object (static_bytes z) r.offset)
            → HoldsBits addresses memory (size_of o.element) (first_value u.statics o i) (bits_at (first_bytes e) (size_of o.element) (static_at u n + i * size_of o.element))
        foreign r z found there address =
            subst (λ v. HoldsBits addresses memory (size_of o.element) v (bits_at (first_bytes e) (size_of o.element) (static_at u n + i * size_of o.element))) (sym (ap (λ f. option_map_or (as_element o.element) f (element_in o.bytes o.element i)) address))
            (address_kept o.element addresses memory r.object (static_bytes z) r.offset (bits_at (first_bytes e) (size_of o.element) (static_at u n + i * size_of o.element))
            (λ at.
            let size : size_of o.element ≡ 4 = ap size_of at in
            let plain : i * 4 ≡ 4 * i = omega arith in
            let offset : i * size_of o.element ≡ 4 * i = ap (λ x. i * x) size ∙ plain in
            subst (λ x. HoldsBits addresses memory 4 (pointer_at r.object (static_bytes z) r.offset) (bits_at (first_bytes e) x (static_at u n + i * x))) (sym size) (address_held n o is at i lt r z (subst (λ x. relocation_at o.relocations x ≡ Some r) offset found) there)))

        by_element : (x : Element) → o.element ≡ x
            → ((relocation_at o.relocations (i * size_of o.element) ≡ None) × (address_at u.statics o.relocations (i * size_of o.element) ≡ None))
            ⊎ ((r : Relocation) × (z : StaticObject) × (relocation_at o.relocations (i * size_of o.element) ≡ Some r) × (slice_get u.statics r.object ≡ Some z) × (address_at u.statics o.relocations (i * size_of o.element) ≡ Some (pointer_at r.object (static_bytes z) r.offset)))
            → HoldsBits addresses memory (size_of o.element) (first_value u.statics o i) (bits_at (first_bytes e) (size_of o.element) (static_at u n + i * size_of o.element))
        by_element x at (inr (r, z, found, there, address)) = foreign r z found there address
        by_element Unsigned8 at (inl (none, plain)) = own (narrow Unsigned8 at refl) plain
        by_element Signed8 at (inl (none, plain)) = own (narrow Signed8 at refl) plain
        by_element Unsigned16 at (inl (none, plain)) = own (narrow Unsigned16 at refl) plain
        by_element Signed16 at (inl (none, plain)) = own (narrow Signed16 at refl) plain
        by_element Word at (inl (none, plain)) = own (wide at none) plain

  -- ---- All of it

  module _ (storage : StorageForm) (base : storage.base + 1 ≤ 4294967296) (statics : storage.statics ≡ take (length u.statics) (static_addresses u)) (arrays : storage.arrays ≡ drop (length u.statics) (static_addresses u)) where
    static_is : (n : ℕ) (o : StaticObject) → slice_get u.statics n ≡ Some o → static_object_at storage n ≡ static_at u n
    static_is n o is = ap (λ l. slice_index l n) statics ∙ front_only (length u.statics) (static_addresses u) n (slice_get_within u.statics n o is)

    laid : AreLaid (map_of_unit u) (λ n. static_object_at storage n) (first_memory u.statics)
    laid = record {
      aligned = λ n o is. let f = first_of u.statics u.statics 0 n o is in ap (λ a. a % 4) (static_is n f.static f.there) ∙ (static_lies n f.static f.there).aligned;
      lie = λ n o is.
          let f = first_of u.statics u.statics 0 n o is in
          let at = static_is n f.static f.there in
          let lies = static_lies n f.static f.there in
          let low = lies.low in
          let high = lies.high in
          let size = f.bytes in
          inl (omega (arith, at, low), omega (arith, at, high, size));
      apart = λ m n o p ne im in_n lm ln.
          let f = first_of u.statics u.statics 0 m o im in
          let g = first_of u.statics u.statics 0 n p in_n in
          let am = static_is m f.static f.there in
          let an = static_is n g.static g.there in
          let sm = f.bytes in
          let sn = g.bytes in
          let wm = slice_get_within (static_sizes u) m (static_bytes f.static) (static_sized m f.static f.there) in
          let wn = slice_get_within (static_sizes u) n (static_bytes g.static) (static_sized n g.static g.there) in
          ⊎_elim
          (λ (lt : m < n). let before = lies_before (static_sizes u) (statics_start u) m n (static_bytes f.static) lt (static_sized m f.static f.there) wn in inl (omega (arith, am, an, sm, before)))
          (λ (ge : n ≤ m). let other : m ≢ n = ne in let before = lies_before (static_sizes u) (statics_start u) n m (static_bytes g.static) (omega (arith, ge, other)) (static_sized n g.static g.there) wm in inr (omega (arith, am, an, sn, before)))
          (cases_lt m n);
    }

    objects : HoldsObjects (λ n. static_object_at storage n) (first_memory u.statics) (first_bytes e)
    objects n o is live i v at =
        let f = first_of u.statics u.statics 0 n o is in
        let z : StaticObject = f.static in
        let have = first_have u.statics z 0 z.count i v (subst (λ l. slice_get l i ≡ Some v) f.values at) in
        let zero_plus : 0 + i ≡ i = omega arith in
        let value : v ≡ first_value u.statics z i = have.1 ∙ ap (first_value u.statics z) zero_plus in
        let holds = element_held (first_memory u.statics) (λ k. static_object_at storage k) (λ k x there. (static_size u.statics u.statics 0 k x there, static_is k x there)) n z f.there i have.0 in
        subst (λ x. HoldsBits (λ k. static_object_at storage k) (first_memory u.statics) x v (bits_at (first_bytes e) x (static_object_at storage n + i * x))) (sym (ap size_of f.element))
        (subst (λ a. HoldsBits (λ k. static_object_at storage k) (first_memory u.statics) (size_of z.element) v (bits_at (first_bytes e) (size_of z.element) (a + i * size_of z.element))) (sym (static_is n z f.there))
        (subst (λ x. HoldsBits (λ k. static_object_at storage k) (first_memory u.statics) (size_of z.element) x (bits_at (first_bytes e) (size_of z.element) (static_at u n + i * size_of z.element))) (sym value) holds))

    -- The bytes that initialise an array.
    array_is : (n : ℕ) → array_bytes_at storage n ≡ slice_index (static_addresses u) (length u.statics + n)
    array_is n = ap (λ l. slice_index l n) arrays ∙ rest_only (length u.statics) (static_addresses u) n

    array_sized : (n : ℕ) (all : List ℕ) → slice_get u.array_bytes n ≡ Some all → slice_get (static_sizes u) (length u.statics + n) ≡ Some (length all)
    array_sized n all is =
        let many = length_mapped static_bytes u.statics in
        let here : length u.statics + n ≡ length (map static_bytes u.statics) + n = omega (arith, many) in
        ap (slice_get (static_sizes u)) here ∙ back_there (map static_bytes u.statics) (map (λ (b : List ℕ). length b) u.array_bytes) n (length all) (mapped_there (λ (b : List ℕ). length b) u.array_bytes n all is)

    array_chunk : (n : ℕ) (all : List ℕ) → slice_get u.array_bytes n ≡ Some all → slice_get chunks (length u.statics + n) ≡ Some (padded (taken_by (length all)) all)
    array_chunk n all is =
        let many = length_mapped (object_bytes u) u.statics in
        let here : length u.statics + n ≡ length (map (object_bytes u) u.statics) + n = omega (arith, many) in
        ap (slice_get chunks) here
        ∙ back_there (map (object_bytes u) u.statics) (map (λ (b : List ℕ). padded (taken_by (length b)) b) u.array_bytes) n (padded (taken_by (length all)) all) (mapped_there (λ (b : List ℕ). padded (taken_by (length b)) b) u.array_bytes n all is)

    array_held : (w : Setting) → map_of_unit w.unit ≡ map_of_unit u → w.storage ≡ storage → w.addresses ≡ (λ n. static_object_at storage n) → (n : ℕ) (all : List ℕ) → slice_get u.array_bytes n ≡ Some all → HasArray w (first_memory u.statics) (first_bytes e) n all
    array_held w same_unit same_storage same_addresses n all is =
        let same_start : bytes_start (map_of_unit w.unit) ≡ bytes_start (map_of_unit u) = ap (λ m. bytes_start m) same_unit in
        let lies = lies_among (static_sizes u) (statics_start u) (length u.statics + n) (length all) (array_sized n all is) in
        let start = start_is in
        let most = fits in
        let low = lies.low in
        let high = lies.high in
        let at : array_bytes_at w.storage n ≡ slice_index (static_addresses u) (length u.statics + n) = ap (λ (s : StorageForm). array_bytes_at s n) same_storage ∙ array_is n in
        record {
          aligned = ap (λ a. a % 4) at ∙ lies.aligned (omega (arith, start, (map_facts (map_of_unit u)).pages));
          low = omega (arith, at, low, start, same_start);
          high = omega (arith, at, high, most, same_start);
          bytes = λ i lt.
              let many = padded_length (taken_by (length all)) all in
              ap (λ a. first_bytes e (a + i)) at
              ∙ stands_there (length u.statics + n) (padded (taken_by (length all)) all) (length all) (array_chunk n all is) (array_sized n all is) i (omega (arith, many, lt)) (omega (arith, lt))
              ∙ padded_at (taken_by (length all)) all i (omega (arith, lt));
          apart = λ k o there live.
              let f = first_of u.statics u.statics 0 k o there in
              let ak : w.addresses k ≡ static_at u k = ap (λ (g : ℕ → ℕ). g k) same_addresses ∙ static_is k f.static f.there in
              let size = f.bytes in
              let lt = slice_get_within u.statics k f.static f.there in
              let within = slice_get_within (static_sizes u) (length u.statics + n) (length all) (array_sized n all is) in
              let before = lies_before (static_sizes u) (statics_start u) k (length u.statics + n) (static_bytes f.static) (omega (arith, lt)) (static_sized k f.static f.there) within in
              inl (omega (arith, at, ak, size, before));
        }

    pub is_loaded : (v : UnitForm) → map_of_unit v ≡ map_of_unit u → v.statics ≡ u.statics → v.array_bytes ≡ u.array_bytes → IsLoaded v storage (λ n. static_object_at storage n) (first_bytes e)
    is_loaded v same_v same_statics same_arrays = record {
      fits = base;
      laid = subst (λ m. AreLaid m (λ n. static_object_at storage n) (first_memory v.statics)) (sym same_v) (subst (λ s. AreLaid (map_of_unit u) (λ n. static_object_at storage n) (first_memory s)) (sym same_statics) laid);
      objects = subst (λ s. HoldsObjects (λ n. static_object_at storage n) (first_memory s) (first_bytes e)) (sym same_statics) objects;
      static = λ n o is.
          let f = first_of u.statics u.statics 0 n o (subst (λ s. slice_get (first_memory s) n ≡ Some o) same_statics is) in
          let at = static_is n f.static f.there in
          let high = (static_lies n f.static f.there).high in
          let size = f.bytes in
          let same_start : bytes_start (map_of_unit v) ≡ bytes_start (map_of_unit u) = ap (λ m. bytes_start m) same_v in
          omega (arith, at, high, size, same_start);
      at = λ n o is. refl;
      arrays = λ w same_unit same_storage same_addresses n all is.
          subst (λ s. HasArray w (first_memory s) (first_bytes e) n all) (sym same_statics) (array_held w (ap (λ x. map_of_unit x) same_unit ∙ same_v) same_storage same_addresses n all (subst (λ l. slice_get l n ≡ Some all) same_arrays is));
    }

-- Where static memory begins with the initial bytes of a unit, it is loaded as the unit's run begins.
pub first_loaded : (h : HomedForm) → IsValid h.unit → (a : Arrangement) → a.base + 1 ≤ 4294967296 → (e : EmittedForm) → e.map ≡ map_of_unit h.unit → e.initial ≡ initial_bytes h.unit → ((b : ℕ) → first_bytes e b < 256)
    → IsLoaded (over_homes h) (code_of h a h.unit.main).storage (λ n. static_object_at (code_of h a h.unit.main).storage n) (first_bytes e)
first_loaded h valid a base e same_map same bytes = is_loaded h.unit valid e same_map same bytes (code_of h a h.unit.main).storage base refl refl (over_homes h) (over_homes_map h) refl refl
