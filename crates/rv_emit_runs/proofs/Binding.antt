-- The words that bind a parameter give its scalar or the first element of its object the value that was passed.
use Rattle.std.proofs.Common.{◌≡◌, ◌≢◌, ℕ, ◌+◌, ◌*◌, ◌/◌, ◌%◌, ◌<◌, ◌≤◌, ⊎_elim, sym, ap, ◌∙◌, subst, arith, refl, Option, Some, None, Bool, true, false, cond, ◌&&◌, [], length, slice_get, slice_set}
use Rattle.std.specs.Prelude.{◌==◌, nat_lt, nat_le, option_map, option_and_then}
use Rattle.std.specs.Option.{option_map_or}
use Rattle.std.proofs.lemmas.Bool.{lt-ltb, le-leb, le-ltb, cases_eq, cases_lt}
use Rattle.std.proofs.lemmas.List.{length-set}
use Rattle.std.proofs.lemmas.Option.{slice_get_within}
use Rattle.graph_core.specs.declared.graph.MemoryObject.{MemoryObject}
use Rattle.graph_core.specs.declared.instruction.Element.{Element}
use Rattle.graph_core.specs.declared.instruction.Element.TheVariants.{Unsigned8, Signed8, Unsigned16, Signed16, Word}
use Rattle.graph_core.specs.declared.value.Value.{Value}
use Rattle.graph_core.specs.declared.value.Value.TheVariants.{Pointer, Odd}
use Rattle.graph_core.specs.Graphs.{Binding, ToScalar, ToObject, Graph, Automatic}
use Rattle.graph_core.specs.Values.{size_of, pointer_at, as_element}
use Rattle.graph_core.specs.Memory.{Memory, Object, bytes_of, pointer_to_object, write, write_in, written_in, with_value, index_in}
use Rattle.graph_core.specs.Runs.{Configuration, set_first, take_value}
use Rattle.graph_core.specs.Validity.{IsInObject}
use Rattle.graph_homes.specs.declared.home.Home.{Home}
use Rattle.graph_homes.specs.Homed.{home_number}
use Rattle.rv_emit_storage.specs.Storages.{StorageForm, home_at, object_at}
use Rattle.rv_emit_words.specs.Operands.{home_written}
use Rattle.rv_emit_instructions.specs.Memory.{frame_reach, storing}
use Rattle.rv_emit_steps.specs.Holding.{Holding}
use Rattle.rv_emit_steps.specs.Meaning.{Means}
use Rattle.rv_emit_steps.specs.Frames.{Setting, IsStorage, HoldsFrame}
use Rattle.rv_emit_steps.proofs.Accesses.{Hits}
use Rattle.rv_emit_steps.proofs.Arrays.{those_same}
use Rattle.rv_emit_steps.proofs.Homes.{can_write, home_performed}
use Rattle.rv_emit_steps.proofs.Instructions.{element_stored}
use Rattle.rv_emit_steps.proofs.Objects.{AreThose, those_set, set_here, set_elsewhere}
use Rattle.rv_emit_steps.proofs.Reaching.{Finds, location_found}
use Rattle.rv_emit_code.specs.Beginning.{element_of, binding_code}
use Rattle.rv_emit_runs.proofs.Bringing.{home_made}
use Rattle.rv_emit_runs.proofs.Spare.{BindsOne, HasRoom, performs_binds, spare_stored}
use Rattle.base_laws.proofs.Booleans.{and_false as and_none}

-- The objects of an activation are in memory, live, with their elements and as many of them.
pub record IsOwnObject (memory : Memory) (n : ℕ) (m : MemoryObject) : Type 0 where
  pub object : Object
  pub there : slice_get memory n ≡ Some object
  pub live : object.live ≡ true
  pub element : object.element ≡ m.element
  pub count : length object.values ≡ m.count

abbrev pub AreOwnObjects : Memory → (first : ℕ) → Graph → Type 0
AreOwnObjects memory first g = (k : ℕ) (m : MemoryObject) → slice_get g.objects k ≡ Some m → IsOwnObject memory (first + k) m

-- A binding names a scalar of the function, or an object of it.
abbrev pub IsBindable : Graph → Binding → Type 0
IsBindable g (ToScalar x) = x < g.name_count
IsBindable g (ToObject k) = (m : MemoryObject) × (slice_get g.objects k ≡ Some m)

-- What a binding makes of a configuration.
abbrev pub bound : Setting → Binding → Value → Configuration → Configuration
bound w (ToScalar x) v c = record c { here = take_value (home_number (home_at w.storage x)) v c.here }
bound w (ToObject k) v c = record c { memory = set_first (c.here.first_object + k) v c.memory }

-- The home that it writes, if it writes one.
abbrev pub bound_home : StorageForm → Binding → Option Home
bound_home g (ToScalar x) = Some (home_at g x)
bound_home g (ToObject k) = None

-- ---- The first element

-- The first element of an object is at its index 0.
index_first : (e : Element) (o : Object) → o.live ≡ true → o.element ≡ e → 0 < length o.values → index_in e 0 o ≡ Some 0
index_first e o live same some =
    subst (λ q. index_in q 0 o ≡ Some 0) same (by_element o.element refl)
  where
    by_parts : (l m : Bool) (s : ℕ) → l ≡ true → m ≡ true → (s == s) ≡ true → (0 % s == 0) ≡ true → 0 / s ≡ 0 → cond (((l && (s == s)) && (0 % s == 0)) && m) (Some (0 / s)) None ≡ Some 0
    by_parts true true s el em same_size whole none = ap (λ a. cond ((a && (0 % s == 0)) && true) (Some (0 / s)) None) same_size ∙ ap (λ a. cond (a && true) (Some (0 / s)) None) whole ∙ ap (λ n. Some n) none
    by_parts true false s el em same_size whole none = cc
    by_parts false m s el em same_size whole none = cc

    by_element : (q : Element) → o.element ≡ q → index_in o.element 0 o ≡ Some 0
    by_element Unsigned8 is = subst (λ z. cond (((o.live && (size_of z == size_of z)) && (0 % size_of z == 0)) && nat_lt (0 / size_of z) (length o.values)) (Some (0 / size_of z)) None ≡ Some 0) (sym is) (by_parts o.live (nat_lt 0 (length o.values)) 1 live (lt-ltb 0 (length o.values) some) refl refl refl)
    by_element Signed8 is = subst (λ z. cond (((o.live && (size_of z == size_of z)) && (0 % size_of z == 0)) && nat_lt (0 / size_of z) (length o.values)) (Some (0 / size_of z)) None ≡ Some 0) (sym is) (by_parts o.live (nat_lt 0 (length o.values)) 1 live (lt-ltb 0 (length o.values) some) refl refl refl)
    by_element Unsigned16 is = subst (λ z. cond (((o.live && (size_of z == size_of z)) && (0 % size_of z == 0)) && nat_lt (0 / size_of z) (length o.values)) (Some (0 / size_of z)) None ≡ Some 0) (sym is) (by_parts o.live (nat_lt 0 (length o.values)) 2 live (lt-ltb 0 (length o.values) some) refl refl refl)
    by_element Signed16 is = subst (λ z. cond (((o.live && (size_of z == size_of z)) && (0 % size_of z == 0)) && nat_lt (0 / size_of z) (length o.values)) (Some (0 / size_of z)) None ≡ Some 0) (sym is) (by_parts o.live (nat_lt 0 (length o.values)) 2 live (lt-ltb 0 (length o.values) some) refl refl refl)
    by_element Word is = subst (λ z. cond (((o.live && (size_of z == size_of z)) && (0 % size_of z == 0)) && nat_lt (0 / size_of z) (length o.values)) (Some (0 / size_of z)) None ≡ Some 0) (sym is) (by_parts o.live (nat_lt 0 (length o.values)) 4 live (lt-ltb 0 (length o.values) some) refl refl refl)

-- So it is that what is written becomes.
pub first_set : (memory : Memory) (n : ℕ) (v : Value) (o : Object) → slice_get memory n ≡ Some o → o.live ≡ true → 0 < length o.values → set_first n v memory ≡ slice_set memory n (with_value 0 v o)
first_set memory n v o there live some =
    ap (λ q. option_map_or (λ (z : Object). option_map_or (λ m. m) (write memory z.element (pointer_to_object memory n) v) memory) q memory) there
    ∙ ap (λ q. option_map_or (λ m. m) (write memory o.element q v) memory) (ap (λ (q : Option Object). option_map_or (λ (z : Object). Pointer n (bytes_of z) 0) q Odd) there)
    ∙ ap (λ q. option_map_or (λ m. m) (option_and_then (write_in memory n o.element 0 v) q) memory) there
    ∙ ap (λ q. option_map_or (λ m. m) (option_map (written_in memory n v o) q) memory) (index_first o.element o live refl some)

no_first : (o : Object) → length o.values ≡ 0 → index_in o.element 0 o ≡ None
no_first o none =
    let out : nat_lt (0 / size_of o.element) (length o.values) ≡ false = le-ltb (0 / size_of o.element) (length o.values) (omega (arith, none)) in
    ap (λ b. cond (((o.live && (size_of o.element == size_of o.element)) && (0 % size_of o.element == 0)) && b) (Some (0 / size_of o.element)) None) out
    ∙ ap (λ b. cond b (Some (0 / size_of o.element)) None) (and_none ((o.live && (size_of o.element == size_of o.element)) && (0 % size_of o.element == 0)))

pub none_set : (memory : Memory) (n : ℕ) (v : Value) (o : Object) → slice_get memory n ≡ Some o → length o.values ≡ 0 → set_first n v memory ≡ memory
none_set memory n v o there none =
    ap (λ q. option_map_or (λ (z : Object). option_map_or (λ m. m) (write memory z.element (pointer_to_object memory n) v) memory) q memory) there
    ∙ ap (λ q. option_map_or (λ m. m) (write memory o.element q v) memory) (ap (λ (q : Option Object). option_map_or (λ (z : Object). Pointer n (bytes_of z) 0) q Odd) there)
    ∙ ap (λ q. option_map_or (λ m. m) (option_and_then (write_in memory n o.element 0 v) q) memory) there
    ∙ ap (λ q. option_map_or (λ m. m) (option_map (written_in memory n v o) q) memory) (no_first o none)

none_le : (n : ℕ) → nat_le 0 n ≡ true
none_le n = le-leb 0 n (omega arith)

-- ---- One binding

module _ (w : Setting) (c : Configuration) (h : Holding) (storage : IsStorage w) (frame : HoldsFrame w c h) (own : AreOwnObjects c.memory c.here.first_object w.graph) (r : ℕ) (low : 10 ≤ r) (v : Value) (means : Means w.addresses c.memory v (h.registers r)) (fits : h.registers r < 4294967296) (room : HasRoom w) where
  first_finds : (k : ℕ) (m : MemoryObject) → slice_get w.graph.objects k ≡ Some m → IsOwnObject c.memory (c.here.first_object + k) m → Finds (frame_reach (object_at w.storage k)) h (w.addresses (c.here.first_object + k) + 0)
  first_finds k m is mine =
      let inside : object_at w.storage k ≤ w.size = storage.objects k (slice_get_within w.graph.objects k m is) in
      let high = frame.high in
      let same : (object_at w.storage k + 0) % 4294967296 ≡ object_at w.storage k = omega (arith, inside, high) in
      subst (λ x. Finds (frame_reach x) h (w.addresses (c.here.first_object + k) + 0)) same
      (location_found w c h (Automatic k 0) (c.here.first_object + k) (bytes_of mine.object) 0 storage frame (within (slice_get w.graph.objects k) is) tt
      (ap (λ (q : Option Object). option_map_or (λ (z : Object). pointer_at (c.here.first_object + k) (bytes_of z) 0) q Odd) mine.there ∙ ap (λ b. cond b (Pointer (c.here.first_object + k) (bytes_of mine.object) 0) Odd) (none_le (bytes_of mine.object))))
    where
      within : (q : Option MemoryObject) → q ≡ Some m → IsInObject q 0
      within None e = cc
      within (Some z) e = omega arith

  pub binding_performs : (b : Binding) → IsBindable w.graph b → BindsOne w c h (bound_home w.storage b) (binding_code w.storage w.graph r b) (bound w b v c)
  binding_performs (ToScalar x) is =
      performs_binds w c h (Some (home_at w.storage x)) (home_written w.storage (home_at w.storage x) r) (bound w (ToScalar x) v c)
      (home_performed w c h (home_at w.storage x) v (h.registers r) (home_written w.storage (home_at w.storage x) r) storage frame (storage.homes x is)
      (home_made w.storage h (home_at w.storage x) r (h.registers r) (can_write w c h (home_at w.storage x) storage frame (storage.homes x is)) (λ e. omega (arith, low, e)) refl fits) means)
  binding_performs (ToObject k) (m, is) =
      let mine : IsOwnObject c.memory (c.here.first_object + k) m = own k m is in
      let o : Object = mine.object in
      let n : ℕ = c.here.first_object + k in
      let e : element_of w.graph k ≡ o.element = ap (λ (q : Option MemoryObject). option_map_or (λ (z : MemoryObject). z.element) q Word) is ∙ sym mine.element in
      subst (λ q. BindsOne w c h None (storing q (frame_reach (object_at w.storage k)) r) (record c { memory = set_first n v c.memory })) (sym e)
      (⊎_elim
      (λ (many : 0 < length o.values).
      let hits : Hits c.memory o.element (Pointer n (bytes_of o) 0) n o 0 = record { size = bytes_of o; offset = 0; is = refl; there = mine.there; live = mine.live; wide = refl; at = omega arith; low = many } in
      let none : w.addresses n + 0 ≡ w.addresses n + 0 * size_of o.element = omega arith in
      let finds : Finds (frame_reach (object_at w.storage k)) h (w.addresses n + 0 * size_of o.element) = subst (λ q. Finds (frame_reach (object_at w.storage k)) h q) none (first_finds k m is mine) in
      subst (λ q. BindsOne w c h None (storing o.element (frame_reach (object_at w.storage k)) r) (record c { memory = q })) (sym (first_set c.memory n v o mine.there mine.live many))
      (performs_binds w c h None (storing o.element (frame_reach (object_at w.storage k)) r) (record c { memory = slice_set c.memory n (with_value 0 v o) })
      (element_stored w c h storage frame [] (frame_reach (object_at w.storage k)) o.element r (h.registers r) (Pointer n (bytes_of o) 0) v n o 0 hits tt refl (λ q left. refl) refl refl finds (λ z. omega (arith, low, z)) (λ z. omega (arith, low, z)) means fits)))
      (λ (few : length o.values ≤ 0).
      let empty : length o.values ≡ 0 = omega (arith, few) in
      let none : w.addresses n + 0 ≡ w.addresses n = omega arith in
      let finds : Finds (frame_reach (object_at w.storage k)) h (w.addresses n) = subst (λ q. Finds (frame_reach (object_at w.storage k)) h q) none (first_finds k m is mine) in
      let bytes : bytes_of o ≡ 0 = ap (λ q. q * size_of o.element) empty ∙ (let nothing : 0 * size_of o.element ≡ 0 = omega arith in nothing) in
      subst (λ q. BindsOne w c h None (storing o.element (frame_reach (object_at w.storage k)) r) (record c { memory = q })) (sym (none_set c.memory n v o mine.there empty))
      (spare_stored w c h storage frame k (slice_get_within w.graph.objects k m is) o mine.there mine.live bytes (room k m is).0 (room k m is).1 o.element (h.registers r) (frame_reach (object_at w.storage k)) r refl (λ z. omega (arith, low, z)) (λ z. omega (arith, low, z)) finds))
      (cases_lt 0 (length o.values)))

  -- The objects are those that there were.
  pub binding_those : (b : Binding) → IsBindable w.graph b → AreThose c.memory (bound w b v c).memory × (length (bound w b v c).memory ≡ length c.memory)
  binding_those (ToScalar x) is = (those_same c.memory, refl)
  binding_those (ToObject k) (m, is) =
      let mine : IsOwnObject c.memory (c.here.first_object + k) m = own k m is in
      let o : Object = mine.object in
      let n : ℕ = c.here.first_object + k in
      ⊎_elim
      (λ (many : 0 < length o.values).
      subst (λ q. AreThose c.memory q × (length q ≡ length c.memory)) (sym (first_set c.memory n v o mine.there mine.live many))
      (those_set c.memory n o (with_value 0 v o) mine.there (ap (λ s. s * size_of o.element) (length-set o.values 0 (as_element o.element v))) (λ l. l), length-set c.memory n (with_value 0 v o)))
      (λ (few : length o.values ≤ 0).
      let empty : length o.values ≡ 0 = omega (arith, few) in
      subst (λ q. AreThose c.memory q × (length q ≡ length c.memory)) (sym (none_set c.memory n v o mine.there empty)) (those_same c.memory, refl))
      (cases_lt 0 (length o.values))

  -- The activation's objects are still its own.
  pub binding_own : (b : Binding) → IsBindable w.graph b → AreOwnObjects (bound w b v c).memory c.here.first_object w.graph
  binding_own (ToScalar x) is j z at = own j z at
  binding_own (ToObject k) (m, is) j z at =
      let mine : IsOwnObject c.memory (c.here.first_object + k) m = own k m is in
      let o : Object = mine.object in
      let n : ℕ = c.here.first_object + k in
      let other : IsOwnObject c.memory (c.here.first_object + j) z = own j z at in
      ⊎_elim
      (λ (many : 0 < length o.values).
      subst (λ q. IsOwnObject q (c.here.first_object + j) z) (sym (first_set c.memory n v o mine.there mine.live many))
      (⊎_elim
      (λ (same : c.here.first_object + j ≡ n).
      let both : Some other.object ≡ Some o = sym other.there ∙ ap (slice_get c.memory) same ∙ mine.there in
      let one : other.object ≡ o = cc in
      record {
        object = with_value 0 v o;
        there = subst (λ q. slice_get (slice_set c.memory n (with_value 0 v o)) q ≡ Some (with_value 0 v o)) (sym same) (set_here c.memory n o (with_value 0 v o) mine.there);
        live = mine.live;
        element = ap (λ (q : Object). q.element) (sym one) ∙ other.element;
        count = length-set o.values 0 (as_element o.element v) ∙ ap (λ (q : Object). length q.values) (sym one) ∙ other.count;
      })
      (λ (apart : c.here.first_object + j ≢ n). record {
        object = other.object;
        there = set_elsewhere c.memory n (c.here.first_object + j) (with_value 0 v o) apart ∙ other.there;
        live = other.live;
        element = other.element;
        count = other.count;
      })
      (cases_eq (c.here.first_object + j) n)))
      (λ (few : length o.values ≤ 0).
      let empty : length o.values ≡ 0 = omega (arith, few) in
      subst (λ q. IsOwnObject q (c.here.first_object + j) z) (sym (none_set c.memory n v o mine.there empty)) other)
      (cases_lt 0 (length o.values))
