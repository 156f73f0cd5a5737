-- Memory with the objects of an activation that begins: they lie in its frame, below all that lives in the stack.
use Rattle.std.proofs.Common.{◌≡◌, ◌≢◌, ℕ, zero, suc, ◌+◌, ◌-◌, ◌*◌, ◌%◌, ◌<◌, ◌≤◌, ◌⊎◌, ⊎_elim, inl, inr, sym, ap, ◌∙◌, subst, arith, refl, Option, Some, None, true, cond, List, [], ◌∷◌, ◌++◌, length, length-append, slice_get}
use Rattle.std.specs.Prelude.{map, option_map, nat_lt, replicate}
use Rattle.std.proofs.lemmas.Bool.{lt-ltb, le-ltb}
use Rattle.std.proofs.lemmas.List.{length-replicate}
use Rattle.std.proofs.lemmas.Option.{slice_get_within}
use Rattle.memory_map.specs.Maps.{bytes_end, stack_start, stack_end}
use Rattle.memory_map.proofs.Facts.{map_facts}
use Rattle.rv_emit_storage.specs.UnitMaps.{map_of_unit}
use Rattle.graph_core.specs.declared.graph.MemoryObject.{MemoryObject}
use Rattle.graph_core.specs.declared.value.Value.{Value}
use Rattle.graph_core.specs.declared.value.Value.TheVariants.{Number, Pointer, Odd}
use Rattle.graph_core.specs.Graphs.{UnitForm}
use Rattle.graph_core.specs.Values.{size_of}
use Rattle.graph_core.specs.Memory.{Memory, Object, bytes_of, new_object}
use Rattle.rv_emit_storage.specs.Storages.{object_at}
use Rattle.rv_emit_steps.specs.Meaning.{size_at, bits_at, HoldsBits, HoldsObjects, IsInMemory, AreLaid}
use Rattle.rv_emit_steps.proofs.Elements.{bits_kept}
use Rattle.rv_emit_steps.proofs.Objects.{WasThere, element_within}
use Rattle.rv_emit_runs.specs.Waiting.{FunctionCode, IsFunctionCode, LiesInFrame, bytes_in}
use Rattle.rv_emit_runs.proofs.Binding.{AreOwnObjects}
use Rattle.rv_emit_runs.proofs.Outer.{Grown}
use Rattle.base_laws.proofs.Lists.{mapped_there as map_get}

-- ---- A list behind another

-- What stands in both: in the first, or so far behind it in the second.
get_both : {A : Type 0} (xs ys : List A) (n : ℕ) (y : A) → slice_get (xs ++ ys) n ≡ Some y → ((n < length xs) × (slice_get xs n ≡ Some y)) ⊎ ((length xs ≤ n) × (slice_get ys (n - length xs) ≡ Some y))
get_both [] ys n y e = let same : n - 0 ≡ n = omega arith in inr (omega arith, ap (slice_get ys) same ∙ e)
get_both (x ∷ xs) ys zero y e = inl (omega arith, e)
get_both (x ∷ xs) ys (suc n) y e = ⊎_elim
    (λ (both : (n < length xs) × (slice_get xs n ≡ Some y)). inl (let lt = both.0 in omega (arith, lt), both.1))
    (λ (both : (length xs ≤ n) × (slice_get ys (n - length xs) ≡ Some y)). inr (
      let le = both.0 in omega (arith, le),
      let le = both.0 in let same : suc n - length (x ∷ xs) ≡ n - length xs = omega (arith, le) in ap (slice_get ys) same ∙ both.1,
    ))
    (get_both xs ys n y e)

get_first : {A : Type 0} (xs ys : List A) (n : ℕ) (y : A) → slice_get xs n ≡ Some y → slice_get (xs ++ ys) n ≡ Some y
get_first [] ys n y e = cc
get_first (x ∷ xs) ys zero y e = e
get_first (x ∷ xs) ys (suc n) y e = get_first xs ys n y e

get_second : {A : Type 0} (xs ys : List A) (n : ℕ) (y : A) → slice_get ys n ≡ Some y → slice_get (xs ++ ys) (length xs + n) ≡ Some y
get_second [] ys n y e = let same : 0 + n ≡ n = omega arith in ap (slice_get ys) same ∙ e
get_second (x ∷ xs) ys n y e = let same : length (x ∷ xs) + n ≡ suc (length xs + n) = omega arith in ap (slice_get ((x ∷ xs) ++ ys)) same ∙ get_second xs ys n y e

-- A member of a list that was mapped.
pub record IsMapped {A B : Type 0} (f : A → B) (xs : List A) (n : ℕ) (y : B) : Type 0 where
  pub from : A
  pub there : slice_get xs n ≡ Some from
  pub is : f from ≡ y

get_mapped : {A B : Type 0} (f : A → B) (xs : List A) (n : ℕ) (y : B) → slice_get (map f xs) n ≡ Some y → IsMapped f xs n y
get_mapped f [] n y e = cc
get_mapped f (x ∷ xs) zero y e = let same : f x ≡ y = cc in record { from = x; there = refl; is = same }
get_mapped f (x ∷ xs) (suc n) y e = let later = get_mapped f xs n y e in record { from = later.from; there = later.there; is = later.is }

replicate_odd : (k j : ℕ) (v : Value) → slice_get (replicate k Odd) j ≡ Some v → v ≡ Odd
replicate_odd zero j v e = cc
replicate_odd (suc k) zero v e = let same : Odd ≡ v = cc in sym same
replicate_odd (suc k) (suc j) v e = replicate_odd k j v e

-- ---- The addresses of all objects

-- Objects keep their addresses, and new ones lie in a frame.
abbrev pub addresses_with : (addresses : ℕ → ℕ) → (count sp : ℕ) → FunctionCode → ℕ → ℕ
addresses_with addresses count sp f n = cond (nat_lt n count) (addresses n) (sp + object_at f.storage (n - count))

module _ (u : UnitForm) (f : FunctionCode) (fits : IsFunctionCode u f) (addresses : ℕ → ℕ) (memory : Memory) (depth sp : ℕ) (m after : ℕ → ℕ) (aligned : sp % 4 ≡ 0) (low : stack_start (map_of_unit u) ≤ sp) (high : sp + f.size ≤ stack_end (map_of_unit u)) (laid : AreLaid (map_of_unit u) addresses memory)
    (below : (n : ℕ) (o : Object) → slice_get memory n ≡ Some o → o.live ≡ true → (addresses n + bytes_of o ≤ bytes_end (map_of_unit u)) ⊎ (sp + f.size ≤ addresses n)) where
  statics_below : bytes_end (map_of_unit u) ≤ stack_start (map_of_unit u)
  statics_below = (map_facts (map_of_unit u)).apart

  abbrev later : Memory
  later = memory ++ map (new_object depth) f.graph.objects

  abbrev now : ℕ → ℕ
  now = addresses_with addresses (length memory) sp f

  now_old : (n : ℕ) → n < length memory → now n ≡ addresses n
  now_old n lt = ap (λ b. cond b (addresses n) (sp + object_at f.storage (n - length memory))) (lt-ltb n (length memory) lt)

  now_new : (n : ℕ) → length memory ≤ n → now n ≡ sp + object_at f.storage (n - length memory)
  now_new n le = ap (λ b. cond b (addresses n) (sp + object_at f.storage (n - length memory))) (le-ltb n (length memory) le)

  -- An object of it: one that there was, or a new one.
  data IsOf (n : ℕ) (o : Object) : Type 0 where
    old : n < length memory → slice_get memory n ≡ Some o → now n ≡ addresses n → IsOf n o
    new : (z : MemoryObject) → length memory ≤ n → slice_get f.graph.objects (n - length memory) ≡ Some z → bytes_of o ≡ bytes_in z → o.values ≡ replicate z.count Odd → now n ≡ sp + object_at f.storage (n - length memory) → LiesInFrame f (n - length memory) z → IsOf n o

  is_of : (n : ℕ) (o : Object) → slice_get later n ≡ Some o → IsOf n o
  is_of n o e = ⊎_elim
      (λ (both : (n < length memory) × (slice_get memory n ≡ Some o)). old both.0 both.1 (now_old n both.0))
      (λ (both : (length memory ≤ n) × (slice_get (map (new_object depth) f.graph.objects) (n - length memory) ≡ Some o)).
      let z : IsMapped (new_object depth) f.graph.objects (n - length memory) o = get_mapped (new_object depth) f.graph.objects (n - length memory) o both.1 in
      let bytes : bytes_of o ≡ bytes_in z.from = ap bytes_of (sym z.is) ∙ ap (λ k. k * size_of z.from.element) (length-replicate z.from.count Odd) in
      new z.from both.0 z.there bytes (ap (λ (q : Object). q.values) (sym z.is)) (now_new n both.0) (fits.objects (n - length memory) z.from z.there))
      (get_both memory (map (new_object depth) f.graph.objects) n o e)

  pub grown_new : Grown (map_of_unit u) addresses now memory later (sp + f.size)
  grown_new = record {
    longer = let both = length-append memory (map (new_object depth) f.graph.objects) in omega (arith, both);
    lie = now_old;
    kept = λ n size e. kept n size (slice_get memory n) refl e;
    were = λ n o is live. were n o (is_of n o is);
  }
    where
      kept : (n size : ℕ) (q : Option Object) → slice_get memory n ≡ q → option_map bytes_of q ≡ Some size → (size_at later n ≡ Some size) × (now n ≡ addresses n)
      kept n size None e has = cc
      kept n size (Some o) e has = (ap (λ (q : Option Object). option_map bytes_of q) (get_first memory (map (new_object depth) f.graph.objects) n o e) ∙ has, now_old n (slice_get_within memory n o e))

      were : (n : ℕ) (o : Object) → IsOf n o → (WasThere memory n o × (now n ≡ addresses n)) ⊎ ((length memory ≤ n) × (stack_start (map_of_unit u) ≤ now n) × (now n + bytes_of o ≤ sp + f.size))
      were n o (old lt there at) = inl (record { object = o; is = there; bytes = refl; live = λ l. l }, at)
      were n o (new z le there bytes values at lies) = inr (le, omega (arith, at, low), let end = lies.high in omega (arith, at, bytes, end))

  in_memory : (n : ℕ) (o : Object) → IsOf n o → (now n % 4 ≡ 0) × IsInMemory (map_of_unit u) (now n) (bytes_of o)
  in_memory n o (old lt there at) = (ap (λ a. a % 4) at ∙ laid.aligned n o there, subst (λ a. IsInMemory (map_of_unit u) a (bytes_of o)) (sym at) (laid.lie n o there))
  in_memory n o (new z le there bytes values at lies) =
      let end = lies.high in
      let whole = lies.aligned in
      (omega (arith, at, aligned, whole), inr (omega (arith, at, low), omega (arith, at, bytes, end, high)))

  apart : (j k : ℕ) (o q : Object) → j ≢ k → IsOf j o → IsOf k q → o.live ≡ true → q.live ≡ true → (now j + bytes_of o < now k) ⊎ (now k + bytes_of q < now j)
  apart j k o q ne (old l1 t1 a1) (old l2 t2 a2) live also =
      subst (λ x. (x + bytes_of o < now k) ⊎ (now k + bytes_of q < x)) (sym a1) (subst (λ x. (addresses j + bytes_of o < x) ⊎ (x + bytes_of q < addresses j)) (sym a2) (laid.apart j k o q ne t1 t2 live also))
  apart j k o q ne (old l1 t1 a1) (new z le there bytes values at lies) live also =
      let end = lies.high in
      ⊎_elim (λ (static : addresses j + bytes_of o ≤ bytes_end (map_of_unit u)). inl (omega (arith, a1, at, static, low, statics_below))) (λ (past : sp + f.size ≤ addresses j). inr (omega (arith, a1, at, past, bytes, end))) (below j o t1 live)
  apart j k o q ne (new z le there bytes values at lies) (old l2 t2 a2) live also =
      let end = lies.high in
      ⊎_elim (λ (static : addresses k + bytes_of q ≤ bytes_end (map_of_unit u)). inr (omega (arith, a2, at, static, low, statics_below))) (λ (past : sp + f.size ≤ addresses k). inl (omega (arith, a2, at, past, bytes, end))) (below k q t2 also)
  apart j k o q ne (new z le there bytes values at lies) (new y le2 there2 bytes2 values2 at2 lies2) live also = ⊎_elim
      (λ (one : object_at f.storage (j - length memory) + bytes_in z < object_at f.storage (k - length memory)). inl (omega (arith, at, at2, bytes, one)))
      (λ (two : object_at f.storage (k - length memory) + bytes_in y < object_at f.storage (j - length memory)). inr (omega (arith, at, at2, bytes2, two)))
      (fits.apart (j - length memory) (k - length memory) z y (λ e. ne (omega (arith, le, le2, e))) there there2)

  pub laid_new : AreLaid (map_of_unit u) now later
  laid_new = record {
    aligned = λ n o is. (in_memory n o (is_of n o is)).0;
    lie = λ n o is. (in_memory n o (is_of n o is)).1;
    apart = λ j k o q ne io iq live also. apart j k o q ne (is_of j o io) (is_of k q iq) live also;
  }

  -- What is held of the objects that there were, where memory outside of the frame is as it was, and of new ones nothing is known.
  pub objects_new : HoldsObjects addresses memory m → ((n : ℕ) (o : Object) → slice_get memory n ≡ Some o → o.live ≡ true → (b : ℕ) → addresses n ≤ b → b < addresses n + bytes_of o → after b ≡ m b) → HoldsObjects now later after
  objects_new holds same n o is live i v has = by_kind (is_of n o is)
    where
      later_bits : (x : Value) (bits : ℕ) → HoldsBits addresses memory (size_of o.element) x bits → HoldsBits now later (size_of o.element) x bits
      later_bits (Number k) bits h = h
      later_bits (Pointer object size offset) bits (at, le, e) =
          let both = grown_new.kept object size at in
          (both.0, le, e ∙ ap (λ a. a + offset) (sym both.1))
      later_bits Odd bits h = tt

      by_kind : IsOf n o → HoldsBits now later (size_of o.element) v (bits_at after (size_of o.element) (now n + i * size_of o.element))
      by_kind (old lt there at) =
          let within = element_within o.element i (length o.values) (slice_get_within o.values i v has) in
          let bits : bits_at after (size_of o.element) (addresses n + i * size_of o.element) ≡ bits_at m (size_of o.element) (addresses n + i * size_of o.element) =
          bits_kept o.element m after (addresses n + i * size_of o.element) (λ b lo hi. same n o there live b (omega (arith, lo)) (omega (arith, hi, within))) in
          subst (λ a. HoldsBits now later (size_of o.element) v (bits_at after (size_of o.element) (a + i * size_of o.element))) (sym at)
          (later_bits v _ (subst (λ x. HoldsBits addresses memory (size_of o.element) v x) (sym bits) (holds n o there live i v has)))
      by_kind (new z le there bytes values at lies) =
          let odd : v ≡ Odd = replicate_odd z.count i v (subst (λ l. slice_get l i ≡ Some v) values has) in
          subst (λ x. HoldsBits now later (size_of o.element) x (bits_at after (size_of o.element) (now n + i * size_of o.element))) (sym odd) tt

  -- The new ones are the activation's own.
  pub own_new : AreOwnObjects later (length memory) f.graph
  own_new k z is = record {
    object = new_object depth z;
    there = get_second memory (map (new_object depth) f.graph.objects) k (new_object depth z) (map_get (new_object depth) f.graph.objects k z is);
    live = refl;
    element = refl;
    count = length-replicate z.count Odd;
  }

  -- None of them lies below the frame, and each lies apart from the part of it below its objects.
  pub below_new : (n : ℕ) (o : Object) → slice_get later n ≡ Some o → o.live ≡ true → (now n + bytes_of o ≤ bytes_end (map_of_unit u)) ⊎ (sp ≤ now n)
  below_new n o is live = by_kind (is_of n o is)
    where
      by_kind : IsOf n o → (now n + bytes_of o ≤ bytes_end (map_of_unit u)) ⊎ (sp ≤ now n)
      by_kind (old lt there at) = ⊎_elim (λ (static : addresses n + bytes_of o ≤ bytes_end (map_of_unit u)). inl (omega (arith, at, static))) (λ (past : sp + f.size ≤ addresses n). inr (omega (arith, at, past))) (below n o there live)
      by_kind (new z le there bytes values at lies) = inr (omega (arith, at))

  pub free_new : (room : f.storage.slots + 4 * f.slots ≤ f.size) (n : ℕ) (o : Object) → slice_get later n ≡ Some o → o.live ≡ true → (now n + bytes_of o ≤ sp) ⊎ (sp + (f.storage.slots + 4 * f.slots) ≤ now n)
  free_new room n o is live = by_kind (is_of n o is)
    where
      by_kind : IsOf n o → (now n + bytes_of o ≤ sp) ⊎ (sp + (f.storage.slots + 4 * f.slots) ≤ now n)
      by_kind (old lt there at) = ⊎_elim (λ (static : addresses n + bytes_of o ≤ bytes_end (map_of_unit u)). inl (omega (arith, at, static, low, statics_below))) (λ (past : sp + f.size ≤ addresses n). inr (omega (arith, at, past, room))) (below n o there live)
      by_kind (new z le there bytes values at lies) = let start = lies.low in inr (omega (arith, at, start))
