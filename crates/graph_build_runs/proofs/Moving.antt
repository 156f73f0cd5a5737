-- Pointers move in the unit as in the source.
use Rattle.std.proofs.Common.{◌≡◌, ◌≢◌, ℕ, zero, suc, ◌+◌, ◌*◌, ◌/◌, ◌<◌, ◌≤◌, ◌⊎◌, inl, inr, length, Option, Some, None, Bool, true, false, not, slice_get, refl, sym, ap, ◌∙◌, subst, arith, ℤ, pos, negsuc, ◌+ℤ◌, ◌*ℤ◌, neg_ℤ}
use Rattle.std.specs.Prelude.{◌==◌, if◌then◌else◌, nat_le, option_map, option_and_then}
use Rattle.std.proofs.lemmas.Bool.{leb-true}
use Rattle.std.proofs.lemmas.Bool.Decides.{nat_tests}
use Rattle.std.proofs.lemmas.Int.{ints}
use Rattle.std.proofs.Math.Nat.{mul_comm, mul_assoc}
use Rattle.word_base.specs.Owners.{Owner}
use Rattle.c_tree.specs.declared.types.IntegerType.{IntegerType}
use Rattle.c_tree.specs.declared.types.IntegerType.TheVariants.{Char, SignedChar, UnsignedChar, Short, UnsignedShort, Int, UnsignedInt, Long, UnsignedLong}
use Rattle.c_tree.specs.declared.object_type.ObjectType.{ObjectType}
use Rattle.c_tree.specs.declared.object_type.ObjectType.TheVariants as of-object
use Rattle.c_tree.specs.declared.typed_expression.Direction.{Direction}
use Rattle.c_tree.specs.declared.typed_expression.Direction.TheVariants.{Up, Down}
use Rattle.c_tree.specs.Programs.{ProgramTree}
use Rattle.c_type_rules.specs.Integers.{object_size, integer_size as integer_bytes}
use Rattle.c_meaning_values.specs.declared.value.Value as source-value
use Rattle.c_meaning_values.specs.declared.value.Value.TheVariants as source
use Rattle.c_meaning_values.specs.declared.value.Phase.TheVariants.{Ended}
use Rattle.c_meaning_values.specs.Types.{scalar_size, size_by_stars, size, element_scalar}
use Rattle.c_meaning_values.specs.Memory as source-bytes
use Rattle.c_meaning_values.specs.Memory.{Object as SourceObject, Memory as SourceMemory, is_over, in_bytes, in_object, moved_in}
use Rattle.c_meaning_values.specs.Operations.{bytes_moved, moved_by_elements}
use Rattle.c_meaning_steps.specs.States.{State}
use Rattle.graph_core.specs.declared.value.Value.{Value}
use Rattle.graph_core.specs.declared.value.Value.TheVariants.{Number, Pointer, Odd}
use Rattle.graph_core.specs.Memory.{Object, bytes_of}
use Rattle.graph_core.specs.Values.{operate, pointer_at, size_of}
use Rattle.graph_build_names.specs.Conversions.{unsigned_bits}
use Rattle.graph_build_steps.specs.Rules.{move_by}
use Rattle.graph_build_runs.specs.Typed.{IsPointerTo}
use Rattle.graph_build_runs.specs.Correspondence.{SameObject, points, SameValue}
use Rattle.graph_build_runs.specs.Stops.{IsDeclared}
use Rattle.graph_build_runs.proofs.Words.{word_sum, word_difference, word_below}
use Rattle.graph_build_runs.proofs.Tests.{HasWord}
use Rattle.graph_build_runs.proofs.Leads.{Setting, Local, World}
use Rattle.graph_build_runs.proofs.Later.{some_same}
use Rattle.graph_build_runs.proofs.Kept.{Sound, Fits}
use Rattle.graph_build_runs.proofs.Elements.{element_size}
use Rattle.graph_build_runs.proofs.Wholes.{stands_moved}
use Rattle.graph_build_runs.proofs.Access.{Leading, leads_to}
use Rattle.graph_build_runs.proofs.Writing.{not_over}

-- Objects have fewer bytes than a word with a sign counts, so that distances in them are such words.
abbrev pub AreSmall : ProgramTree → Type 0
AreSmall p = (w : Owner) (o : SourceObject) → IsDeclared p w o → source-bytes.bytes_of o < 2147483648

-- a size is one in both
scalar_bytes : (base : IntegerType) (stars : ℕ) → (if stars == 0 then integer_bytes base else 4) ≡ size_by_stars base stars
scalar_bytes Char zero = refl
scalar_bytes SignedChar zero = refl
scalar_bytes UnsignedChar zero = refl
scalar_bytes Short zero = refl
scalar_bytes UnsignedShort zero = refl
scalar_bytes Int zero = refl
scalar_bytes UnsignedInt zero = refl
scalar_bytes Long zero = refl
scalar_bytes UnsignedLong zero = refl
scalar_bytes base (suc stars) = let some : (suc stars == 0) ≡ false = grind (arith, nat_tests) in ap (λ b. if b then integer_bytes base else 4) some

pub size_is : (of : ObjectType) → object_size of ≡ size of
size_is (of-object.Scalar s) = scalar_bytes s.base s.stars
size_is (of-object.Array e n) = let one = scalar_bytes e.base e.stars in ap (λ k. k * n) one ∙ turned (scalar_size e) n
  where
    turned : (a b : ℕ) → a * b ≡ b * a
    turned a b = mul_comm a b

-- the unit's object of an object has as many bytes
pub bytes_same : (p : ProgramTree) (o : SourceObject) (q : Object) → SameObject p o q → bytes_of q ≡ source-bytes.bytes_of o
bytes_same p o q same = ap (λ k. k * size_of q.element) same.count ∙ ap (λ e. length o.values * size_of e) same.element ∙ ap (λ k. length o.values * k) (element_size o.element)

pub negative_twice : (z : ℤ) → neg_ℤ (neg_ℤ z) ≡ z
negative_twice (pos zero) = refl
negative_twice (pos (suc n)) = refl
negative_twice (negsuc n) = refl

-- a product with a number below 0
pub times_negative : (z : ℤ) (b : ℕ) → z *ℤ neg_ℤ (pos b) ≡ neg_ℤ (z *ℤ pos b)
times_negative (pos a) zero = let none : a * 0 ≡ 0 = omega arith in ap pos none ∙ sym (ap (λ k. neg_ℤ (pos k)) none)
times_negative (negsuc a) zero = let none : suc a * 0 ≡ 0 = omega arith in ap (λ k. neg_ℤ (pos k)) none ∙ sym (ap (λ k. neg_ℤ (neg_ℤ (pos k))) none)
times_negative (pos a) (suc b) = refl
times_negative (negsuc a) (suc b) = sym (negative_twice (pos (suc a * suc b)))

-- Where a moved pointer points.
pub record MovedTo (memory : SourceMemory) (n : ℕ) (y : ℤ) (v : source-value.Value) : Type 0 where
  pub object : SourceObject
  pub is : slice_get memory n ≡ Some object
  pub alive : object.phase ≢ Ended
  pub offset : ℕ
  pub at : y ≡ pos offset
  pub within : offset ≤ source-bytes.bytes_of object
  pub gives : v ≡ source.Pointer n offset

pub moved_to : (memory : SourceMemory) (n : ℕ) (y : ℤ) (v : source-value.Value) → option_and_then (moved_in n y) (slice_get memory n) ≡ Some v → MovedTo memory n y v
moved_to memory n y v h = by_object (slice_get memory n) refl h
  where
    by_offset : (o : SourceObject) → slice_get memory n ≡ Some o → o.phase ≢ Ended → (y2 : ℤ) → y ≡ y2 → option_map (λ k. source.Pointer n k) (in_bytes (source-bytes.bytes_of o) y2) ≡ Some v → MovedTo memory n y v
    by_offset o is alive (pos k) e i = by_bound (nat_le k (source-bytes.bytes_of o)) refl i
      where
        by_bound : (b : Bool) → nat_le k (source-bytes.bytes_of o) ≡ b → option_map (λ j. source.Pointer n j) (if b then Some k else None) ≡ Some v → MovedTo memory n y v
        by_bound true le j = record { object = o; is = is; alive = alive; offset = k; at = e; within = leb-true k (source-bytes.bytes_of o) le; gives = sym (some_same j) }
        by_bound false le j = cc
    by_offset o is alive (negsuc k) e i = cc

    by_phase : (o : SourceObject) → slice_get memory n ≡ Some o → (b : Bool) → not (is_over o.phase) ≡ b → (if not b then None else in_object n o y) ≡ Some v → MovedTo memory n y v
    by_phase o is true e i = by_offset o is (not_over o.phase e) y refl i
    by_phase o is false e i = cc

    over_twice : (b : Bool) → not (not b) ≡ b
    over_twice true = refl
    over_twice false = refl

    by_object : (r : Option SourceObject) → slice_get memory n ≡ r → option_and_then (moved_in n y) r ≡ Some v → MovedTo memory n y v
    by_object None e i = cc
    by_object (Some o) e i = by_phase o e (not (is_over o.phase)) refl (ap (λ b. if b then None else in_object n o y) (over_twice (is_over o.phase)) ∙ i)

-- The unit moves a pointer where the source does.
pub pointer_moves : (x : Setting) (want : Option ℕ) (s : State) (l : Local) (w : World) (d : Direction) (of : ObjectType) (p : source-value.Value) (z : ℤ) (v : source-value.Value) (given : Value) → Sound x.program x.begun s → Fits x want s l w → AreSmall x.program
    → SameValue x.program s.memory w.memory p given → moved_by_elements s.memory d of p (source.Number z) ≡ Some v
    → SameValue x.program s.memory w.memory v (operate (move_by d) given (Number (unsigned_bits (z *ℤ pos (object_size of)))))
pointer_moves x want s l w d of (source.Number k) z v given sound f small same h = cc
pointer_moves x want s l w d of source.Null z v given sound f small same h = cc
pointer_moves x want s l w d of (source.Pointer n offset) z v given sound f small same h =
    subst (λ u. SameValue x.program s.memory w.memory u (operate (move_by d) given (Number (unsigned_bits (z *ℤ pos (object_size of)))))) (sym to.gives)
    (points to.object to.is to.alive q.inside q.number q.object q.is q.same (subst (λ k. to.offset ≤ k) (sym bytes) to.within)
    (ap (λ g. operate (move_by d) g (Number (unsigned_bits (z *ℤ pos (object_size of))))) q.given_is ∙ by_direction d h_at ∙ in_range))
  where
    to : MovedTo s.memory n (pos offset +ℤ bytes_moved d of z) v
    to = moved_to s.memory n (pos offset +ℤ bytes_moved d of z) v h

    q : Leading x s w to.object offset given
    q = leads_to x want s l w n offset to.object given f to.is to.alive same

    bytes : bytes_of q.object ≡ source-bytes.bytes_of to.object
    bytes = bytes_same x.program to.object q.object q.same

    below : source-bytes.bytes_of to.object < 2147483648
    below = small to.object.owner to.object (sound.declared n to.object to.is)

    h_at : pos offset +ℤ bytes_moved d of z ≡ pos to.offset
    h_at = to.at

    in_range : pointer_at q.number (bytes_of q.object) to.offset ≡ Pointer q.number (bytes_of q.object) to.offset
    in_range = let le : to.offset ≤ bytes_of q.object = subst (λ k. to.offset ≤ k) (sym bytes) to.within in let yes : nat_le to.offset (bytes_of q.object) ≡ true = grind (arith, nat_tests, le) in ap (λ b. if b then Pointer q.number (bytes_of q.object) to.offset else Odd) yes

    to_word : unsigned_bits (pos to.offset) ≡ to.offset
    to_word = let lt = below in let le = to.within in omega (arith, lt, le)

    by_direction : (e : Direction) → pos offset +ℤ bytes_moved e of z ≡ pos to.offset
        → operate (move_by e) (Pointer q.number (bytes_of q.object) offset) (Number (unsigned_bits (z *ℤ pos (object_size of)))) ≡ pointer_at q.number (bytes_of q.object) to.offset
    by_direction Up at =
        let product : z *ℤ pos (object_size of) ≡ bytes_moved Up of z = ap (λ k. z *ℤ pos k) (size_is of) in
        let sum = word_sum (pos offset) (z *ℤ pos (object_size of)) (pos to.offset) (ap (λ k. pos offset +ℤ k) product ∙ at) in
        let whole = to_word in
        ap (pointer_at q.number (bytes_of q.object)) (omega (arith, sum, whole))
    by_direction Down at =
        let product : neg_ℤ (z *ℤ pos (object_size of)) ≡ bytes_moved Down of z = ap (λ k. neg_ℤ (z *ℤ pos k)) (size_is of) ∙ sym (times_negative z (size of)) in
        let difference = word_difference (pos offset) (z *ℤ pos (object_size of)) (pos to.offset) (ap (λ k. pos offset +ℤ k) product ∙ at) in
        let whole = to_word in
        let less = word_below (z *ℤ pos (object_size of)) in
        ap (pointer_at q.number (bytes_of q.object)) (omega (arith, difference, whole, less))

-- a moved pointer is no number
pub pointer_word : (memory : SourceMemory) (d : Direction) (of : ObjectType) (p : source-value.Value) (z : ℤ) (v : source-value.Value) → moved_by_elements memory d of p (source.Number z) ≡ Some v → HasWord v
pointer_word memory d of (source.Number k) z v h = cc
pointer_word memory d of source.Null z v h = cc
pointer_word memory d of (source.Pointer n offset) z v h = let to = moved_to memory n (pos offset +ℤ bytes_moved d of z) v h in subst HasWord (sym to.gives) tt

-- a size is a multiple of its element's
size_multiple : (of : ObjectType) → (k : ℕ) × (size of ≡ k * scalar_size (element_scalar of))
size_multiple (of-object.Scalar s) = (1, omega arith)
size_multiple (of-object.Array e n) = (n, refl)

-- a distance from a multiple of an element's size by a multiple of it is one
multiples : (base : IntegerType) (stars t i j n : ℕ) → (t ≡ i * size_by_stars base stars + j * size_by_stars base stars) ⊎ (i * size_by_stars base stars ≡ t + j * size_by_stars base stars) → t ≤ n * size_by_stars base stars
    → (t ≡ t / size_by_stars base stars * size_by_stars base stars) × (t / size_by_stars base stars ≤ n)
multiples Char zero t i j n (inl e) le = (omega (arith, e), omega (arith, le))
multiples Char zero t i j n (inr e) le = (omega (arith, e), omega (arith, le))
multiples SignedChar zero t i j n (inl e) le = (omega (arith, e), omega (arith, le))
multiples SignedChar zero t i j n (inr e) le = (omega (arith, e), omega (arith, le))
multiples UnsignedChar zero t i j n (inl e) le = (omega (arith, e), omega (arith, le))
multiples UnsignedChar zero t i j n (inr e) le = (omega (arith, e), omega (arith, le))
multiples Short zero t i j n (inl e) le = (omega (arith, e), omega (arith, le))
multiples Short zero t i j n (inr e) le = (omega (arith, e), omega (arith, le))
multiples UnsignedShort zero t i j n (inl e) le = (omega (arith, e), omega (arith, le))
multiples UnsignedShort zero t i j n (inr e) le = (omega (arith, e), omega (arith, le))
multiples Int zero t i j n (inl e) le = (omega (arith, e), omega (arith, le))
multiples Int zero t i j n (inr e) le = (omega (arith, e), omega (arith, le))
multiples UnsignedInt zero t i j n (inl e) le = (omega (arith, e), omega (arith, le))
multiples UnsignedInt zero t i j n (inr e) le = (omega (arith, e), omega (arith, le))
multiples Long zero t i j n (inl e) le = (omega (arith, e), omega (arith, le))
multiples Long zero t i j n (inr e) le = (omega (arith, e), omega (arith, le))
multiples UnsignedLong zero t i j n (inl e) le = (omega (arith, e), omega (arith, le))
multiples UnsignedLong zero t i j n (inr e) le = (omega (arith, e), omega (arith, le))
multiples base (suc stars) t i j n (inl e) le = (omega (arith, e), omega (arith, le))
multiples base (suc stars) t i j n (inr e) le = (omega (arith, e), omega (arith, le))

-- a distance forward, or back
forward : (a k t : ℕ) → pos a +ℤ pos k ≡ pos t → t ≡ a + k
forward a k t e = omega (arith, ints, e)

back : (a k t : ℕ) → pos a +ℤ neg_ℤ (pos k) ≡ pos t → a ≡ t + k
back a zero t e = omega (arith, ints, e)
back a (suc k) t e = omega (arith, ints, e)

-- so many elements lie between an offset and where it is moved
ways : (d : Direction) (of : ObjectType) (a t : ℕ) (z : ℤ) → pos a +ℤ bytes_moved d of z ≡ pos t → (k : ℕ) × ((t ≡ a + k * size of) ⊎ (a ≡ t + k * size of))
ways Up of a t (pos m) e = (m, inl (forward a (m * size of) t e))
ways Up of a t (negsuc m) e = (suc m, inr (back a (suc m * size of) t e))
ways Down of a t (pos m) e = (m, inr (back a (m * size of) t (ap (λ k. pos a +ℤ k) (sym (times_negative (pos m) (size of))) ∙ e)))
ways Down of a t (negsuc m) e = (suc m, inl (forward a (suc m * size of) t (ap (λ k. pos a +ℤ k) (sym (negative_twice (pos (suc m * size of))) ∙ sym (times_negative (negsuc m) (size of))) ∙ e)))

-- A moved pointer points to an element, or behind the last one, and to a whole array where it is an array's.
pub moved_typed : (memory : SourceMemory) (d : Direction) (of : ObjectType) (p : source-value.Value) (z : ℤ) (v : source-value.Value) → IsPointerTo memory of p → moved_by_elements memory d of p (source.Number z) ≡ Some v → IsPointerTo memory of v
moved_typed memory d of (source.Number k) z v is h = absurd is
moved_typed memory d of source.Null z v is h = cc
moved_typed memory d of (source.Pointer n offset) z v c h =
    let to = moved_to memory n (pos offset +ℤ bytes_moved d of z) v h in
    let one : to.object ≡ c.object = some_same (sym to.is ∙ c.is) in
    let e = scalar_size (element_scalar of) in
    let k = size_multiple of in
    let by = ways d of offset to.offset z to.at in
    let whole : by.0 * size of ≡ by.0 * k.0 * e = ap (λ j. by.0 * j) k.1 ∙ sym (mul_assoc by.0 k.0 e) in
    let within : to.offset ≤ length c.object.values * e = subst (λ j. to.offset ≤ j) (ap source-bytes.bytes_of one ∙ ap (λ q. length c.object.values * scalar_size q) c.element_is) to.within in
    let m = multiples (element_scalar of).base (element_scalar of).stars to.offset c.index (by.0 * k.0) (length c.object.values) (either_way to.offset offset (by.0 * size of) c.index (by.0 * k.0) e by.1 whole c.at) within in
    subst (IsPointerTo memory of) (sym to.gives) (record {
      object = c.object;
      is = c.is;
      element_is = c.element_is;
      index = to.offset / e;
      at = m.0;
      within = m.1;
      stands = stands_moved of (length c.object.values) offset to.offset by.0 c.stands by.1;
    })
  where
    either_way : (t a b i j e : ℕ) → (t ≡ a + b) ⊎ (a ≡ t + b) → b ≡ j * e → a ≡ i * e → (t ≡ i * e + j * e) ⊎ (i * e ≡ t + j * e)
    either_way t a b i j e (inl h) hb ha = inl (h ∙ ap (λ q. q + b) ha ∙ ap (λ q. i * e + q) hb)
    either_way t a b i j e (inr h) hb ha = inr (sym ha ∙ h ∙ ap (λ q. t + q) hb)
