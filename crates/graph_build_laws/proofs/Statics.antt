-- Static storage of a well-formed program is as runs begin with it.
use Rattle.std.proofs.Common.{◌≡◌, ◌≢◌, ℕ, zero, suc, ◌*◌, ◌/◌, ◌%◌, ◌≤◌, ◌⊎◌, inl, inr, Bool, true, false, Option, Some, None, List, [], ◌∷◌, length, slice_get, refl, sym, ap, ◌∙◌, subst, arith, if◌then◌else◌}
use Rattle.std.specs.Prelude.{◌==◌, ◌||◌, nat_le, nat_lt, is_some}
use Rattle.std.specs.List.{AllByRecursion}
use Rattle.c_tree.specs.declared.types.IntegerType.TheVariants.{Char}
use Rattle.c_tree.specs.declared.object_type.Scalar.{Scalar}
use Rattle.c_tree.specs.declared.object_type.ObjectType.{ObjectType}
use Rattle.c_tree.specs.declared.object_type.ObjectType.TheVariants as of-object
use Rattle.c_tree.specs.declared.object_type.ValueType.TheVariants.{Integer, Pointer}
use Rattle.c_tree.specs.declared.object_type.Object as designator
use Rattle.c_tree.specs.declared.object_type.Object.TheVariants as object
use Rattle.c_tree.specs.declared.program.Relocation.{Relocation}
use Rattle.c_tree.specs.Programs.{LiteralTree, StaticTree, ProgramTree}
use Rattle.c_type_rules.specs.Integers.{object_size, scalar_size as type_size}
use Rattle.c_type_rules.specs.Types.{loaded_type, pointed_to, same_value}
use Rattle.c_type_laws.specs.Orders.{ascends}
use Rattle.c_type_laws.specs.Objects as law
use Rattle.c_type_laws.specs.Objects.{is_address, is_address_if, holds_address, hold_addresses, are_zero, spots_of, is_static, are_static}
use Rattle.c_meaning_values.specs.Types.{element_scalar, value_count, scalar_size}
use Rattle.graph_build_runs.proofs.Later.{some_same}
use Rattle.graph_build_runs.proofs.Types.{value_is}
use Rattle.graph_build_runs.proofs.Shapes.{two_true, three_true, four_true}
use Rattle.graph_build_runs.proofs.Clearing.{sizes}
use Rattle.graph_build_runs.proofs.StaticValues.{Bytes, IsAddress, AreAddresses, StaticFits, StaticsFit}
use Rattle.c_type_laws.specs.Laws.{is_sound}
use Rattle.c_type_laws.specs.Statics.{are_bytes, suits, all_suit, statics_sound, literals_sound}
use Rattle.graph_build_laws.proofs.Sizes.{type_sizes, bytes_by_type}
use Rattle.base_laws.proofs.Numbers.{are_equal, at_most, is_less}

bytes_are : (bytes : List ℕ) → are_bytes bytes ≡ true → Bytes bytes
bytes_are [] h = tt
bytes_are (b ∷ more) h = let c = two_true (nat_lt b 256) (are_bytes more) h in (is_less b 256 c.0, bytes_are more c.1)

zeros_are : (bytes : List ℕ) → are_zero bytes ≡ true → AllByRecursion (λ b. b ≡ 0) bytes
zeros_are [] h = tt
zeros_are (b ∷ more) h = let c = two_true (b == 0) (are_zero more) h in (are_equal b 0 c.0, zeros_are more c.1)

-- both words for the type of elements
element_same : (of : ObjectType) → law.element_of of ≡ element_scalar of
element_same (of-object.Scalar s) = refl
element_same (of-object.Array s n) = refl

-- a pointer's type leads to the type that its value points to
pointer_of : (s e : Scalar) → same_value (loaded_type s) (Pointer (of-object.Scalar e)) ≡ true → (pointed_to s ≡ e) × (s.stars ≢ 0)
pointer_of s e h = by (s.stars == 0) refl (value_is (loaded_type s) (Pointer (of-object.Scalar e)) h)
  where
    by : (b : Bool) → (s.stars == 0) ≡ b → (if b then Integer s.base else Pointer (of-object.Scalar (pointed_to s))) ≡ Pointer (of-object.Scalar e) → (pointed_to s ≡ e) × (s.stars ≢ 0)
    by true is q = cc
    by false is q = (inside q, λ none. (let yes : (s.stars == 0) ≡ true = ap (λ n. n == 0) none in cc))
      where
        inside : Pointer (of-object.Scalar (pointed_to s)) ≡ Pointer (of-object.Scalar e) → pointed_to s ≡ e
        inside q = cc

-- an offset of whole elements that is within an object
whole : (size : ℕ) → (size ≡ 1) ⊎ ((size ≡ 2) ⊎ (size ≡ 4)) → (offset count : ℕ) → offset % size ≡ 0 → offset ≤ count * size → (offset ≡ offset / size * size) × (offset / size ≤ count)
whole size (inl e) offset count = subst (λ n. offset % n ≡ 0 → offset ≤ count * n → (offset ≡ offset / n * n) × (offset / n ≤ count)) (sym e) (λ h le. (omega (arith, h), omega (arith, h, le)))
whole size (inr (inl e)) offset count = subst (λ n. offset % n ≡ 0 → offset ≤ count * n → (offset ≡ offset / n * n) × (offset / n ≤ count)) (sym e) (λ h le. (omega (arith, h), omega (arith, h, le)))
whole size (inr (inr e)) offset count = subst (λ n. offset % n ≡ 0 → offset ≤ count * n → (offset ≡ offset / n * n) × (offset / n ≤ count)) (sym e) (λ h le. (omega (arith, h), omega (arith, h, le)))

module _ (p : ProgramTree) where
  -- the address of a static object
  static_address : (e : Scalar) (offset n : ℕ) (r : Option StaticTree) → slice_get p.statics n ≡ r → is_address_if e offset r ≡ true → IsAddress p e offset (object.Static n) × (e.stars ≢ 0)
  static_address e offset n None is h = cc
  static_address e offset n (Some w) is h =
      let c = three_true (same_value (loaded_type e) (Pointer (of-object.Scalar (law.element_of w.of)))) (nat_le offset (object_size w.of)) (offset % type_size (law.element_of w.of) == 0) h in
      let q = pointer_of e (law.element_of w.of) c.0 in
      let s = element_scalar w.of in
      let same = element_same w.of in
      let size : type_size (law.element_of w.of) ≡ scalar_size s = ap type_size same ∙ type_sizes s.base s.stars in
      let rest : offset % scalar_size s ≡ 0 = subst (λ k. offset % k ≡ 0) size (are_equal (offset % type_size (law.element_of w.of)) 0 c.2) in
      let within : offset ≤ value_count w.of * scalar_size s = subst (λ k. offset ≤ k) (sym (bytes_by_type w.of)) (at_most offset (object_size w.of) c.1) in
      let i = whole (scalar_size s) (sizes s.base s.stars) offset (value_count w.of) rest within in
      ((w, is, sym same ∙ sym q.0, offset / scalar_size s, i.0, i.1), q.1)

  -- an address in a word of a static object
  address_is : (e : Scalar) (offset : ℕ) (o : designator.Object) → suits e o ≡ true → holds_address p e offset o ≡ true → IsAddress p e offset o × (e.stars ≢ 0)
  address_is e offset (object.Static n) suit h = static_address e offset n (slice_get p.statics n) refl h
  address_is e offset (object.Literal n) suit h =
      let c = three_true (is_some (slice_get p.literals n)) (offset == 0) (type_size e == 4) h in
      let q = pointer_of e (record { base = Char; stars = 0 }) suit in
      let l = there (slice_get p.literals n) c.0 in
      ((l.0, l.1, sym q.0, are_equal offset 0 c.1), q.1)
    where
      there : (r : Option LiteralTree) → is_some r ≡ true → (l : LiteralTree) × (r ≡ Some l)
      there None h = cc
      there (Some l) h = (l, refl)
  address_is e offset (object.Automatic x) suit h = cc

  addresses_are : (e : Scalar) (rs : List Relocation) → all_suit e rs ≡ true → hold_addresses p e rs ≡ true → AreAddresses p e rs
  addresses_are e [] suit h = tt
  addresses_are e (r ∷ more) suit h =
      let a = two_true (suits e r.object) (all_suit e more) suit in
      let b = two_true (holds_address p e r.offset r.object) (hold_addresses p e more) h in ((address_is e r.offset r.object a.0 b.0).0, addresses_are e more a.1 b.1)

  -- what is no pointer holds no address
  none_held : (e : Scalar) (rs : List Relocation) → all_suit e rs ≡ true → hold_addresses p e rs ≡ true → e.stars ≡ 0 → rs ≡ []
  none_held e [] suit h none = refl
  none_held e (r ∷ more) suit h none =
      let a = two_true (suits e r.object) (all_suit e more) suit in
      let b = two_true (holds_address p e r.offset r.object) (hold_addresses p e more) h in absurd ((address_is e r.offset r.object a.0 b.0).1 none)

  static_fits : (v : StaticTree) → is_static p v ≡ true → are_bytes v.bytes ≡ true → all_suit (law.element_of v.of) v.relocations ≡ true → StaticFits p v
  static_fits v h bytes suit =
      let e = law.element_of v.of in
      let c = four_true (nat_le (length v.bytes) (object_size v.of)) (hold_addresses p e v.relocations) (ascends (spots_of v.relocations)) ((e.stars == 0) || are_zero v.bytes) h in
      let same = element_same v.of in
      record {
        bytes = bytes_are v.bytes bytes;
        numbers = λ none. none_held e v.relocations suit c.1 (ap (λ s. s.stars) same ∙ none);
        zeros = λ some. zeros_are v.bytes (by (e.stars == 0) refl (λ z. some (sym (ap (λ s. s.stars) same) ∙ z)) c.3);
        addresses = subst (λ s. AreAddresses p s v.relocations) same (addresses_are e v.relocations suit c.1);
      }
    where
      by : (b : Bool) → ((law.element_of v.of).stars == 0) ≡ b → ((law.element_of v.of).stars ≢ 0) → b || are_zero v.bytes ≡ true → are_zero v.bytes ≡ true
      by true is some h = absurd (some (are_equal (law.element_of v.of).stars 0 is))
      by false is some h = h

  all_fit : (vs : List StaticTree) → are_static p vs ≡ true → statics_sound vs ≡ true → (n : ℕ) (v : StaticTree) → slice_get vs n ≡ Some v → StaticFits p v
  all_fit [] h s n v e = cc
  all_fit (w ∷ more) h s zero v e =
      let a = two_true (is_static p w) (are_static p more) h in
      let b = three_true (are_bytes w.bytes) (all_suit (law.element_of w.of) w.relocations) (statics_sound more) s in subst (StaticFits p) (some_same e) (static_fits w a.0 b.0 b.1)
  all_fit (w ∷ more) h s (suc n) v e = all_fit more (two_true (is_static p w) (are_static p more) h).1 (three_true (are_bytes w.bytes) (all_suit (law.element_of w.of) w.relocations) (statics_sound more) s).2 n v e

literals_fit : (ls : List LiteralTree) → literals_sound ls ≡ true → (n : ℕ) (l : LiteralTree) → slice_get ls n ≡ Some l → Bytes l.bytes
literals_fit [] h n l e = cc
literals_fit (k ∷ more) h zero l e = subst (λ z. Bytes z.bytes) (some_same e) (bytes_are k.bytes (two_true (are_bytes k.bytes) (literals_sound more) h).0)
literals_fit (k ∷ more) h (suc n) l e = literals_fit more (two_true (are_bytes k.bytes) (literals_sound more) h).1 n l e

-- Static storage fits.
pub statics_fit : (p : ProgramTree) → are_static p p.statics ≡ true → is_sound p ≡ true → StaticsFit p
statics_fit p h sound =
    let b = two_true (statics_sound p.statics) (literals_sound p.literals) sound in
    record { statics = all_fit p p.statics h b.0; literals = literals_fit p.literals b.1 }
