-- What initializers put behind contents that an object holds, it holds too.
use Rattle.std.proofs.Common.{◌≡◌, ◌≤◌, ◌<◌, ℕ, zero, suc, ◌+◌, ◌*◌, ◌/◌, ◌%◌, ◌^◌, ℤ, pos, negsuc, List, [], ◌∷◌, ◌++◌, length, take, slice_get, nat_le, nat_lt, Bool, true, false, ◌&&◌, Option, Some, None, refl, sym, ap, ◌∙◌, subst, arith, length-append}
use Rattle.std.specs.Prelude.{◌==◌, ◌||◌, if◌then◌else◌, is_some}
use Rattle.std.proofs.lemmas.Bool.Decides.{nat_tests}
use Rattle.c_tree.specs.declared.types.IntegerType.TheVariants.{Char}
use Rattle.c_tree.specs.declared.object_type.Scalar.{Scalar}
use Rattle.c_tree.specs.declared.object_type.ObjectType.{ObjectType}
use Rattle.c_tree.specs.declared.object_type.ObjectType.TheVariants as of-object
use Rattle.c_tree.specs.declared.object_type.ValueType.TheVariants.{Integer, Pointer}
use Rattle.c_tree.specs.declared.object_type.Object as designator
use Rattle.c_tree.specs.declared.object_type.Object.TheVariants as object
use Rattle.c_tree.specs.declared.program.Relocation.{Relocation}
use Rattle.c_tree.specs.Programs.{StaticTree, ProgramTree}
use Rattle.c_type_rules.specs.declared.constancy.Constancy.{Constancy}
use Rattle.c_type_rules.specs.declared.constancy.Constancy.TheVariants.{Varies, Formed, Known, Address}
use Rattle.c_type_rules.specs.Integers.{residue, integer_size, object_size, scalar_size}
use Rattle.c_type_rules.specs.Types.{loaded_type, pointed_to, same_integer, same_scalar, same_value}
use Rattle.c_type_declarations.specs.Objects.{is_plain_char}
use Rattle.c_type_declarations.specs.Statics.{Contents, nothing, low_bytes, with_constant, literal_bytes}
use Rattle.c_type_laws.specs.Orders.{ascends, ascends_behind}
use Rattle.c_type_laws.specs.Objects.{element_of, is_address_if, holds_address, hold_addresses, are_zero, spots_of, is_static, are_static}
use Rattle.c_type_laws.specs.Statics.{are_bytes, suits, all_suit, statics_sound}
use Rattle.c_source.specs.Addresses.{is_offset_if, is_address_of, is_nothing, is_constant_of}
use Rattle.c_type_laws.specs.Names.{is_named, has_elements, statics_named, statics_have_elements}
use Rattle.c_source.specs.Storage.{are_before, Fills, Fits, AreStored}
use Rattle.c_source.proofs.Same.{two_true, both, all_three, all_four, scalar_is, scalar_itself}
use Rattle.c_source.proofs.Growing.{bytes_on}
use Rattle.c_source.proofs.Constants.{of_size}

-- bytes of numbers
low_length : (k n : ℕ) → length (low_bytes k n) ≡ k
low_length zero n = refl
low_length (suc k) n = omega (arith, low_length k (n / 256))

low_are_bytes : (k n : ℕ) → are_bytes (low_bytes k n) ≡ true
low_are_bytes zero n = refl
low_are_bytes (suc k) n = both (nat_lt (n % 256) 256) (are_bytes (low_bytes k (n / 256))) (grind (arith, nat_tests)) (low_are_bytes k (n / 256))

low_zero : (k : ℕ) → are_zero (low_bytes k 0) ≡ true
low_zero zero = refl
low_zero (suc k) = low_zero k

zero_on : (xs ys : List ℕ) → are_zero xs ≡ true → are_zero ys ≡ true → are_zero (xs ++ ys) ≡ true
zero_on [] ys h g = g
zero_on (x ∷ xs) ys h g = let c = two_true (x == 0) (are_zero xs) h in both (x == 0) (are_zero (xs ++ ys)) c.0 (zero_on xs ys c.1 g)

if_pointer_on : (b : Bool) (xs ys : List ℕ) → b || are_zero xs ≡ true → b || are_zero ys ≡ true → b || are_zero (xs ++ ys) ≡ true
if_pointer_on true xs ys h g = refl
if_pointer_on false xs ys h g = zero_on xs ys h g

if_pointer : (b : Bool) (xs : List ℕ) → are_zero xs ≡ true → b || are_zero xs ≡ true
if_pointer true xs h = refl
if_pointer false xs h = h

-- words further on
before_more : (n m : ℕ) (rs : List Relocation) → n ≤ m → are_before n rs ≡ true → are_before m rs ≡ true
before_more n m [] le h = refl
before_more n m (r ∷ rs) le h = let c = two_true (nat_lt r.at n) (are_before n rs) h in let one = c.0 in both (nat_lt r.at m) (are_before m rs) (grind (arith, nat_tests)) (before_more n m rs le c.1)

before_on : (n : ℕ) (rs : List Relocation) (r : Relocation) → are_before n rs ≡ true → nat_lt r.at n ≡ true → are_before n (rs ++ r ∷ []) ≡ true
before_on n [] r h g = both (nat_lt r.at n) true g refl
before_on n (x ∷ rs) r h g = let c = two_true (nat_lt x.at n) (are_before n rs) h in both (nat_lt x.at n) (are_before n (rs ++ r ∷ [])) c.0 (before_on n rs r c.1 g)

behind_on : (last : ℕ) (rs : List Relocation) (r : Relocation) → ascends_behind last (spots_of rs) ≡ true → nat_lt last r.at ≡ true → are_before r.at rs ≡ true → ascends_behind last (spots_of (rs ++ r ∷ [])) ≡ true
behind_on last [] r h g b = both (nat_lt last r.at) true g refl
behind_on last (x ∷ rs) r h g b =
    let c = two_true (nat_lt last x.at) (ascends_behind x.at (spots_of rs)) h in
    let d = two_true (nat_lt x.at r.at) (are_before r.at rs) b in
    both (nat_lt last x.at) (ascends_behind x.at (spots_of (rs ++ r ∷ []))) c.0 (behind_on x.at rs r c.1 d.0 d.1)

ascends_on : (rs : List Relocation) (r : Relocation) → ascends (spots_of rs) ≡ true → are_before r.at rs ≡ true → ascends (spots_of (rs ++ r ∷ [])) ≡ true
ascends_on [] r h b = refl
ascends_on (x ∷ rs) r h b = let d = two_true (nat_lt x.at r.at) (are_before r.at rs) b in behind_on x.at rs r h d.0 d.1

suit_on : (s : Scalar) (rs : List Relocation) (r : Relocation) → all_suit s rs ≡ true → suits s r.object ≡ true → all_suit s (rs ++ r ∷ []) ≡ true
suit_on s [] r h g = both (suits s r.object) true g refl
suit_on s (x ∷ rs) r h g = let c = two_true (suits s x.object) (all_suit s rs) h in both (suits s x.object) (all_suit s (rs ++ r ∷ [])) c.0 (suit_on s rs r c.1 g)

take_bytes : (n : ℕ) (xs : List ℕ) → are_bytes xs ≡ true → are_bytes (take n xs) ≡ true
take_bytes zero xs h = refl
take_bytes (suc n) [] h = refl
take_bytes (suc n) (x ∷ xs) h = let c = two_true (nat_lt x 256) (are_bytes xs) h in both (nat_lt x 256) (are_bytes (take n xs)) c.0 (take_bytes n xs c.1)

take_short : (n : ℕ) (xs : List ℕ) → length (take n xs) ≤ n
take_short zero xs = omega arith
take_short (suc n) [] = omega arith
take_short (suc n) (x ∷ xs) = let h = take_short n xs in omega (arith, h)

-- a scalar has a byte or more
has_size : (s : Scalar) → 1 ≤ scalar_size s
has_size s = of_size (λ m. 1 ≤ m) s (omega arith) (omega arith) (omega arith)

nothing_is : (z : ℤ) → is_nothing z ≡ true → z ≡ pos 0
nothing_is (pos zero) h = refl
nothing_is (pos (suc n)) h = cc
nothing_is (negsuc n) h = cc

residue_zero : residue (pos 0) (2 ^ 32) ≡ 0
unfolding residue
residue_zero = refl

loaded_pointer : (s : Scalar) → (s.stars == 0) ≡ false → loaded_type s ≡ Pointer (of-object.Scalar (pointed_to s))
loaded_pointer s e = ap (λ b. if b then Integer s.base else Pointer (of-object.Scalar (pointed_to s))) e

-- a pointer to such elements holds their address
pointer_same : (s : Scalar) (t : Scalar) → (s.stars == 0) ≡ false → same_scalar (pointed_to s) t ≡ true → same_value (loaded_type s) (Pointer (of-object.Scalar t)) ≡ true
pointer_same s t e h = ap (λ v. same_value v (Pointer (of-object.Scalar t))) (loaded_pointer s e) ∙ h

same_back : (a b : Scalar) → same_scalar a b ≡ true → same_scalar b a ≡ true
same_back a b h = ap (λ c. same_scalar b c) (scalar_is a b h) ∙ scalar_itself b

static_holds : (s : Scalar) (offset : ℕ) (o : Option StaticTree) → (s.stars == 0) ≡ false → is_offset_if (pointed_to s) offset o ≡ true → is_address_if s offset o ≡ true
static_holds s offset None e h = cc
static_holds s offset (Some v) e h =
    let a = two_true (same_scalar (element_of v.of) (pointed_to s) && nat_le offset (object_size v.of)) (offset % scalar_size (element_of v.of) == 0) h in
    let b = two_true (same_scalar (element_of v.of) (pointed_to s)) (nat_le offset (object_size v.of)) a.0 in
    all_three (same_value (loaded_type s) (Pointer (of-object.Scalar (element_of v.of)))) (nat_le offset (object_size v.of)) (offset % scalar_size (element_of v.of) == 0)
    (pointer_same s (element_of v.of) e (same_back (element_of v.of) (pointed_to s) b.0)) b.1 a.1

module _ (p : ProgramTree) where
  pointer_holds : (s : Scalar) (o : designator.Object) (offset : ℕ) → (s.stars == 0) ≡ false → is_address_of p (pointed_to s) o offset ≡ true → (holds_address p s offset o ≡ true) × (suits s o ≡ true)
  pointer_holds s (object.Static n) offset e h = (static_holds s offset (slice_get p.statics n) e h, refl)
  pointer_holds s (object.Literal n) offset e h =
      let char : Scalar = record { base = Char; stars = 0 } in
      let a = two_true (is_some (slice_get p.literals n) && offset == 0) (same_scalar (pointed_to s) char) h in
      (both (is_some (slice_get p.literals n) && offset == 0) (scalar_size s == 4) a.0 (ap (λ b. (if b then integer_size s.base else 4) == 4) e), pointer_same s char e a.1)
  pointer_holds s (object.Automatic x) offset e h = cc

  -- what holds a constant address is a pointer to such elements
  address_holds : (s : Scalar) (o : designator.Object) (offset : ℕ) → is_constant_of p (loaded_type s) (Address o offset) ≡ true → (holds_address p s offset o ≡ true) × (suits s o ≡ true)
  address_holds s o offset h = by (s.stars == 0) refl h
    where
      by : (b : Bool) → (s.stars == 0) ≡ b → is_constant_of p (if b then Integer s.base else Pointer (of-object.Scalar (pointed_to s))) (Address o offset) ≡ true → (holds_address p s offset o ≡ true) × (suits s o ≡ true)
      by true e h = cc
      by false e h = pointer_holds s o offset e h

  -- a number that a pointer holds is zero
  number_empty : (s : Scalar) (z : ℤ) → is_constant_of p (loaded_type s) (Known z) ≡ true → s.stars == 0 || are_zero (low_bytes (scalar_size s) (residue z (2 ^ 32))) ≡ true
  number_empty s z h = by (s.stars == 0) h
    where
      by : (b : Bool) → is_constant_of p (if b then Integer s.base else Pointer (of-object.Scalar (pointed_to s))) (Known z) ≡ true → b || are_zero (low_bytes (scalar_size s) (residue z (2 ^ 32))) ≡ true
      by true h = refl
      by false h = ap (λ y. are_zero (low_bytes (scalar_size s) (residue y (2 ^ 32)))) (nothing_is z h) ∙ ap (λ m. are_zero (low_bytes (scalar_size s) m)) residue_zero ∙ low_zero (scalar_size s)

  addresses_on : (s : Scalar) (rs : List Relocation) (r : Relocation) → hold_addresses p s rs ≡ true → holds_address p s r.offset r.object ≡ true → hold_addresses p s (rs ++ r ∷ []) ≡ true
  addresses_on s [] r h g = both (holds_address p s r.offset r.object) true g refl
  addresses_on s (x ∷ rs) r h g =
      let c = two_true (holds_address p s x.offset x.object) (hold_addresses p s rs) h in both (holds_address p s x.offset x.object) (hold_addresses p s (rs ++ r ∷ [])) c.0 (addresses_on s rs r c.1 g)

  -- nothing
  pub nothing_fills : (s : Scalar) → Fills p s 0 nothing
  nothing_fills s = record { room = omega arith; bytes = refl; addresses = refl; suit = refl; order = refl; before = refl; empty = if_pointer (s.stars == 0) [] refl }

  -- a number behind contents
  number_fills : (s : Scalar) (n m : ℕ) (c : Contents) → Fills p s n c → s.stars == 0 || are_zero (low_bytes (scalar_size s) m) ≡ true → Fills p s (n + 1) (record c { bytes = c.bytes ++ low_bytes (scalar_size s) m })
  number_fills s n m c f e =
      let more : length (c.bytes ++ low_bytes (scalar_size s) m) ≡ length c.bytes + scalar_size s = length-append c.bytes (low_bytes (scalar_size s) m) ∙ ap (λ k. length c.bytes + k) (low_length (scalar_size s) m) in
      record {
        room = more ∙ ap (λ k. k + scalar_size s) f.room ∙ grind arith;
        bytes = bytes_on c.bytes (low_bytes (scalar_size s) m) f.bytes (low_are_bytes (scalar_size s) m);
        addresses = f.addresses;
        suit = f.suit;
        order = f.order;
        before = before_more (length c.bytes) (length (c.bytes ++ low_bytes (scalar_size s) m)) c.relocations (omega (arith, more)) f.before;
        empty = if_pointer_on (s.stars == 0) c.bytes (low_bytes (scalar_size s) m) f.empty e;
      }

  -- an address behind contents
  address_fills : (s : Scalar) (n : ℕ) (o : designator.Object) (offset : ℕ) (c : Contents) → Fills p s n c → holds_address p s offset o ≡ true → suits s o ≡ true → Fills p s (n + 1) (with_constant s (Address o offset) c)
  address_fills s n o offset c f h g =
      let d = number_fills s n 0 c f (if_pointer (s.stars == 0) (low_bytes (scalar_size s) 0) (low_zero (scalar_size s))) in
      let r : Relocation = record { at = length c.bytes; object = o; offset = offset } in
      let more : length (c.bytes ++ low_bytes (scalar_size s) 0) ≡ length c.bytes + scalar_size s = length-append c.bytes (low_bytes (scalar_size s) 0) ∙ ap (λ k. length c.bytes + k) (low_length (scalar_size s) 0) in
      let one = has_size s in
      let less : length c.bytes < length (c.bytes ++ low_bytes (scalar_size s) 0) = omega (arith, more, one) in
      record {
        room = d.room;
        bytes = d.bytes;
        addresses = addresses_on s c.relocations r f.addresses h;
        suit = suit_on s c.relocations r f.suit g;
        order = ascends_on c.relocations r f.order f.before;
        before = before_on (length (c.bytes ++ low_bytes (scalar_size s) 0)) c.relocations r d.before (lt_true (length c.bytes) (length (c.bytes ++ low_bytes (scalar_size s) 0)) less);
        empty = d.empty;
      }
    where
      lt_true : (a b : ℕ) → a < b → nat_lt a b ≡ true
      lt_true a b h = grind (arith, nat_tests)

  -- a constant behind contents
  pub constant_fills : (s : Scalar) (n : ℕ) (k : Constancy) (c : Contents) → Fills p s n c → is_constant_of p (loaded_type s) k ≡ true → Fills p s (n + 1) (with_constant s k c)
  constant_fills s n (Known z) c f h = number_fills s n (residue z (2 ^ 32)) c f (number_empty s z h)
  constant_fills s n (Address o offset) c f h = let a = address_holds s o offset h in address_fills s n o offset c f a.0 a.1
  constant_fills s n Varies c f h = number_fills s n 0 c f (if_pointer (s.stars == 0) (low_bytes (scalar_size s) 0) (low_zero (scalar_size s)))
  constant_fills s n Formed c f h = number_fills s n 0 c f (if_pointer (s.stars == 0) (low_bytes (scalar_size s) 0) (low_zero (scalar_size s)))

  -- nothing fits each object
  pub nothing_fits : (of : ObjectType) → Fits p of nothing
  nothing_fits of = record { room = grind (arith, nat_tests); bytes = refl; addresses = refl; suit = refl; order = refl; empty = if_pointer ((element_of of).stars == 0) [] refl }

  -- one element, and no more elements than an array has
  pub scalar_fits : (s : Scalar) (c : Contents) → Fills p s 1 c → Fits p (of-object.Scalar s) c
  scalar_fits s c f = record { room = let r = f.room in grind (arith, nat_tests); bytes = f.bytes; addresses = f.addresses; suit = f.suit; order = f.order; empty = f.empty }

  abbrev Within : ℕ → Type 0
  Within m = (l n count : ℕ) → l ≡ n * m → nat_le n count ≡ true → nat_le l (m * count) ≡ true

  pub array_fits : (s : Scalar) (count n : ℕ) (c : Contents) → nat_le n count ≡ true → Fills p s n c → Fits p (of-object.Array s count) c
  array_fits s count n c h f =
      let within : Within (scalar_size s) = of_size Within s (λ l n count e h. grind (arith, nat_tests)) (λ l n count e h. grind (arith, nat_tests)) (λ l n count e h. grind (arith, nat_tests)) in
      record { room = within (length c.bytes) n count f.room h; bytes = f.bytes; addresses = f.addresses; suit = f.suit; order = f.order; empty = f.empty }

  -- the bytes of a literal fit an array of `char`
  pub literal_fits : (s : Scalar) (count : ℕ) (bytes : List ℕ) → is_plain_char s ≡ true → are_bytes bytes ≡ true → Fits p (of-object.Array s count) (record { bytes = literal_bytes count bytes; relocations = [] })
  literal_fits s count bytes char h =
      let c = two_true (s.stars == 0) (same_integer s.base Char) char in
      let short = take_short count (bytes ++ 0 ∷ []) in
      record {
        room = of_size (λ m. nat_le (length (take count (bytes ++ 0 ∷ []))) (m * count) ≡ true) s (grind (arith, nat_tests)) (grind (arith, nat_tests)) (grind (arith, nat_tests));
        bytes = take_bytes count (bytes ++ 0 ∷ []) (bytes_on bytes (0 ∷ []) h refl);
        addresses = refl;
        suit = refl;
        order = refl;
        empty = ap (λ b. b || are_zero (literal_bytes count bytes)) c.0;
      }

  -- static objects with one more
  pub stored_on : (all : List StaticTree) (v : StaticTree) (c : Contents) → AreStored p all → c.bytes ≡ v.bytes → c.relocations ≡ v.relocations → Fits p v.of c → is_named v.name v.of ≡ true → has_elements v.of ≡ true → AreStored p (all ++ v ∷ [])
  stored_on all v c h e d f name elements = (static_on all h.0, sound_on all h.1, named_on all h.2, elements_on all h.3)
    where
      one : is_static p v ≡ true
      one =
          subst (λ rs. nat_le (length v.bytes) (object_size v.of) && hold_addresses p (element_of v.of) rs && ascends (spots_of rs) && ((element_of v.of).stars == 0 || are_zero v.bytes) ≡ true) d
          (subst (λ bs. nat_le (length bs) (object_size v.of) && hold_addresses p (element_of v.of) c.relocations && ascends (spots_of c.relocations) && ((element_of v.of).stars == 0 || are_zero bs) ≡ true) e
          (all_four (nat_le (length c.bytes) (object_size v.of)) (hold_addresses p (element_of v.of) c.relocations) (ascends (spots_of c.relocations)) ((element_of v.of).stars == 0 || are_zero c.bytes) f.room f.addresses f.order f.empty))

      bytes : are_bytes v.bytes ≡ true
      bytes = ap are_bytes (sym e) ∙ f.bytes

      suit : all_suit (element_of v.of) v.relocations ≡ true
      suit = ap (all_suit (element_of v.of)) (sym d) ∙ f.suit

      static_on : (all : List StaticTree) → are_static p all ≡ true → are_static p (all ++ v ∷ []) ≡ true
      static_on [] h = both (is_static p v) true one refl
      static_on (x ∷ all) h = let c = two_true (is_static p x) (are_static p all) h in both (is_static p x) (are_static p (all ++ v ∷ [])) c.0 (static_on all c.1)

      sound_on : (all : List StaticTree) → statics_sound all ≡ true → statics_sound (all ++ v ∷ []) ≡ true
      sound_on [] h = all_three (are_bytes v.bytes) (all_suit (element_of v.of) v.relocations) true bytes suit refl
      sound_on (x ∷ all) h =
          let a = two_true (are_bytes x.bytes && all_suit (element_of x.of) x.relocations) (statics_sound all) h in
          both (are_bytes x.bytes && all_suit (element_of x.of) x.relocations) (statics_sound (all ++ v ∷ [])) a.0 (sound_on all a.1)

      named_on : (all : List StaticTree) → statics_named all ≡ true → statics_named (all ++ v ∷ []) ≡ true
      named_on [] h = both (is_named v.name v.of) true name refl
      named_on (x ∷ all) h = let c = two_true (is_named x.name x.of) (statics_named all) h in both (is_named x.name x.of) (statics_named (all ++ v ∷ [])) c.0 (named_on all c.1)

      elements_on : (all : List StaticTree) → statics_have_elements all ≡ true → statics_have_elements (all ++ v ∷ []) ≡ true
      elements_on [] h = both (has_elements v.of) true elements refl
      elements_on (x ∷ all) h = let c = two_true (has_elements x.of) (statics_have_elements all) h in both (has_elements x.of) (statics_have_elements (all ++ v ∷ [])) c.0 (elements_on all c.1)
