-- What operators make of values weighs no more than their operands and the operator; conversions that are implied weigh nothing.
use Rattle.std.proofs.Common.{◌≡◌, ◌≤◌, ℕ, ◌+◌, Bool, true, false, ◌&&◌, Option, Some, None, refl, ap, arith}
use Rattle.std.specs.Prelude.{if◌then◌else◌, ◌==◌, nat_lt, not}
use Rattle.std.specs.Option.{option_map}
use Rattle.debug_records.specs.declared.source.Spot.{Spot}
use Rattle.debug_records.specs.declared.code.Code.{Code}
use Rattle.c_tree.specs.declared.types.IntegerType.{IntegerType}
use Rattle.c_tree.specs.declared.types.IntegerType.TheVariants.{Char, SignedChar, UnsignedChar, Short, UnsignedShort, Int, UnsignedInt, Long, UnsignedLong}
use Rattle.c_tree.specs.declared.object_type.Scalar.{Scalar}
use Rattle.c_tree.specs.declared.object_type.ObjectType.{ObjectType}
use Rattle.c_tree.specs.declared.object_type.ObjectType.TheVariants as object
use Rattle.c_tree.specs.declared.object_type.ValueType.{ValueType}
use Rattle.c_tree.specs.declared.object_type.ValueType.TheVariants.{Void, Integer, Pointer}
use Rattle.c_tree.specs.declared.typed_expression.Arithmetic as declared-arithmetic
use Rattle.c_tree.specs.declared.typed_expression.Arithmetic.TheVariants as arithmetic
use Rattle.c_tree.specs.declared.typed_expression.Comparison.{Comparison}
use Rattle.c_tree.specs.declared.typed_expression.Direction.{Direction}
use Rattle.c_tree.specs.declared.typed_expression.Given.{Given}
use Rattle.c_tree.specs.declared.typed_expression.Sign.{Sign}
use Rattle.c_tree.specs.TypedExpressions.{RvalueTree, LvalueTree, Not, Convert, And, Or, Step, StepPointer}
use Rattle.c_type_rules.specs.Integers.{integer, promoted, unsigned_of, rank, is_signed, joined, common}
use Rattle.c_type_rules.specs.Constancies.{converted_constant, not_constant, and_constant, or_constant}
use Rattle.c_type_rules.specs.Types.{same_object, same_value, pointed_to}
use Rattle.c_type_rules.specs.declared.constancy.Constancy.TheVariants.{Varies}
use Rattle.c_type_values.specs.Values.{ValueTree, MeantTree, IsObject, IsValue, as_value, is_integer_of, to_integer, null, converted_from, converted_value}
use Rattle.c_type_values.specs.Pointers.{address, target_of, dereferenced, elements, subscript}
use Rattle.c_type_values.specs.Operations as operation
use Rattle.c_type_values.specs.Operations.{is_shift, is_equality, signed_as, signed_value, negated, in_types, arithmetic_value, pointer_sum, moved_behind, difference_by, calculated_as, calculated_value, comparison_of_pointers, compared_as, compared_value, combined, conditional_value, chosen_as, conditional_meaning}
use Rattle.c_type_values.specs.declared.operation.Operation as declared-operation
use Rattle.c_type_values.specs.declared.operation.Operation.TheVariants.{Calculates, Compares, Both, Either}
use Rattle.c_type_values.specs.Writing.{stepped, simple_assignment, integer_updated, pointer_updated, update_tree, updated_by, compound_assignment}
use Rattle.c_type_laws.specs.Weighing.{weighed, weighed_place, conversion}
use Rattle.c_type_expressions.specs.Findings.{FoundTree, Checked, gives, check_next, with_one, with_two, with_three, judged}
use Rattle.c_type_expressions.specs.Judgements.{Meant, valued}

-- what the tree of what is meant weighs at least, and that of a value: where no conversion is implied, and where one is
abbrev pub meant_weight : MeantTree → ℕ
meant_weight (IsObject of l k) = weighed_place l
meant_weight (IsValue v) = weighed false v.tree

abbrev pub value_weight : ValueTree → ℕ
value_weight v = weighed false v.tree

abbrev pub implied_weight : ValueTree → ℕ
implied_weight v = weighed true v.tree

pub implied_less : (e : RvalueTree) → weighed true e ≤ weighed false e
implied_less (Convert t e) = omega arith
implied_less _ = omega arith

-- a type of less than 32 bits
abbrev pub is_narrow : IntegerType → Bool
is_narrow t = not ((integer t).width == 32)

-- a type that arithmetic is done in is not narrow
promoted_wide : (t : IntegerType) → is_narrow (promoted t) ≡ false
promoted_wide Char = refl
promoted_wide SignedChar = refl
promoted_wide UnsignedChar = refl
promoted_wide Short = refl
promoted_wide UnsignedShort = refl
promoted_wide Int = refl
promoted_wide UnsignedInt = refl
promoted_wide Long = refl
promoted_wide UnsignedLong = refl

unsigned_wide : (t : IntegerType) → is_narrow t ≡ false → is_narrow (unsigned_of t) ≡ false
unsigned_wide Char h = cc
unsigned_wide SignedChar h = cc
unsigned_wide UnsignedChar h = cc
unsigned_wide Short h = cc
unsigned_wide UnsignedShort h = cc
unsigned_wide Int h = refl
unsigned_wide UnsignedInt h = refl
unsigned_wide Long h = refl
unsigned_wide UnsignedLong h = refl

joined_wide : (t u : IntegerType) → is_narrow t ≡ false → is_narrow (joined t u) ≡ false
joined_wide t u h = by (is_signed t && not (is_signed u))
  where
    by : (b : Bool) → is_narrow (if b then unsigned_of t else t) ≡ false
    by true = unsigned_wide t h
    by false = h

common_wide : (t u : IntegerType) → is_narrow (common t u) ≡ false
common_wide t u = by (nat_lt (rank (promoted t)) (rank (promoted u)))
  where
    by : (b : Bool) → is_narrow (if b then joined (promoted u) (promoted t) else joined (promoted t) (promoted u)) ≡ false
    by true = joined_wide (promoted u) (promoted t) (promoted_wide u)
    by false = joined_wide (promoted t) (promoted u) (promoted_wide t)

-- what may be there has so many at most
abbrev pub Few : {A : Type 0} → (A → ℕ) → ℕ → Option A → Type 0
Few size n None = Unit {0}
Few size n (Some a) = size a ≤ n

-- so has what a check gives
abbrev pub GivesFew : {A : Type 0} → (A → ℕ) → ℕ → Checked (Option A) → Type 0
GivesFew size n (gives m s) = Few size n m

module _ {A B C D : Type 0} (sa : A → ℕ) (sb : B → ℕ) (sc : C → ℕ) (sd : D → ℕ) where
  pub next_few : (n k : ℕ) (c : Checked (Option A)) (g : Option A → FoundTree → Checked (Option D)) → GivesFew sa n c → ((m : Option A) (t : FoundTree) → Few sa n m → GivesFew sd k (g m t)) → GivesFew sd k (check_next c g)
  next_few n k (gives m t) g h f = f m t h

  pub one_few : (n k : ℕ) (m : Option A) (g : A → FoundTree → Checked (Option D)) (s : FoundTree) → Few sa n m → ((a : A) → sa a ≤ n → GivesFew sd k (g a s)) → GivesFew sd k (with_one m g s)
  one_few n k None g s h f = tt
  one_few n k (Some a) g s h f = f a h

  pub two_few : (n i k : ℕ) (m : Option A) (o : Option B) (g : A → B → FoundTree → Checked (Option D)) (s : FoundTree) → Few sa n m → Few sb i o → ((a : A) (b : B) → sa a ≤ n → sb b ≤ i → GivesFew sd k (g a b s)) → GivesFew sd k (with_two m o g s)
  two_few n i k (Some a) (Some b) g s h e f = f a b h e
  two_few n i k (Some a) None g s h e f = tt
  two_few n i k None (Some b) g s h e f = tt
  two_few n i k None None g s h e f = tt

  pub three_few : (n i j k : ℕ) (m : Option A) (o : Option B) (r : Option C) (g : A → B → C → FoundTree → Checked (Option D)) (s : FoundTree) → Few sa n m → Few sb i o → Few sc j r
      → ((a : A) (b : B) (c : C) → sa a ≤ n → sb b ≤ i → sc c ≤ j → GivesFew sd k (g a b c s)) → GivesFew sd k (with_three m o r g s)
  three_few n i j k (Some a) (Some b) (Some c) g s h e d f = f a b c h e d
  three_few n i j k (Some a) (Some b) None g s h e d f = tt
  three_few n i j k (Some a) None (Some c) g s h e d f = tt
  three_few n i j k (Some a) None None g s h e d f = tt
  three_few n i j k None (Some b) (Some c) g s h e d f = tt
  three_few n i j k None (Some b) None g s h e d f = tt
  three_few n i j k None None (Some c) g s h e d f = tt
  three_few n i j k None None None g s h e d f = tt

  pub judged_few : (k : ℕ) (m : Option D) (code : Code) (first : Spot) (last : ℕ) (s : FoundTree) → Few sd k m → GivesFew sd k (judged m code first last s)
  judged_few k (Some a) code first last s h = h
  judged_few k None code first last s h = tt

-- the value of what is meant
pub as_value_weight : (m : MeantTree) → weighed false (as_value m).tree ≡ meant_weight m
as_value_weight (IsValue v) = refl
as_value_weight (IsObject (object.Scalar s) l k) = refl
as_value_weight (IsObject (object.Array e n) l k) = refl

pub valued_few : (n : ℕ) (c : Meant) → GivesFew meant_weight n c → GivesFew value_weight n (valued c)
valued_few n (gives None s) h = tt
valued_few n (gives (Some m) s) h = let e = as_value_weight m in omega (arith, h, e)

pub option_few : (n : ℕ) (o : Option ValueTree) → Few value_weight n o → Few meant_weight n (option_map IsValue o)
option_few n None h = tt
option_few n (Some v) h = h

-- a conversion to a type that is not narrow weighs nothing, nor does one that is implied
to_wide : (t : IntegerType) (v : ValueTree) → is_narrow t ≡ false → weighed false (to_integer t v).tree ≡ weighed false v.tree
unfolding to_integer
to_wide t v h = by (is_integer_of v.of t)
  where
    by : (b : Bool) → weighed false (if b then v else record { of = Integer t; tree = Convert t v.tree; constant = converted_constant t v.constant }).tree ≡ weighed false v.tree
    by true = refl
    by false = let none : conversion false (is_narrow t) ≡ 0 = ap (λ b. conversion false b) h in omega (arith, none)

pub to_promoted : (t : IntegerType) (v : ValueTree) → weighed false (to_integer (promoted t) v).tree ≡ weighed false v.tree
to_promoted t v = to_wide (promoted t) v (promoted_wide t)

pub to_common : (t u : IntegerType) (v : ValueTree) → weighed false (to_integer (common t u) v).tree ≡ weighed false v.tree
to_common t u v = to_wide (common t u) v (common_wide t u)

to_implied : (t : IntegerType) (v : ValueTree) → weighed true (to_integer t v).tree ≤ weighed false v.tree
unfolding to_integer
to_implied t v = by (is_integer_of v.of t)
  where
    by : (b : Bool) → weighed true (if b then v else record { of = Integer t; tree = Convert t v.tree; constant = converted_constant t v.constant }).tree ≤ weighed false v.tree
    by true = implied_less v.tree
    by false = omega arith

-- a value as if assigned
pub converted_few : (v : ValueTree) (to : ValueType) (zero : Bool) (n : ℕ) → 1 ≤ n → weighed false v.tree ≤ n → Few implied_weight n (converted_value v to zero)
converted_few v to zero n one h = by to v.of
  where
    same : (b : Bool) → Few implied_weight n (if b then Some v else None)
    same true = let less = implied_less v.tree in omega (arith, h, less)
    same false = tt

    nothing : (of : ObjectType) (b : Bool) → Few implied_weight n (if b then Some (null (Pointer of)) else None)
    nothing of true = one
    nothing of false = tt

    by : (to t : ValueType) → Few implied_weight n (converted_from to t v zero)
    by (Integer t) (Integer u) = let e = to_implied t v in omega (arith, h, e)
    by (Pointer of) (Integer u) = nothing of zero
    by Void t = same (same_value v.of Void)
    by (Integer t) Void = same (same_value v.of (Integer t))
    by (Integer t) (Pointer of) = same (same_value v.of (Integer t))
    by (Pointer of) Void = same (same_value v.of (Pointer of))
    by (Pointer of) (Pointer q) = same (same_value v.of (Pointer of))

-- `&a`, `*a` and `a[b]`
pub address_few : (m : MeantTree) (n : ℕ) → meant_weight m ≤ n → Few value_weight (1 + n) (address m)
address_few (IsValue v) n h = tt
address_few (IsObject of l k) n h = omega (arith, h)

pub dereferenced_few : (v : ValueTree) (n : ℕ) → weighed false v.tree ≤ n → Few meant_weight (1 + n) (dereferenced v)
dereferenced_few v n h = by v.of
  where
    by : (t : ValueType) → Few meant_weight (1 + n) (target_of t v.tree)
    by Void = tt
    by (Integer t) = tt
    by (Pointer of) = omega (arith, h)

pub element_few : (a b : ValueTree) (n m : ℕ) → weighed false a.tree ≤ n → weighed false b.tree ≤ m → Few meant_weight (1 + n + m) (subscript a b)
element_few a b n m h g = by a.of b.of
  where
    by : (t u : ValueType) → Few meant_weight (1 + n + m) (elements t u a b)
    by (Pointer of) (Integer t) = let e = to_promoted t b in omega (arith, h, g, e)
    by (Integer t) (Pointer of) = let e = to_promoted t a in omega (arith, h, g, e)
    by Void u = tt
    by (Integer t) Void = tt
    by (Integer t) (Integer u) = tt
    by (Pointer of) Void = tt
    by (Pointer of) (Pointer o) = tt

-- operators before an operand
pub signed_few : (o : Sign) (v : ValueTree) (n : ℕ) → weighed false v.tree ≤ n → Few value_weight (1 + n) (signed_value o v)
signed_few o v n h = by v.of
  where
    by : (t : ValueType) → Few value_weight (1 + n) (signed_as t o v)
    by Void = tt
    by (Pointer of) = tt
    by (Integer t) = let e = to_promoted t v in omega (arith, h, e)

pub negated_few : (v : ValueTree) (n : ℕ) → weighed false v.tree ≤ n → Few value_weight (1 + n) (negated v)
negated_few v n h = by (operation.is_scalar v.of)
  where
    by : (b : Bool) → Few value_weight (1 + n) (if b then Some (record { of = Integer Int; tree = Not v.tree; constant = not_constant v.constant }) else None)
    by true = omega (arith, h)
    by false = tt

-- operators between operands
module _ (a b : ValueTree) (n m : ℕ) (first : 1 ≤ n) (second : 1 ≤ m) (h : weighed false a.tree ≤ n) (g : weighed false b.tree ≤ m) where
  arithmetic_few : (o : declared-arithmetic.Arithmetic) (t u : IntegerType) → weighed false (arithmetic_value o t u a b).tree ≤ 1 + n + m
  unfolding arithmetic_value
  arithmetic_few o t u = by (is_shift o)
    where
      by : (s : Bool) → weighed false (if s then in_types o (promoted t) (to_integer (promoted t) a) (to_integer (promoted u) b) else in_types o (common t u) (to_integer (common t u) a) (to_integer (common t u) b)).tree ≤ 1 + n + m
      by true = let e = to_promoted t a in let d = to_promoted u b in omega (arith, h, g, e, d)
      by false = let e = to_common t u a in let d = to_common t u b in omega (arith, h, g, e, d)

  moved_few : (o : declared-arithmetic.Arithmetic) (of : ObjectType) (t : IntegerType) → Few value_weight (1 + n + m) (pointer_sum o of t a b)
  moved_few arithmetic.Add of t = let e = to_promoted t b in omega (arith, h, g, e)
  moved_few arithmetic.Subtract of t = let e = to_promoted t b in omega (arith, h, g, e)
  moved_few _ of t = tt

  moved_behind_few : (o : declared-arithmetic.Arithmetic) (of : ObjectType) (t : IntegerType) → Few value_weight (1 + n + m) (moved_behind o of t a b)
  moved_behind_few arithmetic.Add of t = let e = to_promoted t a in omega (arith, h, g, e)
  moved_behind_few _ of t = tt

  difference_few : (o : declared-arithmetic.Arithmetic) (r q : ObjectType) → Few value_weight (1 + n + m) (difference_by o r q a b)
  difference_few arithmetic.Subtract r q = by (same_object r q)
    where
      by : (s : Bool) → Few value_weight (1 + n + m) (if s then Some (operation.element_difference r a b) else None)
      by true = omega (arith, h, g)
      by false = tt
  difference_few _ r q = tt

  calculated_few : (o : declared-arithmetic.Arithmetic) → Few value_weight (1 + n + m) (calculated_value o a b)
  calculated_few o = by a.of b.of
    where
      by : (t u : ValueType) → Few value_weight (1 + n + m) (calculated_as t u o a b)
      by (Integer t) (Integer u) = arithmetic_few o t u
      by (Pointer r) (Integer t) = moved_few o r t
      by (Integer t) (Pointer r) = moved_behind_few o r t
      by (Pointer r) (Pointer q) = difference_few o r q
      by Void u = tt
      by (Integer t) Void = tt
      by (Pointer r) Void = tt

  compared_few : (o : Comparison) (az bz : Bool) → Few value_weight (1 + n + m) (compared_value o a b az bz)
  compared_few o az bz = by a.of b.of
    where
      two : (s : Bool) → Few value_weight (1 + n + m) (if s then Some (comparison_of_pointers o a b) else None)
      two true = omega (arith, h, g)
      two false = tt

      right : (s : Bool) → Few value_weight (1 + n + m) (if s then Some (comparison_of_pointers o a (null a.of)) else None)
      right true = omega (arith, h, second)
      right false = tt

      left : (s : Bool) → Few value_weight (1 + n + m) (if s then Some (comparison_of_pointers o (null b.of) b) else None)
      left true = omega (arith, first, g)
      left false = tt

      by : (t u : ValueType) → Few value_weight (1 + n + m) (compared_as t u o a b az bz)
      by (Integer t) (Integer u) = let e = to_common t u a in let d = to_common t u b in omega (arith, h, g, e, d)
      by (Pointer r) (Pointer q) = two (same_object r q)
      by (Pointer r) (Integer u) = right (is_equality o && bz)
      by (Integer t) (Pointer q) = left (is_equality o && az)
      by Void u = tt
      by (Integer t) Void = tt
      by (Pointer r) Void = tt

  both_few : Few value_weight (1 + n + m) (operation.logical_and a b)
  both_few = by (operation.is_scalar a.of && operation.is_scalar b.of)
    where
      by : (s : Bool) → Few value_weight (1 + n + m) (if s then Some (record { of = Integer Int; tree = And a.tree b.tree; constant = and_constant a.constant b.constant }) else None)
      by true = omega (arith, h, g)
      by false = tt

  either_few : Few value_weight (1 + n + m) (operation.logical_or a b)
  either_few = by (operation.is_scalar a.of && operation.is_scalar b.of)
    where
      by : (s : Bool) → Few value_weight (1 + n + m) (if s then Some (record { of = Integer Int; tree = Or a.tree b.tree; constant = or_constant a.constant b.constant }) else None)
      by true = omega (arith, h, g)
      by false = tt

  pub combined_few : (o : declared-operation.Operation) (az bz : Bool) → Few value_weight (1 + n + m) (combined o a b az bz)
  combined_few (Calculates o) az bz = calculated_few o
  combined_few (Compares o) az bz = compared_few o az bz
  combined_few Both az bz = both_few
  combined_few Either az bz = either_few

  -- `a?b:c`
  pub conditional_few : (c : ValueTree) (k : ℕ) (az bz : Bool) → weighed false c.tree ≤ k → Few value_weight (1 + k + n + m) (conditional_meaning c a b az bz)
  conditional_few c k az bz i = by (operation.is_scalar c.of)
    where
      right : (s : Bool) → Few value_weight (1 + k + n + m) (if s then Some (conditional_value a.of c a (null a.of) Varies) else None)
      right true = omega (arith, i, h, second)
      right false = tt

      left : (s : Bool) → Few value_weight (1 + k + n + m) (if s then Some (conditional_value b.of c (null b.of) b Varies) else None)
      left true = omega (arith, i, first, g)
      left false = tt

      same : (t : ValueType) (s : Bool) → Few value_weight (1 + k + n + m) (if s then Some (conditional_value t c a b Varies) else None)
      same t true = omega (arith, i, h, g)
      same t false = tt

      arms : (t u : ValueType) → Few value_weight (1 + k + n + m) (chosen_as t u c a b az bz)
      arms (Integer t) (Integer u) = let e = to_common t u a in let d = to_common t u b in omega (arith, i, h, g, e, d)
      arms (Pointer r) (Integer u) = right bz
      arms (Integer t) (Pointer r) = left az
      arms Void u = same Void (same_value Void u)
      arms (Integer t) Void = same (Integer t) (same_value (Integer t) Void)
      arms (Pointer r) Void = same (Pointer r) (same_value (Pointer r) Void)
      arms (Pointer r) (Pointer q) = same (Pointer r) (same_value (Pointer r) (Pointer q))

      by : (z : Bool) → Few value_weight (1 + k + n + m) (if z then chosen_as a.of b.of c a b az bz else None)
      by true = arms a.of b.of
      by false = tt

-- assignments, `++` and `--`
pub stepped_few : (d : Direction) (g : Given) (m : MeantTree) (n : ℕ) → meant_weight m ≤ n → weighed false (stepped d g m).tree ≤ 2 + n
stepped_few d g (IsObject (object.Scalar s) l k) n h = by (s.stars == 0)
  where
    by : (b : Bool) → weighed false (if b then Step d g s.base (promoted s.base) l else StepPointer d g (object.Scalar (pointed_to s)) l) ≤ 2 + n
    by true = omega (arith, h)
    by false = omega (arith, h)
stepped_few d g (IsObject (object.Array e c) l k) n h = omega (arith, h)
stepped_few d g (IsValue v) n h = omega (arith, h)

pub assigned_few : (m : MeantTree) (o : Option ValueTree) (n k : ℕ) → meant_weight m ≤ n → Few implied_weight k o → weighed false (simple_assignment m o).tree ≤ 1 + n + k
assigned_few (IsObject (object.Scalar s) l c) (Some v) n k h g = omega (arith, h, g)
assigned_few (IsObject (object.Scalar s) l c) None n k h g = omega (arith, h)
assigned_few (IsObject (object.Array e j) l c) (Some v) n k h g = omega (arith, h)
assigned_few (IsObject (object.Array e j) l c) None n k h g = omega (arith, h)
assigned_few (IsValue w) (Some v) n k h g = omega (arith, h)
assigned_few (IsValue w) None n k h g = omega (arith, h)

update_few : (o : declared-arithmetic.Arithmetic) (s : Scalar) (u : IntegerType) (l : LvalueTree) (v : ValueTree) → weighed false (update_tree o s u l v) ≡ weighed_place l + weighed false v.tree + 1
unfolding integer_updated
update_few o s u l v = by (s.stars == 0)
  where
    wide : (b : Bool) → is_narrow (if b then promoted u else common s.base u) ≡ false
    wide true = promoted_wide u
    wide false = common_wide s.base u

    by : (b : Bool) → weighed false (if b then integer_updated o s.base u l v else pointer_updated o (pointed_to s) u l v) ≡ weighed_place l + weighed false v.tree + 1
    by true = let e = to_wide (if is_shift o then promoted u else common s.base u) v (wide (is_shift o)) in omega (arith, e)
    by false = let e = to_promoted u v in omega (arith, e)

pub updated_few : (o : declared-arithmetic.Arithmetic) (m : MeantTree) (v : ValueTree) (n k : ℕ) → meant_weight m ≤ n → weighed false v.tree ≤ k → weighed false (compound_assignment o m v).tree ≤ 1 + n + k
updated_few o m v n k h g = by m v.of h
  where
    by : (m : MeantTree) (t : ValueType) → meant_weight m ≤ n → weighed false (updated_by o m t v).tree ≤ 1 + n + k
    by (IsObject (object.Scalar s) l c) (Integer u) h = let e = update_few o s u l v in omega (arith, h, g, e)
    by (IsObject (object.Scalar s) l c) Void h = omega (arith, h)
    by (IsObject (object.Scalar s) l c) (Pointer r) h = omega (arith, h)
    by (IsObject (object.Array e j) l c) t h = omega (arith, h)
    by (IsValue w) t h = omega (arith, h)
