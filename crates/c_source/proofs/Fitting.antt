-- Kinds of values that are of types.
use Rattle.std.proofs.Common.{◌≡◌, Bool, true, false, ◌&&◌, not, refl, sym, ap, subst}
use Rattle.std.specs.Prelude.{◌==◌, nat_lt, if◌then◌else◌}
use Rattle.c_tree.specs.declared.types.IntegerType.{IntegerType}
use Rattle.c_tree.specs.declared.types.IntegerType.TheVariants.{Char, SignedChar, UnsignedChar, Short, UnsignedShort, Int, UnsignedInt, Long, UnsignedLong}
use Rattle.c_tree.specs.declared.object_type.Scalar.{Scalar}
use Rattle.c_tree.specs.declared.object_type.ObjectType.{ObjectType}
use Rattle.c_tree.specs.declared.object_type.ObjectType.TheVariants as object
use Rattle.c_tree.specs.declared.object_type.ValueType.{ValueType}
use Rattle.c_tree.specs.declared.object_type.ValueType.TheVariants.{Void, Integer, Pointer}
use Rattle.c_tree.specs.declared.typed_expression.Arithmetic.{Arithmetic}
use Rattle.c_tree.specs.declared.typed_expression.Arithmetic.TheVariants.{ShiftLeft, ShiftRight}
use Rattle.c_type_rules.specs.Integers.{is_signed, unsigned_of, joined as joined_integers, promoted, common, rank}
use Rattle.c_type_rules.specs.Types.{loaded_type, pointed_to, same_value}
use Rattle.c_type_values.specs.Operations as operation
use Rattle.c_type_laws.specs.Kind.{Kind, Wrong, NullPointer, Of}
use Rattle.c_type_laws.specs.Kinds.{of_if, is_pointer_type, is_promoted, is_of, is_typed, is_scalar, is_pointer, is_integer, is_counted, joined, is_operand}
use Rattle.c_source.specs.Values.{leads_to_elements}
use Rattle.c_source.proofs.Same.{value_is, integer_itself, value_itself}

pub of_if_true : (b : Bool) (t : ValueType) → b ≡ true → of_if b t ≡ Of t
of_if_true b t h = rw h refl

-- what fits is of its type
pub given_kind : (b : Bool) (t : ValueType) → b ≡ true → is_of (of_if b t) t ≡ true
given_kind b t h = rw h (value_itself t)

pub integer_kind : (k : Kind) (t : IntegerType) → is_of k (Integer t) ≡ true → k ≡ Of (Integer t)
integer_kind Wrong t h = cc
integer_kind NullPointer t h = cc
integer_kind (Of u) t h = ap Of (value_is u (Integer t) h)

pub typed_kind : (k : Kind) (t : ValueType) → is_of k t ≡ true → is_typed k ≡ true
typed_kind Wrong t h = cc
typed_kind NullPointer t h = refl
typed_kind (Of u) t h = refl

pub scalar_kind : (k : Kind) (t : ValueType) → is_of k t ≡ true → operation.is_scalar t ≡ true → is_scalar k ≡ true
scalar_kind Wrong t h s = cc
scalar_kind NullPointer t h s = refl
scalar_kind (Of Void) Void h s = cc
scalar_kind (Of Void) (Integer t) h s = cc
scalar_kind (Of Void) (Pointer o) h s = cc
scalar_kind (Of (Integer u)) t h s = refl
scalar_kind (Of (Pointer o)) t h s = refl

pub pointer_kind : (k : Kind) (o : ObjectType) → is_of k (Pointer o) ≡ true → is_pointer k ≡ true
pointer_kind Wrong o h = cc
pointer_kind NullPointer o h = refl
pointer_kind (Of Void) o h = cc
pointer_kind (Of (Integer u)) o h = cc
pointer_kind (Of (Pointer q)) o h = refl

-- a null pointer beside a value
null_beside : (u t : ValueType) → is_pointer_type t ≡ true → same_value u t ≡ true → is_of (of_if (is_pointer_type u) u) t ≡ true
null_beside u t h g = let e = value_is u t g in subst (λ w. is_of (of_if (is_pointer_type w) w) t ≡ true) (sym e) (given_kind (is_pointer_type t) t h)

-- two values of one type
pub joined_kinds : (a b : Kind) (t : ValueType) → is_of a t ≡ true → is_of b t ≡ true → is_of (joined a b) t ≡ true
joined_kinds Wrong b t h g = cc
joined_kinds NullPointer Wrong t h g = cc
joined_kinds NullPointer NullPointer t h g = h
joined_kinds NullPointer (Of u) t h g = null_beside u t h g
joined_kinds (Of u) Wrong t h g = cc
joined_kinds (Of u) NullPointer t h g = null_beside u t g h
joined_kinds (Of u) (Of w) t h g =
    let e : same_value u w ≡ true = rw (value_is u t h, value_is w t g) (value_itself t) in
    rw e h

-- types that arithmetic is done in
pub promoted_once : (t : IntegerType) → is_promoted (promoted t) ≡ true
promoted_once Char = refl
promoted_once SignedChar = refl
promoted_once UnsignedChar = refl
promoted_once Short = refl
promoted_once UnsignedShort = refl
promoted_once Int = refl
promoted_once UnsignedInt = refl
promoted_once Long = refl
promoted_once UnsignedLong = refl

unsigned_promoted : (t : IntegerType) → is_promoted t ≡ true → is_promoted (unsigned_of t) ≡ true
unsigned_promoted Char h = cc
unsigned_promoted SignedChar h = cc
unsigned_promoted UnsignedChar h = cc
unsigned_promoted Short h = cc
unsigned_promoted UnsignedShort h = cc
unsigned_promoted Int h = refl
unsigned_promoted UnsignedInt h = refl
unsigned_promoted Long h = refl
unsigned_promoted UnsignedLong h = refl

joined_promoted : (t u : IntegerType) → is_promoted t ≡ true → is_promoted (joined_integers t u) ≡ true
joined_promoted t u h = by (is_signed t && not (is_signed u))
  where
    by : (b : Bool) → is_promoted (if b then unsigned_of t else t) ≡ true
    by true = unsigned_promoted t h
    by false = h

pub common_promoted : (t u : IntegerType) → is_promoted (common t u) ≡ true
common_promoted t u = by (nat_lt (rank (promoted t)) (rank (promoted u)))
  where
    by : (b : Bool) → is_promoted (if b then joined_integers (promoted u) (promoted t) else joined_integers (promoted t) (promoted u)) ≡ true
    by true = joined_promoted (promoted u) (promoted t) (promoted_once u)
    by false = joined_promoted (promoted t) (promoted u) (promoted_once t)

pub counted_kind : (k : Kind) (t : IntegerType) → k ≡ Of (Integer t) → is_promoted t ≡ true → is_counted k ≡ true
counted_kind k t h g = rw h g

pub integer_in_kind : (k : Kind) (t : IntegerType) → k ≡ Of (Integer t) → is_integer k ≡ true
integer_in_kind k t h = ap is_integer h

pub of_integer_kind : (k : Kind) (t : IntegerType) → k ≡ Of (Integer t) → is_of k (Integer t) ≡ true
of_integer_kind k t h = rw h (integer_itself t)

-- the right operand of an operator: of a shift any promoted integer
pub operand_by : (o : Arithmetic) (t : IntegerType) (k : Kind) → is_operand o t k ≡ (if operation.is_shift o then is_counted k else is_of k (Integer t))
operand_by ShiftLeft t k = refl
operand_by ShiftRight t k = refl
operand_by _ t k = refl

-- what a scalar object holds leads to no array
pub loaded_elements : (s : Scalar) → leads_to_elements (loaded_type s) ≡ true
loaded_elements s = by (s.stars == 0)
  where
    by : (b : Bool) → leads_to_elements (if b then Integer s.base else Pointer (object.Scalar (pointed_to s))) ≡ true
    by true = refl
    by false = refl
