-- Types that are told to be one are one, and each type is one with itself.
use Rattle.std.proofs.Common.{◌≡◌, ℕ, zero, suc, Bool, true, ◌&&◌, refl, sym, ap, ◌∙◌}
use Rattle.std.specs.Prelude.{◌==◌}
use Rattle.std.proofs.lemmas.Bool.{eqb-true}
use Rattle.c_tree.specs.declared.types.IntegerType.{IntegerType}
use Rattle.c_tree.specs.declared.types.IntegerType.TheVariants.{Char, SignedChar, UnsignedChar, Short, UnsignedShort, Int, UnsignedInt, Long, UnsignedLong}
use Rattle.c_tree.specs.declared.object_type.Scalar.{Scalar}
use Rattle.c_tree.specs.declared.object_type.ObjectType.{ObjectType}
use Rattle.c_tree.specs.declared.object_type.ObjectType.TheVariants as object
use Rattle.c_tree.specs.declared.object_type.ValueType.{ValueType}
use Rattle.c_tree.specs.declared.object_type.ValueType.TheVariants.{Void, Integer, Pointer}
use Rattle.c_type_rules.specs.Types.{type_number, same_integer, same_scalar, same_object, same_value}
pub use Rattle.base_laws.proofs.Booleans.{all_four, both, two_true}
pub use Rattle.base_laws.proofs.Numbers.{eq_same as itself}

pub all_three : (a b c : Bool) → a ≡ true → b ≡ true → c ≡ true → a && b && c ≡ true
all_three a b c h g k = rw (h, g, k) refl

-- the type of a number
abbrev of_number : ℕ → IntegerType
of_number zero = Char
of_number (suc zero) = SignedChar
of_number (suc (suc zero)) = UnsignedChar
of_number (suc (suc (suc zero))) = Short
of_number (suc (suc (suc (suc zero)))) = UnsignedShort
of_number (suc (suc (suc (suc (suc zero))))) = Int
of_number (suc (suc (suc (suc (suc (suc zero)))))) = UnsignedInt
of_number (suc (suc (suc (suc (suc (suc (suc zero))))))) = Long
of_number (suc (suc (suc (suc (suc (suc (suc (suc n)))))))) = UnsignedLong

numbered : (t : IntegerType) → of_number (type_number t) ≡ t
numbered Char = refl
numbered SignedChar = refl
numbered UnsignedChar = refl
numbered Short = refl
numbered UnsignedShort = refl
numbered Int = refl
numbered UnsignedInt = refl
numbered Long = refl
numbered UnsignedLong = refl

pub integer_is : (t u : IntegerType) → same_integer t u ≡ true → t ≡ u
integer_is t u h = sym (numbered t) ∙ ap of_number (eqb-true (type_number t) (type_number u) h) ∙ numbered u

pub scalar_is : (a b : Scalar) → same_scalar a b ≡ true → a ≡ b
scalar_is a b h =
    let c = two_true (same_integer a.base b.base) (a.stars == b.stars) h in
    ap (λ t. record { base = t; stars = a.stars }) (integer_is a.base b.base c.0) ∙ ap (λ n. record { base = b.base; stars = n }) (eqb-true a.stars b.stars c.1)

pub object_is : (a b : ObjectType) → same_object a b ≡ true → a ≡ b
object_is (object.Scalar a) (object.Scalar b) h = ap object.Scalar (scalar_is a b h)
object_is (object.Scalar a) (object.Array f m) h = cc
object_is (object.Array e n) (object.Scalar b) h = cc
object_is (object.Array e n) (object.Array f m) h =
    let c = two_true (same_scalar e f) (n == m) h in
    ap (λ s. object.Array s n) (scalar_is e f c.0) ∙ ap (object.Array f) (eqb-true n m c.1)

pub value_is : (a b : ValueType) → same_value a b ≡ true → a ≡ b
value_is Void Void h = refl
value_is Void (Integer u) h = cc
value_is Void (Pointer u) h = cc
value_is (Integer t) Void h = cc
value_is (Integer t) (Integer u) h = ap Integer (integer_is t u h)
value_is (Integer t) (Pointer u) h = cc
value_is (Pointer t) Void h = cc
value_is (Pointer t) (Integer u) h = cc
value_is (Pointer t) (Pointer u) h = ap Pointer (object_is t u h)

pub integer_itself : (t : IntegerType) → same_integer t t ≡ true
integer_itself t = itself (type_number t)

pub scalar_itself : (s : Scalar) → same_scalar s s ≡ true
scalar_itself s = both (same_integer s.base s.base) (s.stars == s.stars) (integer_itself s.base) (itself s.stars)

pub object_itself : (o : ObjectType) → same_object o o ≡ true
object_itself (object.Scalar s) = scalar_itself s
object_itself (object.Array e n) = both (same_scalar e e) (n == n) (scalar_itself e) (itself n)

pub value_itself : (t : ValueType) → same_value t t ≡ true
value_itself Void = refl
value_itself (Integer t) = integer_itself t
value_itself (Pointer o) = object_itself o
