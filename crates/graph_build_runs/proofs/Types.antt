-- Types that are told to be one are one.
use Rattle.std.proofs.Common.{◌≡◌, ℕ, zero, suc, Bool, true, false, ◌&&◌, refl, sym, ap, ◌∙◌, subst}
use Rattle.std.specs.Prelude.{◌==◌, if◌then◌else◌}
use Rattle.std.proofs.lemmas.Bool.{eqb-true}
use Rattle.c_tree.specs.declared.types.IntegerType.{IntegerType}
use Rattle.c_tree.specs.declared.types.IntegerType.TheVariants.{Char, SignedChar, UnsignedChar, Short, UnsignedShort, Int, UnsignedInt, Long, UnsignedLong}
use Rattle.c_tree.specs.declared.object_type.Scalar.{Scalar}
use Rattle.c_tree.specs.declared.object_type.ObjectType.{ObjectType}
use Rattle.c_tree.specs.declared.object_type.ObjectType.TheVariants as object
use Rattle.c_tree.specs.declared.object_type.ValueType.{ValueType}
use Rattle.c_tree.specs.declared.object_type.ValueType.TheVariants.{Void, Integer, Pointer}
use Rattle.c_type_rules.specs.Types.{type_number, same_integer, same_scalar, same_object, same_value}
use Rattle.c_type_laws.specs.Kind.{Kind, Wrong, NullPointer, Of}
use Rattle.c_type_laws.specs.Kinds.{is_of}
use Rattle.c_meaning_values.specs.declared.value.Value.{Value}
use Rattle.c_meaning_values.specs.declared.value.Value.TheVariants as source
use Rattle.c_meaning_values.specs.Memory.{Memory}
use Rattle.graph_build_runs.specs.Typed.{IsOf}
use Rattle.graph_build_runs.proofs.Words.{both_true}
use Rattle.graph_build_runs.proofs.Typing.{HasKind}

-- the type of a number
abbrev of_number : ℕ → IntegerType
of_number zero = Char
of_number (suc zero) = SignedChar
of_number (suc (suc zero)) = UnsignedChar
of_number (suc (suc (suc zero))) = Short
of_number (suc (suc (suc (suc zero)))) = UnsignedShort
of_number (suc (suc (suc (suc (suc zero))))) = Int
of_number (suc (suc (suc (suc (suc (suc zero)))))) = UnsignedInt
of_number (suc (suc (suc (suc (suc (suc (suc zero))))))) = Long
of_number (suc (suc (suc (suc (suc (suc (suc (suc n)))))))) = UnsignedLong

numbered : (t : IntegerType) → of_number (type_number t) ≡ t
numbered Char = refl
numbered SignedChar = refl
numbered UnsignedChar = refl
numbered Short = refl
numbered UnsignedShort = refl
numbered Int = refl
numbered UnsignedInt = refl
numbered Long = refl
numbered UnsignedLong = refl

pub integer_is : (t u : IntegerType) → same_integer t u ≡ true → t ≡ u
integer_is t u h = sym (numbered t) ∙ ap of_number (eqb-true (type_number t) (type_number u) h) ∙ numbered u

pub scalar_is : (a b : Scalar) → same_scalar a b ≡ true → a ≡ b
scalar_is a b h =
    let c = both_true (same_integer a.base b.base) (a.stars == b.stars) h in
    ap (λ t. record { base = t; stars = a.stars }) (integer_is a.base b.base c.0) ∙ ap (λ n. record { base = b.base; stars = n }) (eqb-true a.stars b.stars c.1)

pub object_is : (a b : ObjectType) → same_object a b ≡ true → a ≡ b
object_is (object.Scalar a) (object.Scalar b) h = ap object.Scalar (scalar_is a b h)
object_is (object.Scalar a) (object.Array f m) h = cc
object_is (object.Array e n) (object.Scalar b) h = cc
object_is (object.Array e n) (object.Array f m) h =
    let c = both_true (same_scalar e f) (n == m) h in
    ap (λ s. object.Array s n) (scalar_is e f c.0) ∙ ap (object.Array f) (eqb-true n m c.1)

pub value_is : (a b : ValueType) → same_value a b ≡ true → a ≡ b
value_is Void Void h = refl
value_is Void (Integer u) h = cc
value_is Void (Pointer u) h = cc
value_is (Integer t) Void h = cc
value_is (Integer t) (Integer u) h = ap Integer (integer_is t u h)
value_is (Integer t) (Pointer u) h = cc
value_is (Pointer t) Void h = cc
value_is (Pointer t) (Integer u) h = cc
value_is (Pointer t) (Pointer u) h = ap Pointer (object_is t u h)

-- a value of a kind is of a type that the kind is of
pub kind_is_of : (memory : Memory) (k : Kind) (t : ValueType) (v : Value) → is_of k t ≡ true → HasKind memory k v → IsOf memory t v
kind_is_of memory Wrong t v h is = absurd is
kind_is_of memory NullPointer Void v h is = cc
kind_is_of memory NullPointer (Integer t) v h is = cc
kind_is_of memory NullPointer (Pointer t) v h is = subst (IsOf memory (Pointer t)) (sym is) tt
kind_is_of memory (Of u) t v h is = subst (λ q. IsOf memory q v) (value_is u t h) is
