-- Where arrays stand whole in objects.
use Rattle.std.proofs.Common.{◌≡◌, ℕ, zero, suc, ◌+◌, ◌-◌, ◌*◌, ◌<◌, ◌≤◌, ◌⊎◌, inl, inr, length, sym, ap, ◌∙◌, arith}
use Rattle.std.proofs.Math.Nat.{mul_comm, add-mul, mul-sub, eq-sub_of_add-eq, mul-le-mul_right}
use Rattle.c_tree.specs.declared.types.IntegerType.{IntegerType}
use Rattle.c_tree.specs.declared.types.IntegerType.TheVariants.{Char, SignedChar, UnsignedChar, Short, UnsignedShort, Int, UnsignedInt, Long, UnsignedLong}
use Rattle.c_tree.specs.declared.object_type.ObjectType.{ObjectType}
use Rattle.c_tree.specs.declared.object_type.ObjectType.TheVariants as of-object
use Rattle.c_meaning_values.specs.Types.{scalar_size, size_by_stars, size, element_scalar, value_count}
use Rattle.c_meaning_values.specs.Memory.{Memory, bytes_of}
use Rattle.graph_build_runs.specs.Typed.{StandsWhole, PointsInto}

-- at the beginning of an object that has as many values
pub stands_first : (of : ObjectType) (values : ℕ) → value_count of ≤ values → StandsWhole of values 0
stands_first (of-object.Scalar s) values le = tt
stands_first (of-object.Array e n) values le = (0, omega arith, le)

-- what is left of a multiple
rest_of : (t before k e : ℕ) → before * e ≡ t + k * e → t ≡ (before - k) * e
rest_of t before k e h = eq-sub_of_add-eq t (k * e) (sym h) ∙ ap (λ q. q - k * e) (mul_comm before e) ∙ ap (λ q. e * before - q) (mul_comm k e) ∙ sym (mul-sub e before k) ∙ mul_comm e (before - k)

-- so many arrays on, or back
pub stands_moved : (of : ObjectType) (values a t k : ℕ) → StandsWhole of values a → (t ≡ a + k * size of) ⊎ (a ≡ t + k * size of) → StandsWhole of values t
stands_moved (of-object.Scalar s) values a t k c h = tt
stands_moved (of-object.Array e n) values a t k c (inl h) = (c.0 + k, h ∙ ap (λ q. q + k * size (of-object.Array e n)) c.1 ∙ sym (add-mul c.0 k (size (of-object.Array e n))), c.2)
stands_moved (of-object.Array e n) values a t k c (inr h) = (c.0 - k, rest_of t c.0 k (size (of-object.Array e n)) (sym c.1 ∙ h), c.2)

-- A pointer stands behind so many objects of its type.
pub stands_at : (memory : Memory) (of : ObjectType) (n offset : ℕ) → PointsInto memory of n offset → (before : ℕ) × (offset ≡ before * size of)
stands_at memory (of-object.Scalar s) n offset c = (c.index, c.at)
stands_at memory (of-object.Array e k) n offset c = (c.stands.0, c.stands.1)

-- the bytes of an object by the type of its elements
bytes_by : (memory : Memory) (of : ObjectType) (n offset : ℕ) (c : PointsInto memory of n offset) → bytes_of c.object ≡ length c.object.values * scalar_size (element_scalar of)
bytes_by memory of n offset c = ap (λ e. length c.object.values * scalar_size e) c.element_is

-- a pointer's offset is no greater than its object
pub offset_within : (memory : Memory) (of : ObjectType) (n offset : ℕ) (c : PointsInto memory of n offset) → offset ≤ bytes_of c.object
offset_within memory of n offset c =
    let le = mul-le-mul_right (scalar_size (element_scalar of)) c.within in
    let at = c.at in
    let bytes = bytes_by memory of n offset c in
    omega (arith, le, at, bytes)

scalar_few : (base : IntegerType) (stars : ℕ) → size_by_stars base stars ≤ 4
scalar_few Char zero = omega arith
scalar_few SignedChar zero = omega arith
scalar_few UnsignedChar zero = omega arith
scalar_few Short zero = omega arith
scalar_few UnsignedShort zero = omega arith
scalar_few Int zero = omega arith
scalar_few UnsignedInt zero = omega arith
scalar_few Long zero = omega arith
scalar_few UnsignedLong zero = omega arith
scalar_few base (suc stars) = omega arith

-- What a pointer points to has as few bytes as its object, or is a scalar.
pub size_within : (memory : Memory) (of : ObjectType) (n offset most : ℕ) (c : PointsInto memory of n offset) → 4 < most → bytes_of c.object < most → size of < most
size_within memory (of-object.Scalar s) n offset most c some lt = let few = scalar_few s.base s.stars in omega (arith, few, some)
size_within memory (of-object.Array e k) n offset most c some lt =
    let le = mul-le-mul_right (scalar_size e) c.stands.2 in
    let bytes = bytes_by memory (of-object.Array e k) n offset c in
    omega (arith, le, bytes, lt)
