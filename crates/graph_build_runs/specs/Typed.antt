-- When the values of a program's run are of their types, and whose objects there are.
use Rattle.std.specs.Prelude.{◌≡◌, ◌≢◌, ℕ, ◌*◌, ◌≤◌, true, length, Some, slice_get}
use Rattle.std.specs.List.{AllByRecursion}
use Rattle.word_base.specs.Types.{holds}
use Rattle.c_tree.specs.declared.types.IntegerType as named
use Rattle.c_tree.specs.declared.object_type.ObjectType.{ObjectType}
use Rattle.c_tree.specs.declared.object_type.ObjectType.TheVariants as of-object
use Rattle.c_tree.specs.declared.object_type.ValueType.{ValueType}
use Rattle.c_tree.specs.declared.object_type.ValueType.TheVariants.{Void, Integer, Pointer}
use Rattle.c_type_rules.specs.Integers.{integer}
use Rattle.c_type_rules.specs.Types.{loaded_type}
use Rattle.c_meaning_values.specs.declared.value.Value.{Value}
use Rattle.c_meaning_values.specs.declared.value.Value.TheVariants as value
use Rattle.c_meaning_values.specs.declared.value.Phase.TheVariants.{Ended}
use Rattle.c_meaning_values.specs.Types.{scalar_size, size, element_scalar}
use Rattle.c_meaning_values.specs.Memory.{Object, Memory}

-- Where an array may stand in an object of so many values of its elements: the object has as many as the array, and so
-- many whole arrays lie before the offset. Of a scalar nothing more is asked than that it is one of the values.
abbrev pub StandsWhole : ObjectType → (values offset : ℕ) → Type 0
StandsWhole (of-object.Scalar s) values offset = Unit {0}
StandsWhole (of-object.Array element count) values offset =
    (before : ℕ) × (offset ≡ before * size (of-object.Array element count)) × (count ≤ values)

-- A pointer into an object of the elements of a type: to one of them, or directly behind the last, and where it points
-- to an array, to a whole one of those that the object is divided into, or directly behind such a one. The object may
-- have ended.
pub record PointsInto (memory : Memory) (of : ObjectType) (n offset : ℕ) : Type 0 where
  pub object : Object
  pub is : slice_get memory n ≡ Some object
  pub element_is : object.element ≡ element_scalar of
  pub index : ℕ
  pub at : offset ≡ index * scalar_size (element_scalar of)
  pub within : index ≤ length object.values
  pub stands : StandsWhole of (length object.values) offset

-- a number of an integer type
abbrev pub IsNumberOf : named.IntegerType → Value → Type 0
IsNumberOf t (value.Number z) = holds (integer t) z ≡ true
IsNumberOf t value.Null = ⊥
IsNumberOf t (value.Pointer n offset) = ⊥

-- null, or a pointer to what is of a type
abbrev pub IsPointerTo : Memory → ObjectType → Value → Type 0
IsPointerTo memory of (value.Number z) = ⊥
IsPointerTo memory of value.Null = Unit {0}
IsPointerTo memory of (value.Pointer n offset) = PointsInto memory of n offset

-- A value is of a type: a number of it, or a pointer to what it points to. No value is of the type `void`.
abbrev pub IsOf : Memory → ValueType → Value → Type 0
IsOf memory Void v = ⊥
IsOf memory (Integer t) v = IsNumberOf t v
IsOf memory (Pointer of) v = IsPointerTo memory of v

-- Each object holds values of the type of its elements.
abbrev pub AreTyped : Memory → Type 0
AreTyped memory =
    (n : ℕ) (o : Object) → slice_get memory n ≡ Some o → AllByRecursion (IsOf memory (loaded_type o.element)) o.values

-- No two objects that have not ended are one owner's.
abbrev pub OwnersDiffer : Memory → Type 0
OwnersDiffer memory =
    (m n : ℕ) (o q : Object) → slice_get memory m ≡ Some o → slice_get memory n ≡ Some q → o.phase ≢ Ended
    → q.phase ≢ Ended → o.owner ≡ q.owner → m ≡ n
