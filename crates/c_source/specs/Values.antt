-- What the check of an expression makes in an accepted source: well typed values and objects of their types.
use Rattle.std.specs.Prelude.{◌≡◌, Bool, true, nat_le}
use Rattle.c_tree.specs.declared.object_type.ObjectType.{ObjectType}
use Rattle.c_tree.specs.declared.object_type.ObjectType.TheVariants as object
use Rattle.c_tree.specs.declared.object_type.ValueType.{ValueType}
use Rattle.c_tree.specs.declared.object_type.ValueType.TheVariants.{Void, Integer, Pointer}
use Rattle.c_tree.specs.TypedExpressions.{LvalueTree}
use Rattle.c_tree.specs.Programs.{TypedFunctionTree, ProgramTree}
use Rattle.c_type_values.specs.Values.{ValueTree, MeantTree, IsObject, IsValue}
use Rattle.c_type_rules.specs.ValueTypes.{object_type}
use Rattle.c_type_laws.specs.Kinds.{is_of}
use Rattle.c_type_laws.specs.Expressions.{kind_of, is_place}
use Rattle.c_type_laws.specs.Objects.{element_of}
use Rattle.c_source.specs.Addresses.{leads_to, is_constant_of}

-- an array of a type has elements
abbrev pub has_elements : ObjectType → Bool
has_elements (object.Scalar s) = true
has_elements (object.Array element count) = nat_le 1 count

-- so has one that a pointer leads to
abbrev pub leads_to_elements : ValueType → Bool
leads_to_elements Void = true
leads_to_elements (Integer t) = true
leads_to_elements (Pointer of) = has_elements of

-- A value is well typed: its tree is of its type, which leads to no array without elements, and a constant is one of
-- its type.
pub record IsTyped (p : ProgramTree) (f : TypedFunctionTree) (v : ValueTree) : Type 0 where
  pub is : is_of (kind_of p f v.tree) v.of ≡ true
  pub elements : leads_to_elements v.of ≡ true
  pub constant : is_constant_of p v.of v.constant ≡ true

-- An lvalue designates an object of a type, which has elements if it is an array.
pub record Designates (p : ProgramTree) (f : TypedFunctionTree) (l : LvalueTree) (of : ObjectType) : Type 0 where
  pub place : is_place p f l ≡ true
  pub is : object_type l ≡ of
  pub elements : has_elements of ≡ true

-- what an expression means is well typed, and a constant address is that of such an object
abbrev pub Means : ProgramTree → TypedFunctionTree → MeantTree → Type 0
Means p f (IsObject of l k) = Designates p f l of × (leads_to p (element_of of) k ≡ true)
Means p f (IsValue v) = IsTyped p f v
