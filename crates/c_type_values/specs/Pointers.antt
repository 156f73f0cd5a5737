-- Addresses and what stands at them (6.5.2.1 and 6.5.3.2).
use Rattle.std.specs.Prelude.{ℕ, ◌*◌, pos, nat_le, Option, Some, None, if◌then◌else◌}
use Rattle.c_tree.specs.declared.object_type.ObjectType.TheVariants.{Array}
use Rattle.c_tree.specs.declared.object_type.Object.TheVariants.{Static}
use Rattle.c_tree.specs.declared.object_type.ValueType.{ValueType}
use Rattle.c_tree.specs.declared.object_type.ValueType.TheVariants.{Integer, Pointer}
use Rattle.c_tree.specs.TypedExpressions.{RvalueTree, Decay, Named, AddressOf, Target, Element, ElementFrom}
use Rattle.c_type_rules.specs.declared.constancy.Constancy.{Constancy}
use Rattle.c_type_rules.specs.declared.constancy.Constancy.TheVariants.{Varies, Known, Address}
use Rattle.c_type_rules.specs.Integers.{promoted, scalar_size}
use Rattle.c_type_values.specs.Values.{ValueTree, MeantTree, IsObject, IsValue, to_integer}

-- `&a`: a must be an object
abbrev pub address : MeantTree → Option ValueTree
address (IsValue v) = None
address (IsObject of l k) = Some (record { of = Pointer of; tree = AddressOf l; constant = k })

-- the object that a pointer of this type leads to
abbrev pub target_of : ValueType → RvalueTree → Option MeantTree
target_of (Pointer of) tree = Some (IsObject of (Target of tree) Varies)
target_of _ tree = None

-- `*a`: a must be a pointer
abbrev pub dereferenced : ValueTree → Option MeantTree
dereferenced v = target_of v.of v.tree

-- the number of a static array, with its bytes an element and its elements, where a pointer is just its name
abbrev pub named_array : RvalueTree → Option (ℕ × ℕ × ℕ)
named_array (Decay (Named (Static number) (Array element count))) = Some (number, scalar_size element, count)
named_array _ = None

-- the address of an element as a constant: the array is named, and the index an integer constant expression from 0 to
-- the number of elements (6.6p9)
abbrev pub element_address : Option (ℕ × ℕ × ℕ) → Constancy → Constancy
element_address (Some array) (Known (pos at)) =
    if nat_le at array.2 then Address (Static array.0) (at * array.1) else Varies
element_address _ _ = Varies

-- a[b] of a pointer and an integer, which stand as the flag says
abbrev pub elements : ValueType → ValueType → ValueTree → ValueTree → Option MeantTree
elements (Pointer of) (Integer t) a b =
    Some
    (IsObject of (Element of a.tree (to_integer (promoted t) b).tree)
    (element_address (named_array a.tree) (to_integer (promoted t) b).constant))
elements (Integer t) (Pointer of) a b =
    Some (IsObject of (ElementFrom of (to_integer (promoted t) a).tree b.tree) Varies)
elements _ _ a b = None

-- `a[b]`: one is a pointer and the other an integer, of its promoted type
abbrev pub subscript : ValueTree → ValueTree → Option MeantTree
subscript a b = elements a.of b.of a b
