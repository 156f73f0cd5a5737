-- Assignments, `++` and `--` (6.5.2.4, 6.5.3.1 and 6.5.16).
use Rattle.std.specs.Prelude.{Bool, true, false, ◌==◌, Option, Some, if◌then◌else◌}
use Rattle.c_tree.specs.declared.types.IntegerType.{IntegerType}
use Rattle.c_tree.specs.declared.object_type.Scalar.{Scalar}
use Rattle.c_tree.specs.declared.object_type.ObjectType.TheVariants as object
use Rattle.c_tree.specs.declared.object_type.ValueType.{ValueType}
use Rattle.c_tree.specs.declared.object_type.ValueType.TheVariants.{Integer, Pointer}
use Rattle.c_tree.specs.declared.typed_expression.Arithmetic.{Arithmetic}
use Rattle.c_tree.specs.declared.typed_expression.Arithmetic.TheVariants.{Add, Subtract}
use Rattle.c_tree.specs.declared.typed_expression.Direction.{Direction}
use Rattle.c_tree.specs.declared.typed_expression.Direction.TheVariants.{Up, Down}
use Rattle.c_tree.specs.declared.typed_expression.Given.{Given}
use Rattle.c_tree.specs.TypedExpressions.{RvalueTree, LvalueTree, Assign, Update, UpdatePointer, Step, StepPointer}
use Rattle.c_type_rules.specs.declared.constancy.Constancy.TheVariants.{Varies}
use Rattle.c_type_rules.specs.Integers.{common, promoted}
use Rattle.c_type_rules.specs.Types.{loaded_type, pointed_to}
use Rattle.c_type_values.specs.Values.{ValueTree, MeantTree, IsObject, as_value, to_integer}
use Rattle.c_type_values.specs.Operations.{is_shift}

-- what can be written: an object of a scalar type
abbrev pub is_modifiable : MeantTree → Bool
is_modifiable (IsObject (object.Scalar s) l k) = true
is_modifiable _ = false

-- a value that is no constant
abbrev pub settled : ValueTree → ValueTree
settled v = record { of = v.of; tree = v.tree; constant = Varies }

-- what `++` or `--` does to an object of a scalar type: 1 is added or subtracted in the promoted type, or a pointer
-- moves by one element
abbrev pub step_tree : Direction → Given → Scalar → LvalueTree → RvalueTree
step_tree d g s l =
    if s.stars == 0 then Step d g s.base (promoted s.base) l else StepPointer d g (object.Scalar (pointed_to s)) l

-- `++` or `--`. Of what can't be written, which is a fault, the operand's own value stands for it.
abbrev pub stepped : Direction → Given → MeantTree → ValueTree
stepped d g (IsObject (object.Scalar s) l k) =
    record { of = loaded_type s; tree = step_tree d g s l; constant = Varies }
stepped d g m = settled (as_value m)

-- `a=b` with a value of a's type. Of what can't be written or has no such value, which is a fault, a's own value stands
-- for it.
abbrev pub simple_assignment : MeantTree → Option ValueTree → ValueTree
simple_assignment (IsObject (object.Scalar s) l k) (Some v) =
    record { of = loaded_type s; tree = Assign s l v.tree; constant = Varies }
simple_assignment m v = settled (as_value m)

-- an operator that assigns takes two integers, and `+=` and `-=` a pointer and an integer too (6.5.16.2)
abbrev pub moves_pointers : Arithmetic → Bool
moves_pointers Add = true
moves_pointers Subtract = true
moves_pointers _ = false

-- a compound assignment is allowed between these types (C11 6.5.16.2)
abbrev pub is_updatable : Arithmetic → ValueType → ValueType → Bool
is_updatable o (Integer t) (Integer u) = true
is_updatable o (Pointer of) (Integer u) = moves_pointers o
is_updatable o _ _ = false

-- the type that an operator that assigns calculates in: of a shift that of the promoted left side, else the common type
abbrev pub update_type : Arithmetic → IntegerType → IntegerType → IntegerType
update_type o t u = if is_shift o then promoted t else common t u

-- `a+=b` on integers
unfoldable pub integer_updated : Arithmetic → IntegerType → IntegerType → LvalueTree → ValueTree → RvalueTree
integer_updated o t u l v =
    Update o t (update_type o t u) l (to_integer (if is_shift o then promoted u else common t u) v).tree

-- whether a pointer is moved up or down
abbrev pub direction_of : Arithmetic → Direction
direction_of Subtract = Down
direction_of _ = Up

-- `p+=b` on a pointer to such elements
abbrev pub pointer_updated : Arithmetic → Scalar → IntegerType → LvalueTree → ValueTree → RvalueTree
pointer_updated o element u l v =
    UpdatePointer (direction_of o) (object.Scalar element) l (to_integer (promoted u) v).tree

-- the typed tree of a compound assignment to an object
abbrev pub update_tree : Arithmetic → Scalar → IntegerType → LvalueTree → ValueTree → RvalueTree
update_tree o s u l v = if s.stars == 0 then integer_updated o s.base u l v else pointer_updated o (pointed_to s) u l v

-- the value of a compound assignment, of which the types may be wrong
abbrev pub updated_by : Arithmetic → MeantTree → ValueType → ValueTree → ValueTree
updated_by o (IsObject (object.Scalar s) l k) (Integer u) v =
    record { of = loaded_type s; tree = update_tree o s u l v; constant = Varies }
updated_by o m of v = settled (as_value m)

-- `a+=b` with an integer. Of what can't be written or is no such operand, which is a fault, a's own value stands for
-- it.
abbrev pub compound_assignment : Arithmetic → MeantTree → ValueTree → ValueTree
compound_assignment o m v = updated_by o m v.of v
