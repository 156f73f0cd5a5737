-- Which elements, truncations and operations of units the types and operators of C are.
use Rattle.std.specs.Prelude.{ℕ, ◌==◌, not, Bool, true, false, if◌then◌else◌}
use Rattle.c_tree.specs.declared.types.IntegerType as named
use Rattle.c_tree.specs.declared.object_type.Scalar.{Scalar}
use Rattle.c_tree.specs.declared.typed_expression.Arithmetic as declared-arithmetic
use Rattle.c_tree.specs.declared.typed_expression.Arithmetic.TheVariants as arithmetic
use Rattle.c_tree.specs.declared.typed_expression.Direction.{Direction}
use Rattle.c_tree.specs.declared.typed_expression.Direction.TheVariants.{Up, Down}
use Rattle.c_tree.specs.declared.typed_expression.Callee as source-callee
use Rattle.c_tree.specs.declared.typed_expression.Callee.TheVariants as called
use Rattle.c_type_rules.specs.Integers.{integer}
use Rattle.word_base.specs.declared.operation.Operation as declared-operation
use Rattle.word_base.specs.declared.operation.Operation.TheVariants as operation
use Rattle.word_base.specs.declared.operation.Truncation as declared-truncation
use Rattle.word_base.specs.declared.operation.Truncation.TheVariants as truncation
use Rattle.graph_core.specs.declared.instruction.Element as declared-element
use Rattle.graph_core.specs.declared.instruction.Element.TheVariants.{Unsigned8, Signed8, Unsigned16, Signed16, Word}
use Rattle.graph_core.specs.declared.instruction.Callee as unit-callee
use Rattle.graph_core.specs.declared.instruction.Callee.TheVariants as unit-called

-- the element of so many bits, signed or not; a pointer is a word
abbrev pub element_by : ℕ → (stars : ℕ) → Bool → declared-element.Element
element_by width stars signed =
    if not (stars == 0) then Word
    else (if signed then (if width == 8 then Signed8 else (if width == 16 then Signed16 else Word))
    else (if width == 8 then Unsigned8 else (if width == 16 then Unsigned16 else Word)))

-- what an element of memory is that holds values of a scalar type
abbrev pub element_of : Scalar → declared-element.Element
element_of s = element_by (integer s.base).width s.stars (integer s.base).is_signed

-- the element of an integer type
abbrev pub integer_element : named.IntegerType → declared-element.Element
integer_element t = element_of (record { base = t; stars = 0 })

-- the truncation to 8 or 16 bits, signed or not
abbrev pub truncation_by : ℕ → Bool → declared-truncation.Truncation
truncation_by width signed =
    if signed then (if width == 8 then truncation.Signed8 else truncation.Signed16)
    else (if width == 8 then truncation.Unsigned8 else truncation.Unsigned16)

-- how a value becomes one of a narrow type
abbrev pub truncation_to : named.IntegerType → declared-truncation.Truncation
truncation_to t = truncation_by (integer t).width (integer t).is_signed

-- the machine's operation for an operator in a type
abbrev pub operation_for : declared-arithmetic.Arithmetic → named.IntegerType → declared-operation.Operation
operation_for arithmetic.Multiply t = operation.Mul
operation_for arithmetic.Divide t = if (integer t).is_signed then operation.Div else operation.Divu
operation_for arithmetic.Remainder t = if (integer t).is_signed then operation.Rem else operation.Remu
operation_for arithmetic.Add t = operation.Add
operation_for arithmetic.Subtract t = operation.Sub
operation_for arithmetic.ShiftLeft t = operation.Sll
operation_for arithmetic.ShiftRight t = if (integer t).is_signed then operation.Sra else operation.Srl
operation_for arithmetic.BitAnd t = operation.And
operation_for arithmetic.BitXor t = operation.Xor
operation_for arithmetic.BitOr t = operation.Or

-- a pointer is moved up or down
abbrev pub move_by : Direction → declared-operation.Operation
move_by Up = operation.Add
move_by Down = operation.Sub

-- `++` adds, and `--` subtracts
abbrev pub steps_by : Direction → declared-arithmetic.Arithmetic
steps_by Up = arithmetic.Add
steps_by Down = arithmetic.Subtract

-- the operation that tells whether one word is less than another, as signed numbers or not
abbrev pub less_by : (signed : Bool) → declared-operation.Operation
less_by signed = if signed then operation.Slt else operation.Sltu

-- what a call in the source calls in the unit
abbrev pub callee_for : source-callee.Callee → unit-callee.Callee
callee_for (called.Function f) = unit-called.Function f
callee_for called.Getchar = unit-called.Getchar
callee_for called.Putchar = unit-called.Putchar
callee_for called.Exit = unit-called.Exit
