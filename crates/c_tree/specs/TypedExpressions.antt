-- Typed expressions as contracts see them, without where they lie in memory.
use Rattle.std.specs.Prelude.{ℤ}
use Rattle.c_tree.specs.declared.types.IntegerType.{IntegerType}
use Rattle.c_tree.specs.declared.object_type.Scalar.{Scalar}
use Rattle.c_tree.specs.declared.object_type.ObjectType.{ObjectType}
use Rattle.c_tree.specs.declared.object_type.Object as declared-object
use Rattle.c_tree.specs.declared.typed_expression.Arithmetic as declared-arithmetic
use Rattle.c_tree.specs.declared.typed_expression.Comparison as declared-comparison
use Rattle.c_tree.specs.declared.typed_expression.Sign as declared-sign
use Rattle.c_tree.specs.declared.typed_expression.Direction.{Direction}
use Rattle.c_tree.specs.declared.typed_expression.Given.{Given}
use Rattle.c_tree.specs.declared.typed_expression.Callee as declared-callee
use Rattle.c_tree.specs.declared.typed_expression.Rvalue as declared-rvalue
use Rattle.c_tree.specs.declared.typed_expression.Rvalue.TheVariants as rvalue
use Rattle.c_tree.specs.declared.typed_expression.Lvalue as declared-lvalue
use Rattle.c_tree.specs.declared.typed_expression.Lvalue.TheVariants as lvalue
use Rattle.c_tree.specs.declared.typed_expression.Arguments as declared-arguments
use Rattle.c_tree.specs.declared.typed_expression.Arguments.TheVariants as arguments

mutual
  -- an expression that has a value, or with the type `void` none
  pub data RvalueTree : Type 0 where
    Constant : (value : ℤ) → IntegerType → RvalueTree
    Null : RvalueTree
    Load : Scalar → (from : LvalueTree) → RvalueTree
    Decay : LvalueTree → RvalueTree
    AddressOf : LvalueTree → RvalueTree
    Convert : (to : IntegerType) → RvalueTree → RvalueTree
    Discard : RvalueTree → RvalueTree
    Signed : declared-sign.Sign → IntegerType → RvalueTree → RvalueTree
    Not : RvalueTree → RvalueTree
    Arithmetic : declared-arithmetic.Arithmetic → IntegerType → (left right : RvalueTree) → RvalueTree
    Compare : declared-comparison.Comparison → IntegerType → (left right : RvalueTree) → RvalueTree
    ComparePointers : declared-comparison.Comparison → (left right : RvalueTree) → RvalueTree
    Move : Direction → (element : ObjectType) → (pointer by : RvalueTree) → RvalueTree
    MoveFrom : (by : RvalueTree) → (element : ObjectType) → (pointer : RvalueTree) → RvalueTree
    Difference : (element : ObjectType) → (left right : RvalueTree) → RvalueTree
    And : (left right : RvalueTree) → RvalueTree
    Or : (left right : RvalueTree) → RvalueTree
    Conditional : (condition then otherwise : RvalueTree) → RvalueTree
    Comma : (left right : RvalueTree) → RvalueTree
    Assign : Scalar → (target : LvalueTree) → (value : RvalueTree) → RvalueTree
    Update : declared-arithmetic.Arithmetic → (target_type integer_type : IntegerType) → (target : LvalueTree)
        → (value : RvalueTree) → RvalueTree
    UpdatePointer : Direction → (element : ObjectType) → (target : LvalueTree) → (by : RvalueTree) → RvalueTree
    Step : Direction → Given → (target_type integer_type : IntegerType) → (target : LvalueTree) → RvalueTree
    StepPointer : Direction → Given → (element : ObjectType) → (target : LvalueTree) → RvalueTree
    Call : declared-callee.Callee → ArgumentTrees → RvalueTree

  -- an expression that designates an object
  pub data LvalueTree : Type 0 where
    Named : declared-object.Object → ObjectType → LvalueTree
    Target : ObjectType → (pointer : RvalueTree) → LvalueTree
    Element : ObjectType → (pointer index : RvalueTree) → LvalueTree
    ElementFrom : ObjectType → (index pointer : RvalueTree) → LvalueTree

  -- the arguments of a call
  pub data ArgumentTrees : Type 0 where
    none : ArgumentTrees
    first : RvalueTree → ArgumentTrees → ArgumentTrees

abbrev mutual
  pub rvalue_view : declared-rvalue.Rvalue → RvalueTree
  rvalue_view (rvalue.Constant value type) = Constant value type
  rvalue_view rvalue.Null = Null
  rvalue_view (rvalue.Load' scalar p from) = Load scalar (lvalue_view from)
  rvalue_view (rvalue.Decay' p from) = Decay (lvalue_view from)
  rvalue_view (rvalue.AddressOf' p from) = AddressOf (lvalue_view from)
  rvalue_view (rvalue.Convert' to p operand) = Convert to (rvalue_view operand)
  rvalue_view (rvalue.Discard' p operand) = Discard (rvalue_view operand)
  rvalue_view (rvalue.Signed' sign type p operand) = Signed sign type (rvalue_view operand)
  rvalue_view (rvalue.Not' p operand) = Not (rvalue_view operand)
  rvalue_view (rvalue.Arithmetic' operator type p left q right) =
      Arithmetic operator type (rvalue_view left) (rvalue_view right)
  rvalue_view (rvalue.Compare' operator type p left q right) =
      Compare operator type (rvalue_view left) (rvalue_view right)
  rvalue_view (rvalue.ComparePointers' operator p left q right) =
      ComparePointers operator (rvalue_view left) (rvalue_view right)
  rvalue_view (rvalue.Move' direction element p pointer q by) =
      Move direction element (rvalue_view pointer) (rvalue_view by)
  rvalue_view (rvalue.MoveFrom' p by element q pointer) = MoveFrom (rvalue_view by) element (rvalue_view pointer)
  rvalue_view (rvalue.Difference' element p left q right) = Difference element (rvalue_view left) (rvalue_view right)
  rvalue_view (rvalue.And' p left q right) = And (rvalue_view left) (rvalue_view right)
  rvalue_view (rvalue.Or' p left q right) = Or (rvalue_view left) (rvalue_view right)
  rvalue_view (rvalue.Conditional' p condition q chosen r other) =
      Conditional (rvalue_view condition) (rvalue_view chosen) (rvalue_view other)
  rvalue_view (rvalue.Comma' p left q right) = Comma (rvalue_view left) (rvalue_view right)
  rvalue_view (rvalue.Assign' scalar p target q value) = Assign scalar (lvalue_view target) (rvalue_view value)
  rvalue_view (rvalue.Update' operator target_type type p target q value) =
      Update operator target_type type (lvalue_view target) (rvalue_view value)
  rvalue_view (rvalue.UpdatePointer' direction element p target q by) =
      UpdatePointer direction element (lvalue_view target) (rvalue_view by)
  rvalue_view (rvalue.Step' direction given target_type type p target) =
      Step direction given target_type type (lvalue_view target)
  rvalue_view (rvalue.StepPointer' direction given element p target) =
      StepPointer direction given element (lvalue_view target)
  rvalue_view (rvalue.Call' callee p all) = Call callee (arguments_view all)

  pub lvalue_view : declared-lvalue.Lvalue → LvalueTree
  lvalue_view (lvalue.Named object type) = Named object type
  lvalue_view (lvalue.Target' type p pointer) = Target type (rvalue_view pointer)
  lvalue_view (lvalue.Element' type p pointer q index) = Element type (rvalue_view pointer) (rvalue_view index)
  lvalue_view (lvalue.ElementFrom' type p index q pointer) = ElementFrom type (rvalue_view index) (rvalue_view pointer)

  pub arguments_view : declared-arguments.Arguments → ArgumentTrees
  arguments_view arguments.End = none
  arguments_view (arguments.More' p one q rest) = first (rvalue_view one) (arguments_view rest)
