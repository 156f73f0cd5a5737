-- What the value of an expression is.
use Rattle.c_tree.specs.declared.object_type.ValueType.{ValueType}

-- The expression is not well typed; its value is a null pointer, which is of each pointer type; or it is of a type, and
-- of `void` there is none.
pub data Kind : Type 0 where
  Wrong : Kind
  NullPointer : Kind
  Of : ValueType → Kind
