-- How much there is of a typed expression, which bounds a recursion over it.
use Rattle.std.proofs.Common.{ℕ, ◌+◌}
use Rattle.c_tree.specs.TypedExpressions.{RvalueTree, LvalueTree, ArgumentTrees, Constant, Null, Load, Decay, AddressOf, Convert, Discard, Signed, Not, Arithmetic, Compare, ComparePointers, Move, MoveFrom, Difference, And, Or, Conditional, Comma, Assign, Update, UpdatePointer, Step, StepPointer, Call, Named, Target, Element, ElementFrom, none, first}

abbrev mutual
  pub extent : RvalueTree → ℕ
  extent (Constant z t) = 4
  extent Null = 4
  extent (Load s l) = 4 + extent_of_place l
  extent (Decay l) = 4 + extent_of_place l
  extent (AddressOf l) = 4 + extent_of_place l
  extent (Convert t e) = 4 + extent e
  extent (Discard e) = 4 + extent e
  extent (Signed o t e) = 4 + extent e
  extent (Not e) = 4 + extent e
  extent (Arithmetic o t a b) = 4 + extent a + extent b
  extent (Compare o t a b) = 4 + extent a + extent b
  extent (ComparePointers o a b) = 4 + extent a + extent b
  extent (Move d of a b) = 4 + extent a + extent b
  extent (MoveFrom a of b) = 4 + extent a + extent b
  extent (Difference of a b) = 4 + extent a + extent b
  extent (And a b) = 4 + extent a + extent b
  extent (Or a b) = 4 + extent a + extent b
  extent (Conditional c a b) = 4 + extent c + extent a + extent b
  extent (Comma a b) = 4 + extent a + extent b
  extent (Assign s l e) = 4 + extent_of_place l + extent e
  extent (Update o t u l e) = 4 + extent_of_place l + extent e
  extent (UpdatePointer d of l e) = 4 + extent_of_place l + extent e
  extent (Step d g t u l) = 4 + extent_of_place l
  extent (StepPointer d g of l) = 4 + extent_of_place l
  extent (Call c all) = 4 + extent_of_arguments all

  pub extent_of_place : LvalueTree → ℕ
  extent_of_place (Named o of) = 4
  extent_of_place (Target of p) = 4 + extent p
  extent_of_place (Element of p i) = 4 + extent p + extent i
  extent_of_place (ElementFrom of i p) = 4 + extent i + extent p

  pub extent_of_arguments : ArgumentTrees → ℕ
  extent_of_arguments none = 1
  extent_of_arguments (first e rest) = 1 + extent e + extent_of_arguments rest
