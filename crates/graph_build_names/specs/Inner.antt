-- How many inner blocks the code of expressions has.
use Rattle.std.specs.Prelude.{ℕ, ◌+◌, Bool, true, false, if◌then◌else◌}
use Rattle.c_tree.specs.TypedExpressions.{RvalueTree, LvalueTree, ArgumentTrees, Constant, Null, Load, Decay, AddressOf, Convert, Discard, Signed, Not, Arithmetic, Compare, ComparePointers, Move, MoveFrom, Difference, And, Or, Conditional, Comma, Assign, Update, UpdatePointer, Step, StepPointer, Call, Named, Target, Element, ElementFrom, none, first}

-- `&&` and `||` have a block for the right operand, and where they are values also one for each truth value and one
-- that follows.
abbrev pub for_truth : (is_tested : Bool) → ℕ
for_truth is_tested = if is_tested then 1 else 4

abbrev mutual
  -- the inner blocks of an expression that is tested, or is not
  pub inner : (is_tested : Bool) → RvalueTree → ℕ
  inner q (Constant z t) = 0
  inner q Null = 0
  inner q (Load s l) = inner_within l
  inner q (Decay l) = inner_within l
  inner q (AddressOf l) = inner_within l
  inner q (Convert t e) = inner false e
  inner q (Discard e) = inner false e
  inner q (Signed o t e) = inner false e
  inner q (Not e) = inner q e
  inner q (Arithmetic o t a b) = inner false a + inner false b
  inner q (Compare o t a b) = inner false a + inner false b
  inner q (ComparePointers o a b) = inner false a + inner false b
  inner q (Move d of a b) = inner false a + inner false b
  inner q (MoveFrom b of a) = inner false b + inner false a
  inner q (Difference of a b) = inner false a + inner false b
  inner q (And a b) = inner true a + (inner true b + for_truth q)
  inner q (Or a b) = inner true a + (inner true b + for_truth q)
  inner q (Conditional c a b) = inner true c + (inner false a + (inner false b + 3))
  inner q (Comma a b) = inner false a + inner q b
  inner q (Assign s l e) = inner_within l + inner false e
  inner q (Update o t u l e) = inner_within l + inner false e
  inner q (UpdatePointer d of l e) = inner_within l + inner false e
  inner q (Step d g t u l) = inner_within l
  inner q (StepPointer d g of l) = inner_within l
  inner q (Call c all) = inner_of all

  -- those of what comes before the place of an lvalue
  pub inner_within : LvalueTree → ℕ
  inner_within (Named o of) = 0
  inner_within (Target of p) = inner false p
  inner_within (Element of p i) = inner false p + inner false i
  inner_within (ElementFrom of i p) = inner false i + inner false p

  -- those of arguments
  pub inner_of : ArgumentTrees → ℕ
  inner_of none = 0
  inner_of (first e rest) = inner false e + inner_of rest
