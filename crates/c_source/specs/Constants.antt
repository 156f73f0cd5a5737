-- Trees whose constant tokens are numbers of their types and whose literals are of bytes, as those of parsed texts are
-- (ISO/IEC 9899:2011, 6.4.4.1 and 6.4.5).
use Rattle.std.specs.Prelude.{◌≡◌, pos, true}
use Rattle.c_tree.specs.Expressions.{ExpressionTree, ExpressionTrees, Name, Constant, Literal, Parenthesized, Index, Call, PostIncrement, PostDecrement, Prefix, Cast, SizeofExpression, SizeofType, SizeofArray, Binary, Conditional, Assignment, Comma, none, first}
use Rattle.c_type_rules.specs.Integers.{fits}
use Rattle.c_type_laws.specs.Statics.{are_bytes}

abbrev mutual
  -- each constant token of an expression is a number of its type, each literal has bytes
  pub HasNumbers : ExpressionTree → Type 0
  HasNumbers (Name n) = Unit {0}
  HasNumbers (Constant spot value type) = fits type (pos value) ≡ true
  HasNumbers (Literal extent bytes) = are_bytes bytes ≡ true
  HasNumbers (Parenthesized extent e) = HasNumbers e
  HasNumbers (Index e i last) = HasNumbers e × HasNumbers i
  HasNumbers (Call e all last) = HasNumbers e × HaveNumbers all
  HasNumbers (PostIncrement e last) = HasNumbers e
  HasNumbers (PostDecrement e last) = HasNumbers e
  HasNumbers (Prefix spot o e) = HasNumbers e
  HasNumbers (Cast spot to e) = HasNumbers e
  HasNumbers (SizeofExpression spot e) = HasNumbers e
  HasNumbers (SizeofType extent type stars) = Unit {0}
  HasNumbers (SizeofArray extent type stars e) = HasNumbers e
  HasNumbers (Binary o a b) = HasNumbers a × HasNumbers b
  HasNumbers (Conditional c a b) = HasNumbers c × HasNumbers a × HasNumbers b
  HasNumbers (Assignment o a b) = HasNumbers a × HasNumbers b
  HasNumbers (Comma a b) = HasNumbers a × HasNumbers b

  -- each one of the arguments of a call
  pub HaveNumbers : ExpressionTrees → Type 0
  HaveNumbers none = Unit {0}
  HaveNumbers (first e rest) = HasNumbers e × HaveNumbers rest
