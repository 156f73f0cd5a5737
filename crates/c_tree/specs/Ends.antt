-- Where constructs begin and end, told from their parts where they do not say it themselves.
use Rattle.std.specs.Prelude.{ℕ}
use Rattle.debug_records.specs.declared.source.Spot.{Spot}
use Rattle.c_tree.specs.Expressions.{ExpressionTree, Name, Constant, Literal, Parenthesized, Index, Call, PostIncrement, PostDecrement, Prefix, Cast, SizeofExpression, SizeofType, SizeofArray, Binary, Conditional, Assignment, Comma, SuffixTree, Indexes, Calls, Increments, Decrements}

-- where the first token of an expression stands
abbrev pub first_spot : ExpressionTree → Spot
first_spot (Name n) = n.spot
first_spot (Constant spot value type) = spot
first_spot (Literal extent bytes) = extent.first
first_spot (Parenthesized extent e) = extent.first
first_spot (Index e index last) = first_spot e
first_spot (Call e arguments last) = first_spot e
first_spot (PostIncrement e last) = first_spot e
first_spot (PostDecrement e last) = first_spot e
first_spot (Prefix spot operator e) = spot
first_spot (Cast spot type e) = spot
first_spot (SizeofExpression spot e) = spot
first_spot (SizeofType extent type stars) = extent.first
first_spot (SizeofArray extent type stars size) = extent.first
first_spot (Binary operator left right) = first_spot left
first_spot (Conditional condition a b) = first_spot condition
first_spot (Assignment operator target value) = first_spot target
first_spot (Comma left right) = first_spot left

-- the offset of the last token of an expression
abbrev pub last_of : ExpressionTree → ℕ
last_of (Name n) = n.spot.at
last_of (Constant spot value type) = spot.at
last_of (Literal extent bytes) = extent.last
last_of (Parenthesized extent e) = extent.last
last_of (Index e index last) = last
last_of (Call e arguments last) = last
last_of (PostIncrement e last) = last
last_of (PostDecrement e last) = last
last_of (Prefix spot operator e) = last_of e
last_of (Cast spot type e) = last_of e
last_of (SizeofExpression spot e) = last_of e
last_of (SizeofType extent type stars) = extent.last
last_of (SizeofArray extent type stars size) = extent.last
last_of (Binary operator left right) = last_of right
last_of (Conditional condition a b) = last_of b
last_of (Assignment operator target value) = last_of value
last_of (Comma left right) = last_of right

-- the offset of the last token of a suffix
abbrev pub suffix_last : SuffixTree → ℕ
suffix_last (Indexes index last) = last
suffix_last (Calls arguments last) = last
suffix_last (Increments last) = last
suffix_last (Decrements last) = last
