use Rattle.std.proofs.Common.{rules}
use Rattle.c_tree.proofs.Chains.{suffixes_first, operations_first, commas_first}
use Rattle.c_tree.proofs.Views.{postfix_view, binary_view, comma_view}
use Rattle.c_tree.proofs.expression.Expression.+first.Goals as goal

pub returns-in-Postfix : goal.returns-in-Postfix
returns-in-Postfix t c = rw (c.in-Postfix.is, postfix_view c.in-Postfix.operand c.in-Postfix.suffixes, suffixes_first) (search rules)

pub returns-in-Binary : goal.returns-in-Binary
returns-in-Binary t c = rw (c.in-Binary.is, binary_view c.in-Binary.first c.in-Binary.operations, operations_first) (search rules)

pub returns-in-Comma : goal.returns-in-Comma
returns-in-Comma t c = rw (c.in-Comma.is, comma_view c.in-Comma.first c.in-Comma.rest, commas_first) (search rules)
