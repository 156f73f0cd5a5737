use Rattle.std.proofs.Common.{◌≡◌, length, vec_len, sym, ◌∙◌, arith}
use Rattle.std.specs.Prelude.{map}
use Rattle.c_tree.specs.Expressions.{expression_view, suffix_view}
use Rattle.c_tree.proofs.Cores.{suffixes_are_compound, operations_are_compound, commas_are_compound, not_empty}
use Rattle.c_tree.proofs.Views.{postfix_view, binary_view, comma_view}
use Rattle.c_tree.proofs.expression.Expression.+core.Goals as goal

pub returns-else-is_empty : goal.returns-else-is_empty
returns-else-is_empty t c =
    let all : vec_len c.in-Postfix.suffixes ≡ length c.in-Postfix.suffixes.items = omega arith in
    rw (c.in-Postfix.is, postfix_view c.in-Postfix.operand c.in-Postfix.suffixes)
    (sym (suffixes_are_compound (expression_view c.in-Postfix.operand.value) (map suffix_view c.in-Postfix.suffixes.items) (not_empty suffix_view c.in-Postfix.suffixes.items (vec_len c.in-Postfix.suffixes) all (sym c.is_empty.ensures ∙ c.if-is_empty.false))))

pub returns-else-is_empty-2 : goal.returns-else-is_empty-2
returns-else-is_empty-2 t c =
    let all : vec_len c.in-Binary.operations ≡ length c.in-Binary.operations.items = omega arith in
    rw (c.in-Binary.is, binary_view c.in-Binary.first c.in-Binary.operations)
    (sym (operations_are_compound (expression_view c.in-Binary.first.value) (map (λ o. (o.0, expression_view o.1)) c.in-Binary.operations.items) (not_empty (λ o. (o.0, expression_view o.1)) c.in-Binary.operations.items (vec_len c.in-Binary.operations) all (sym c.is_empty-in-Binary.ensures ∙ c.if-is_empty-2.false))))

pub returns-else-is_empty-3 : goal.returns-else-is_empty-3
returns-else-is_empty-3 t c =
    let all : vec_len c.in-Comma.rest ≡ length c.in-Comma.rest.items = omega arith in
    rw (c.in-Comma.is, comma_view c.in-Comma.first c.in-Comma.rest)
    (sym (commas_are_compound (expression_view c.in-Comma.first.value) (map expression_view c.in-Comma.rest.items) (not_empty expression_view c.in-Comma.rest.items (vec_len c.in-Comma.rest) all (sym c.is_empty-in-Comma.ensures ∙ c.if-is_empty-3.false))))
