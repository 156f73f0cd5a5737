use Rattle.std.proofs.Common.{rules, ◌≡◌, ◌∙◌, arith, None}
use Rattle.std.specs.Prelude.{map, slice_get}
use Rattle.std.specs.Option.{option_map}
use Rattle.std.proofs.lemmas.List.{length-map}
use Rattle.c_tree.specs.Expressions.{expression_view, suffix_view}
use Rattle.c_tree.specs.Programs.{literal_view}
use Rattle.c_type_expressions.specs.Expressions.{is_zero}
use Rattle.c_type_expressions.specs.Judgements.{passed_to}
use Rattle.c_tree.proofs.Views.{binary_view, comma_view, postfix_view, sizeof_expression_view}
use Rattle.c_type_values.specs.Values.{meant_view, node_view, value_view}
use Rattle.c_type_expressions.specs.Chains.{operation_view}
use Rattle.c_type_expressions.specs.Findings.{findings_view}
use Rattle.c_type_expressions.specs.Names.{names_view, signature_view}
use Rattle.c_type_expressions.proofs.Arguments.{passed_step}
use Rattle.c_type_expressions.proofs.Chains.{commas_steps, operations_steps, sizeof_steps}
use Rattle.c_type_expressions.proofs.SuffixChains.{call_steps, suffixes_steps}
use Rattle.c_type_expressions.proofs.expressions.+meaning.Goals as goal

pub expression-returns-in-Some : goal.expression-returns-in-Some
expression-returns-in-Some t c =
    rw (
      c.in-Postfix.is,
      postfix_view c.in-Postfix.operand c.in-Postfix.suffixes,
      call_steps (names_view c.args.names.now) (expression_view c.in-Postfix.operand.value) (signature_view c.in-Some.function.now) (map suffix_view c.in-Postfix.suffixes.items) c.first.result (findings_view c.args.found.now) None (search rules) (search rules),
    )
    (search rules)

pub expression-returns-in_ok-meant-in-None : goal.expression-returns-in_ok-meant-in-None
expression-returns-in_ok-meant-in-None t c =
    rw (
      c.in-Postfix.is,
      postfix_view c.in-Postfix.operand c.in-Postfix.suffixes,
      suffixes_steps (names_view c.args.names.now) (expression_view c.in-Postfix.operand.value) (map suffix_view c.in-Postfix.suffixes.items) c.first-in-None.result (findings_view c.args.found.now) (findings_view c.expression-in-None.new.found) (option_map meant_view c.in_ok-meant-in-None.meant) (search rules) (search rules) (search rules),
    )
    (search rules)

pub expression-returns-in_ok-meant-in-SizeofExpression : goal.expression-returns-in_ok-meant-in-SizeofExpression
expression-returns-in_ok-meant-in-SizeofExpression t c =
    rw (
      c.in-SizeofExpression.is,
      sizeof_expression_view c.in-SizeofExpression.spot c.in-SizeofExpression.operand,
      sizeof_steps (names_view c.args.names.now) c.in-SizeofExpression.spot (expression_view c.in-SizeofExpression.operand.value) (findings_view c.args.found.now) (findings_view c.expression-in-SizeofExpression.new.found) (option_map meant_view c.in_ok-meant-in-SizeofExpression.meant) c.len-undefined.result c.len-literals.result (search rules) (rw (length-map c.args.found.now.literals.items literal_view) (search rules)) (search rules),
    )
    (search rules)

pub expression-returns-in_ok-meant-in-Binary : goal.expression-returns-in_ok-meant-in-Binary
expression-returns-in_ok-meant-in-Binary t c =
    rw (
      c.in-Binary.is,
      binary_view c.in-Binary.first c.in-Binary.operations,
      operations_steps (names_view c.args.names.now) (expression_view c.in-Binary.first.value) (map operation_view c.in-Binary.operations.items) c.first-in-Binary.result c.is_zero.result (findings_view c.args.found.now) (findings_view c.expression-in-Binary.new.found) (option_map meant_view c.in_ok-meant-in-Binary.meant) (search rules) (search rules) (search rules),
    )
    (search rules)

pub expression-returns-in_ok-meant-in-Comma : goal.expression-returns-in_ok-meant-in-Comma
expression-returns-in_ok-meant-in-Comma t c =
    rw (
      c.in-Comma.is,
      comma_view c.in-Comma.first c.in-Comma.rest,
      commas_steps (names_view c.args.names.now) (expression_view c.in-Comma.first.value) (map expression_view c.in-Comma.rest.items) (findings_view c.args.found.now) (findings_view c.expression-in-Comma.new.found) (option_map meant_view c.in_ok-meant-in-Comma.meant) (search rules),
    )
    (search rules)

pub passed-loop-at-preserved : goal.passed-loop-at-preserved
passed-loop-at-preserved t c =
    let parameter : c.parameter_at-parameter.result ≡ slice_get c.args.parameters.now c.loop-at.at = c.parameter_at-parameter.ensures in
    let zero : c.is_zero.result ≡ is_zero (expression_view c.index-arguments-at.result) = search rules in
    let one : (node_view c.in_ok-tree.tree, c.in_ok-tree.fits) ≡ passed_to c.parameter_at-parameter.result (option_map value_view c.in_ok-given.given) c.is_zero.result = c.in_ok-tree.ensures in
    rw (c.in_ok-push.ensures.items)
    (passed_step (names_view c.args.names.now) c.args.parameters.now c.loop-at.at c.args.arguments.now c.index-arguments-at.result c.loop-at.trees.items c.in_ok-tree.tree c.loop-at.fit c.in_ok-tree.fits (findings_view c.loop-at.found) (findings_view c.value.new.found) (option_map value_view c.in_ok-given.given) c.index-arguments-at.is (omega arith) (search rules) (rw (← parameter, ← zero) one)
    ∙ c.loop-at.invariant)
