use Rattle.std.proofs.Common.{◌≡◌, drop}
use Rattle.std.specs.Prelude.{map}
use Rattle.std.specs.Option.{option_map}
use Rattle.c_tree.specs.Expressions.{chain_of_arguments, expression_view, suffix_view}
use Rattle.c_type_values.specs.Values.{meant_view, node_view}
use Rattle.c_type_expressions.specs.Chains.{commas_met, operation_view, operations_met, suffixes_met}
use Rattle.c_type_expressions.specs.Expressions.{typed_all}
use Rattle.c_type_expressions.specs.Findings.{findings_view}
use Rattle.c_type_expressions.specs.Judgements.{with_passed}
use Rattle.c_type_expressions.specs.Names.{names_view, signature_view}
use Rattle.c_type_expressions.proofs.expressions.+meaning.Given as goal

abbrev pub invariant-suffixed-loop-one : goal.invariant-suffixed-loop-one
invariant-suffixed-loop-one l =
    suffixes_met (names_view l.names) (option_map (λ g. signature_view g.now) l.callee) l.first (map suffix_view (drop l.one-index l.suffixes)) (option_map meant_view l.meant) (findings_view l.found)
    ≡ suffixes_met (names_view l.names) (option_map (λ g. signature_view g.now) l.function) l.first (map suffix_view l.suffixes) (option_map meant_view l.fn.operand) (findings_view l.fn.found)

abbrev pub invariant-operators-loop-operator : goal.invariant-operators-loop-operator
invariant-operators-loop-operator l =
    operations_met (names_view l.names) l.first l.zero (map operation_view (drop l.operator-index l.operations)) (option_map meant_view l.meant) (findings_view l.found)
    ≡ operations_met (names_view l.names) l.first l.is_zero_token (map operation_view l.operations) (option_map meant_view l.fn.operand) (findings_view l.fn.found)

abbrev pub invariant-commas-loop-e : goal.invariant-commas-loop-e
invariant-commas-loop-e l =
    commas_met (names_view l.names) (map expression_view (drop l.e-index l.rest)) (option_map meant_view l.meant) (findings_view l.found)
    ≡ commas_met (names_view l.names) (map expression_view l.rest) (option_map meant_view l.fn.operand) (findings_view l.fn.found)

abbrev pub invariant-passed-loop-at : goal.invariant-passed-loop-at
invariant-passed-loop-at l =
    with_passed (map node_view l.trees.items) l.fit (typed_all (names_view l.names) (chain_of_arguments (map expression_view (drop l.at l.arguments))) l.parameters l.at (findings_view l.found))
    ≡ typed_all (names_view l.names) (chain_of_arguments (map expression_view l.arguments)) l.parameters 0 (findings_view l.fn.found)
