use Rattle.std.proofs.Common.{◌≡◌, ◌<◌, ◌≤◌, length, ℕ, ◌+◌, ◌*◌, ◌-◌}
use Rattle.std.specs.Prelude.{fold, map}
use Rattle.c_token.specs.Lexemes.{lexemes}
use Rattle.c_tree.specs.Expressions.{expression_view, suffix_view, operation, suffixed, Comma}
use Rattle.c_parse_expressions.specs.declared.expression.Sort.TheVariants as sort
use Rattle.c_parse_tokens.specs.Front.{separated}
use Rattle.c_parse_expressions.specs.Expressions.{nesting, comma, more_commas, levels, operations, cast, postfix, suffixes, arguments, nested}
use Rattle.c_parse_expressions.proofs.expression.+expression.Given as goal

abbrev pub decreases-nested : goal.decreases-nested
decreases-nested l = 32 * l.depth

abbrev pub decreases-primary : goal.decreases-primary
decreases-primary l = 32 * l.depth + 1

abbrev pub decreases-size : goal.decreases-size
decreases-size l = 32 * l.depth + 1

abbrev pub decreases-sizeof_expression : goal.decreases-sizeof_expression
decreases-sizeof_expression l = 32 * l.depth + 1

abbrev pub decreases-prefix : goal.decreases-prefix
decreases-prefix l = 32 * l.depth + 1

abbrev pub decreases-arguments : goal.decreases-arguments
decreases-arguments l = 32 * l.depth + 1

abbrev pub decreases-sizeof_type : goal.decreases-sizeof_type
decreases-sizeof_type l = 32 * l.depth + 2

abbrev pub decreases-suffix : goal.decreases-suffix
decreases-suffix l = 32 * l.depth + 2

abbrev pub decreases-postfix : goal.decreases-postfix
decreases-postfix l = 32 * l.depth + 3

abbrev pub decreases-unary : goal.decreases-unary
decreases-unary l = 32 * l.depth + 4

abbrev pub decreases-cast : goal.decreases-cast
decreases-cast l = 32 * l.depth + 5

abbrev pub decreases-conditional : goal.decreases-conditional
decreases-conditional l = 32 * l.depth + 17

abbrev pub decreases-assignment : goal.decreases-assignment
decreases-assignment l = 32 * l.depth + 18

abbrev pub decreases-comma : goal.decreases-comma
decreases-comma l = 32 * l.depth + 19

abbrev pub decreases-levels : goal.decreases-levels
decreases-levels l = 32 * l.depth + 6 + l.level

abbrev pub invariant-comma-loop-after : goal.invariant-comma-loop-after
invariant-comma-loop-after l = record {
  shorter : length l.left < length l.tokens;
  same : (n : ℕ) × (length l.left ≤ n) × (comma (nesting l.depth) (lexemes l.tokens)
      ≡ more_commas n (nesting l.depth) (fold Comma (expression_view l.first.value) (map expression_view l.rest.items)) (lexemes l.left));
}

abbrev pub decreases-comma-loop-after : goal.decreases-comma-loop-after
decreases-comma-loop-after l = length l.left

abbrev pub invariant-levels-loop-operator : goal.invariant-levels-loop-operator
invariant-levels-loop-operator l = record {
  shorter : length l.rest < length l.tokens;
  same : (n : ℕ) × (length l.rest ≤ n) × (levels l.level (cast (nesting l.depth)) (lexemes l.tokens)
      ≡ operations n l.level (levels (l.level - 1) (cast (nesting l.depth))) (fold operation (expression_view l.first.value) (map (λ o. (o.0, expression_view o.1)) l.operations.items)) (lexemes l.rest));
}

abbrev pub decreases-levels-loop-operator : goal.decreases-levels-loop-operator
decreases-levels-loop-operator l = length l.rest

abbrev pub invariant-postfix-loop-start : goal.invariant-postfix-loop-start
invariant-postfix-loop-start l = record {
  shorter : length l.rest < length l.tokens;
  same : (n : ℕ) × (length l.rest ≤ n) × (postfix (nesting l.depth) (lexemes l.tokens)
      ≡ suffixes n (nesting l.depth) (fold suffixed (expression_view l.operand.value) (map suffix_view l.suffixes.items)) (lexemes l.rest));
}

abbrev pub decreases-postfix-loop-start : goal.decreases-postfix-loop-start
decreases-postfix-loop-start l = length l.rest

abbrev pub invariant-arguments-loop-after : goal.invariant-arguments-loop-after
invariant-arguments-loop-after l = record {
  not_longer : length l.rest ≤ length l.tokens;
  same : (n : ℕ) × (length l.rest ≤ n) × (arguments (nesting l.depth) (lexemes l.tokens)
      ≡ separated n (nested (nesting l.depth) sort.Assignment) (map expression_view l.arguments.items) (lexemes l.rest));
}

abbrev pub decreases-arguments-loop-after : goal.decreases-arguments-loop-after
decreases-arguments-loop-after l = length l.rest
