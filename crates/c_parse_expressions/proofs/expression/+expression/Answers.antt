use Rattle.std.proofs.Common.{◌≡◌, ◌<◌, ◌≤◌, ◌++◌, ◌∷◌, ◌-◌, [], length, sym, arith}
use Rattle.std.specs.Prelude.{map}
use Rattle.std.proofs.lemmas.List.{map_push}
use Rattle.c_token.specs.Lexemes.{lexemes}
use Rattle.c_tree.specs.declared.operator.BinaryOperator.{BinaryOperator}
use Rattle.c_tree.specs.declared.expression.Expression.{Expression}
use Rattle.c_tree.specs.Expressions.{expression_view, suffix_view, operation, suffixed, Comma}
use Rattle.c_parse_expressions.specs.declared.expression.Sort.TheVariants as sort
use Rattle.c_parse_expressions.specs.Expressions.{nested, nesting, comma, levels, cast, postfix, arguments}
use Rattle.c_parse_tokens.proofs.Tokens.{length_lexemes}
use Rattle.c_parse_tokens.proofs.Separated.{separated_goes_on}
use Rattle.c_parse_expressions.proofs.Loops.{level_begins, operations_go_on, commas_go_on, suffixes_go_on, fold_pushed}
use Rattle.c_parse_expressions.proofs.expression.+expression.Goals as goal

pub arguments-loop-after-preserved : goal.arguments-loop-after-preserved
arguments-loop-after-preserved t c =
    let pushed : map expression_view c.push-in-Some.new.list.items ≡ map expression_view c.loop-after.arguments.items ++ expression_view c.in_ok-next.next.value ∷ [] =
    rw c.in_ok-push-2.ensures.items (map_push expression_view c.loop-after.arguments.items c.in_ok-next.next.value) in
    record {
      not_longer = omega (arith, c.in_ok-next.ensures.shorter, c.in-Some.ensures.shorter, c.loop-after.invariant.not_longer);
      same = rw pushed (separated_goes_on c.loop-after.invariant.same.0 (length c.loop-after.rest.now) (length c.in_ok-next.behind.now) (nested (nesting c.args.depth) sort.Assignment) (map expression_view c.loop-after.arguments.items) (expression_view c.in_ok-next.next.value) (lexemes c.loop-after.rest.now) (lexemes c.in-Some.after.now) (lexemes c.in_ok-next.behind.now) (arguments (nesting c.args.depth) (lexemes c.args.tokens.now)) (omega (arith, c.in_ok-next.ensures.shorter, c.in-Some.ensures.shorter)) c.loop-after.invariant.same.1 (sym c.in-Some.ensures.reads) c.in_ok-next.ensures.reads c.loop-after.invariant.same.2);
    }

pub comma-loop-after-preserved : goal.comma-loop-after-preserved
comma-loop-after-preserved t c = record {
  shorter = omega (arith, c.in_ok-next.ensures.shorter, c.in-Some.ensures.shorter, c.loop-after.invariant.shorter);
  same = rw (c.in_ok-push.ensures.items, fold_pushed Comma expression_view) (commas_go_on c.loop-after.invariant.same.0 (length c.loop-after.left.now) (length c.in_ok-next.behind.now) (nesting c.args.depth) _ (expression_view c.in_ok-next.next.value) (lexemes c.loop-after.left.now) (lexemes c.in-Some.after.now) (lexemes c.in_ok-next.behind.now) (comma (nesting c.args.depth) (lexemes c.args.tokens.now)) (omega (arith, c.in_ok-next.ensures.shorter, c.in-Some.ensures.shorter)) c.loop-after.invariant.same.1 (sym c.in-Some.ensures.reads) c.in_ok-next.ensures.reads c.loop-after.invariant.same.2);
}

pub levels-loop-operator-init : goal.levels-loop-operator-init
levels-loop-operator-init t c = record {
  shorter = c.in_ok-first.ensures.shorter;
  same = (length (lexemes c.in_ok-first.rest.now), rw (length_lexemes c.in_ok-first.rest.now) (omega arith), rw c.new-operations.ensures.items (level_begins c.args.level (cast (nesting c.args.depth)) (lexemes c.args.tokens.now) (expression_view c.in_ok-first.first.value) (lexemes c.in_ok-first.rest.now) (omega (arith, c.if-level-eq0.false)) c.in_ok-first.ensures.reads));
}

pub levels-loop-operator-preserved : goal.levels-loop-operator-preserved
levels-loop-operator-preserved t c = record {
  shorter = omega (arith, c.in_ok-right.ensures.shorter, c.in-Some.ensures.shorter, c.loop-operator.invariant.shorter);
  same = rw (c.in_ok-push_operation.ensures.items, fold_pushed operation (λ (o : BinaryOperator × Expression). (o.0, expression_view o.1))) (operations_go_on c.loop-operator.invariant.same.0 (length c.loop-operator.rest.now) (length c.in_ok-right.behind.now) c.args.level (levels (c.args.level - 1) (cast (nesting c.args.depth))) _ (expression_view c.in_ok-right.right.value) c.in-Some.operator (lexemes c.loop-operator.rest.now) (lexemes c.in-Some.after.now) (lexemes c.in_ok-right.behind.now) (levels c.args.level (cast (nesting c.args.depth)) (lexemes c.args.tokens.now)) (omega (arith, c.in_ok-right.ensures.shorter, c.in-Some.ensures.shorter)) c.loop-operator.invariant.same.1 (sym c.in-Some.ensures.reads) c.in_ok-right.ensures.reads c.loop-operator.invariant.same.2);
}

pub postfix-loop-start-preserved : goal.postfix-loop-start-preserved
postfix-loop-start-preserved t c = record {
  shorter = omega (arith, c.in_ok-next.ensures.not_longer, c.in-Some.ensures.shorter, c.loop-start.invariant.shorter);
  same = rw (c.in_ok-push.ensures.items, fold_pushed suffixed suffix_view) (suffixes_go_on c.loop-start.invariant.same.0 (length c.loop-start.rest.now) (length c.in_ok-next.behind.now) (nesting c.args.depth) _ c.in-Some.start (suffix_view c.in_ok-next.next.value) (lexemes c.loop-start.rest.now) (lexemes c.in-Some.after.now) (lexemes c.in_ok-next.behind.now) (postfix (nesting c.args.depth) (lexemes c.args.tokens.now)) (omega (arith, c.in_ok-next.ensures.not_longer, c.in-Some.ensures.shorter)) c.loop-start.invariant.same.1 (sym c.in-Some.ensures.reads) c.in_ok-next.ensures.reads c.loop-start.invariant.same.2);
}
