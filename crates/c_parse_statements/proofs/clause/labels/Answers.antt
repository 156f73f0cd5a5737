use Rattle.std.proofs.Common.{◌≡◌, ◌<◌, ◌+◌, ◌++◌, ◌∷◌, [], length, Ok, Some, arith}
use Rattle.std.specs.Prelude.{map}
use Rattle.std.proofs.lemmas.List.{map_push}
use Rattle.c_token.specs.Lexemes.{lexemes}
use Rattle.c_tree.specs.Statements.{label_view}
use Rattle.c_parse_expressions.specs.Expressions.{nesting}
use Rattle.c_parse_statements.specs.Clauses.{label, labels}
use Rattle.c_parse_statements.proofs.CParseClausesLoops.{labels_go_on}
use Rattle.c_parse_statements.proofs.clause.labels.Goals as goal

pub loop-labels-preserved : goal.loop-labels-preserved
loop-labels-preserved c =
    let pushed : map label_view c.push.new.list.items ≡ map label_view c.loop-labels.labels.items ++ label_view c.in-Some.next.value ∷ [] =
    rw c.in_ok-push.ensures.items (map_push label_view c.loop-labels.labels.items c.in-Some.next.value) in
    let shorter : length c.in-Some.behind.now < length c.loop-labels.rest.now = rw c.in-Some.is at c.in_ok-next.ensures.shorter in
    let read : label (nesting c.args.depth) (lexemes c.loop-labels.rest.now) ≡ Ok (Some (label_view c.in-Some.next.value, lexemes c.in-Some.behind.now)) =
    rw c.in-Some.is at c.in_ok-next.ensures.reads in
    record {
      not_longer = omega (arith, shorter, c.loop-labels.invariant.not_longer);
      same = rw pushed (labels_go_on c.loop-labels.invariant.same.0 (length c.loop-labels.rest.now) (length c.in-Some.behind.now) (nesting c.args.depth) (map label_view c.loop-labels.labels.items) (label_view c.in-Some.next.value) (lexemes c.loop-labels.rest.now) (lexemes c.in-Some.behind.now) (labels (length (lexemes c.args.tokens.now) + 1) (nesting c.args.depth) [] (lexemes c.args.tokens.now)) shorter c.loop-labels.invariant.same.1 read c.loop-labels.invariant.same.2);
    }
