use Rattle.std.proofs.Common.{◌≡◌, ◌++◌, ◌∷◌, ◌∙◌, [], None, true, false, length, sym, arith}
use Rattle.std.specs.Prelude.{map}
use Rattle.std.proofs.lemmas.List.{map_push}
use Rattle.c_token.specs.Lexemes.{lexemes}
use Rattle.c_tree.specs.Statements.{statement_view, branch_view}
use Rattle.c_parse_tokens.specs.declared.mark.Mark.TheVariants as mark
use Rattle.c_parse_tokens.specs.Front.{tokens_behind, is_at, spot_at}
use Rattle.c_parse_expressions.specs.Expressions.{nesting}
use Rattle.c_parse_statements.specs.Statements.{statements, block, if_statement}
use Rattle.c_parse_tokens.proofs.Tokens.{length_lexemes}
use Rattle.c_parse_statements.proofs.ElseChains.{if_begins, else_ends, else_lacks}
use Rattle.c_parse_statements.proofs.Loops.{block_goes_on, else_goes_on}
use Rattle.c_parse_statements.proofs.statement.+statement.Goals as goal

pub block-loop-behind-preserved : goal.block-loop-behind-preserved
block-loop-behind-preserved t c =
    let pushed : map statement_view c.push.new.list.items ≡ map statement_view c.loop-behind.statements.items ++ statement_view c.in_ok-next.next.value ∷ [] =
    rw c.in_ok-push.ensures.items (map_push statement_view c.loop-behind.statements.items c.in_ok-next.next.value) in
    let open_still : tokens_behind mark.CloseBrace (lexemes c.loop-behind.rest.now) ≡ None = sym c.in_default.ensures.reads in
    record {
      shorter = omega (arith, c.in_ok-next.ensures.shorter, c.loop-behind.invariant.shorter);
      same = rw pushed (block_goes_on c.loop-behind.invariant.same.0 (length c.loop-behind.rest.now) (length c.in_ok-next.behind.now) (statements c.args.depth) c.args.may_declare (spot_at (lexemes c.args.tokens.now)) (map statement_view c.loop-behind.statements.items) (statement_view c.in_ok-next.next.value) (lexemes c.loop-behind.rest.now) (lexemes c.in_ok-next.behind.now) (block (statements c.args.depth) c.args.may_declare (lexemes c.args.tokens.now)) c.in_ok-next.ensures.shorter c.loop-behind.invariant.same.1 open_still c.in_ok-next.ensures.reads c.loop-behind.invariant.same.2);
    }

pub if_statement-loop-after-init : goal.if_statement-loop-after-init
if_statement-loop-after-init t c = record {
  shorter = c.in_ok-first.ensures.shorter;
  same = (length (lexemes c.in_ok-first.rest.now), rw (length_lexemes c.in_ok-first.rest.now) (omega arith), rw c.new-others.ensures.items (if_begins (nesting c.args.depth) (statements c.args.depth) (lexemes c.args.tokens.now) (branch_view c.in_ok-first.first.value) (lexemes c.in_ok-first.rest.now) c.in_ok-first.ensures.reads));
}

pub if_statement-loop-after-preserved : goal.if_statement-loop-after-preserved
if_statement-loop-after-preserved t c =
    let pushed : map branch_view c.push.new.list.items ≡ map branch_view c.loop-after.others.items ++ branch_view c.in_ok-next.next.value ∷ [] =
    rw c.in_ok-push.ensures.items (map_push branch_view c.loop-after.others.items c.in_ok-next.next.value) in
    let chained : is_at mark.If (lexemes c.in-Some.after.now) ≡ true = sym c.is_at.ensures ∙ c.if-not-is_at.false in
    record {
      shorter = omega (arith, c.in_ok-next.ensures.shorter, c.in-Some.ensures.shorter, c.loop-after.invariant.shorter);
      same = rw pushed (else_goes_on c.loop-after.invariant.same.0 (length c.loop-after.rest.now) (length c.in_ok-next.behind.now) (nesting c.args.depth) (statements c.args.depth) (branch_view c.in_ok-first.first.value) (map branch_view c.loop-after.others.items) (branch_view c.in_ok-next.next.value) (lexemes c.loop-after.rest.now) (lexemes c.in-Some.after.now) (lexemes c.in_ok-next.behind.now) (if_statement (nesting c.args.depth) (statements c.args.depth) (lexemes c.args.tokens.now)) (omega (arith, c.in_ok-next.ensures.shorter, c.in-Some.ensures.shorter)) c.loop-after.invariant.same.1 (sym c.in-Some.ensures.reads) chained c.in_ok-next.ensures.reads c.loop-after.invariant.same.2);
    }

pub if_statement-returns-then-not-is_at-clause-reads : goal.if_statement-returns-then-not-is_at-clause-reads
if_statement-returns-then-not-is_at-clause-reads t c =
    let last : is_at mark.If (lexemes c.in-Some.after.now) ≡ false = sym c.is_at.ensures ∙ c.if-not-is_at.true in
    rw (else_ends c.loop-after.invariant.same.0 (nesting c.args.depth) (statements c.args.depth) (branch_view c.in_ok-first.first.value) (map branch_view c.loop-after.others.items) (statement_view c.in_ok-last.last.value) (lexemes c.loop-after.rest.now) (lexemes c.in-Some.after.now) (lexemes c.in_ok-last.rest.now) (if_statement (nesting c.args.depth) (statements c.args.depth) (lexemes c.args.tokens.now)) (omega (arith, c.in-Some.ensures.shorter, c.loop-after.invariant.same.1)) (sym c.in-Some.ensures.reads) last c.in_ok-last.ensures.reads c.loop-after.invariant.same.2) c.chosen.ensures.reads

pub if_statement-returns-clause-reads : goal.if_statement-returns-clause-reads
if_statement-returns-clause-reads t c =
    rw (else_lacks c.loop-after.invariant.same.0 (nesting c.args.depth) (statements c.args.depth) (branch_view c.in_ok-first.first.value) (map branch_view c.loop-after.others.items) (lexemes c.loop-after.rest.now) (if_statement (nesting c.args.depth) (statements c.args.depth) (lexemes c.args.tokens.now)) (sym c.in_default.ensures.reads) c.loop-after.invariant.same.2) c.chosen-2.ensures.reads
