use Rattle.std.proofs.Common.{◌≡◌, ◌++◌, ◌∷◌, ◌∙◌, [], length, sym, arith}
use Rattle.std.specs.Prelude.{map}
use Rattle.std.proofs.lemmas.List.{map_push}
use Rattle.c_token.specs.Lexemes.{lexemes}
use Rattle.c_tree.specs.Declarations.{initializer_view}
use Rattle.c_parse_statements.specs.Declarations.{in_braces, within_braces}
use Rattle.c_parse_statements.proofs.CParseDeclarationsLoops.{braces_go_on}
use Rattle.c_parse_statements.proofs.initializer.+initializer.Goals as goal

pub in_braces-loop-after-preserved : goal.in_braces-loop-after-preserved
in_braces-loop-after-preserved t c =
    let pushed : map initializer_view c.push-in-Some.new.list.items ≡ map initializer_view c.loop-after.initializers.items ++ initializer_view c.in_ok-next.next.value ∷ [] =
    rw c.in_ok-push-2.ensures.items (map_push initializer_view c.loop-after.initializers.items c.in_ok-next.next.value) in
    record {
      shorter = omega (arith, c.in_ok-next.ensures.shorter, c.in-Some.ensures.shorter, c.loop-after.invariant.shorter);
      same = rw pushed (braces_go_on c.loop-after.invariant.same.0 (length c.loop-after.rest.now) (length c.in_ok-next.behind.now) (within_braces c.args.depth) (map initializer_view c.loop-after.initializers.items) (initializer_view c.in_ok-next.next.value) (lexemes c.loop-after.rest.now) (lexemes c.in-Some.after.now) (lexemes c.in_ok-next.behind.now) (in_braces (within_braces c.args.depth) (lexemes c.args.tokens.now)) (omega (arith, c.in_ok-next.ensures.shorter, c.in-Some.ensures.shorter)) c.loop-after.invariant.same.1 (sym c.in-Some.ensures.reads) (sym c.is_at.ensures ∙ c.if-is_at.false) c.in_ok-next.ensures.reads c.loop-after.invariant.same.2);
    }
