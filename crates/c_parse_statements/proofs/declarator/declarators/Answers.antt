use Rattle.std.proofs.Common.{◌≡◌, ◌++◌, ◌∷◌, [], length, sym, arith}
use Rattle.std.specs.Prelude.{map}
use Rattle.std.proofs.lemmas.List.{map_push}
use Rattle.c_token.specs.Lexemes.{lexemes}
use Rattle.c_tree.specs.Declarations.{declarator_view}
use Rattle.c_parse_tokens.specs.Front.{separated}
use Rattle.c_parse_statements.specs.Declarations.{declarator}
use Rattle.c_parse_tokens.proofs.Separated.{separated_goes_on}
use Rattle.c_parse_statements.proofs.declarator.declarators.Goals as goal

pub loop-after-preserved : goal.loop-after-preserved
loop-after-preserved c =
    let pushed : map declarator_view c.push-in-Some.new.list.items ≡ map declarator_view c.loop-after.declarators.items ++ declarator_view c.in_ok-next.next.value ∷ [] =
    rw c.in_ok-push-2.ensures.items (map_push declarator_view c.loop-after.declarators.items c.in_ok-next.next.value) in
    record {
      not_longer = omega (arith, c.in_ok-next.ensures.shorter, c.in-Some.ensures.shorter, c.loop-after.invariant.not_longer);
      same = rw pushed (separated_goes_on c.loop-after.invariant.same.0 (length c.loop-after.rest.now) (length c.in_ok-next.behind.now) (declarator c.args.depth) (map declarator_view c.loop-after.declarators.items) (declarator_view c.in_ok-next.next.value) (lexemes c.loop-after.rest.now) (lexemes c.in-Some.after.now) (lexemes c.in_ok-next.behind.now) (separated (length (lexemes c.args.tokens.now)) (declarator c.args.depth) (declarator_view c.args.first.value ∷ []) (lexemes c.args.tokens.now)) (omega (arith, c.in_ok-next.ensures.shorter, c.in-Some.ensures.shorter)) c.loop-after.invariant.same.1 (sym c.in-Some.ensures.reads) c.in_ok-next.ensures.reads c.loop-after.invariant.same.2);
    }
