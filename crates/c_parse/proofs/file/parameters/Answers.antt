use Rattle.std.proofs.Common.{◌≡◌, ◌++◌, ◌∷◌, [], length, sym, arith}
use Rattle.std.specs.Prelude.{map}
use Rattle.std.proofs.lemmas.List.{map_push}
use Rattle.c_token.specs.Lexemes.{lexemes}
use Rattle.c_tree.specs.Declarations.{parameter_view}
use Rattle.c_parse.specs.Reading.{parameter, parameters}
use Rattle.c_parse_tokens.proofs.Separated.{separated_goes_on}
use Rattle.c_parse.proofs.file.parameters.Goals as goal

pub loop-after-preserved : goal.loop-after-preserved
loop-after-preserved c =
    let pushed : map parameter_view c.push-in-Some-behind.new.list.items ≡ map parameter_view c.loop-after.parameters.items ++ parameter_view c.in_ok-next.next.value ∷ [] =
    rw c.in_ok-push-2.ensures.items (map_push parameter_view c.loop-after.parameters.items c.in_ok-next.next.value) in
    record {
      not_longer = omega (arith, c.in_ok-next.ensures.shorter, c.in-Some-behind.ensures.shorter, c.loop-after.invariant.not_longer);
      same = rw pushed (separated_goes_on c.loop-after.invariant.same.0 (length c.loop-after.rest.now) (length c.in_ok-next.behind.now) (parameter c.args.depth) (map parameter_view c.loop-after.parameters.items) (parameter_view c.in_ok-next.next.value) (lexemes c.loop-after.rest.now) (lexemes c.in-Some-behind.after.now) (lexemes c.in_ok-next.behind.now) (parameters c.args.depth (lexemes c.args.tokens.now)) (omega (arith, c.in_ok-next.ensures.shorter, c.in-Some-behind.ensures.shorter)) c.loop-after.invariant.same.1 (sym c.in-Some-behind.ensures.reads) c.in_ok-next.ensures.reads c.loop-after.invariant.same.2);
    }
