use Rattle.std.proofs.Common.{◌≡◌, ◌++◌, ◌∷◌, [], length, arith}
use Rattle.std.specs.Prelude.{map}
use Rattle.std.proofs.lemmas.List.{map_push}
use Rattle.c_token.specs.Lexemes.{lexemes}
use Rattle.c_tree.specs.Trees.{item_view}
use Rattle.c_parse.specs.Reading.{items}
use Rattle.c_parse_tokens.proofs.Tokens.{length_lexemes}
use Rattle.c_parse.proofs.Loops.{items_go_on}
use Rattle.c_parse.proofs.file.items.Goals as goal

pub loop-rest-preserved : goal.loop-rest-preserved
loop-rest-preserved c =
    let pushed : map item_view c.push.new.self.items ≡ map item_view c.loop-rest.items.items ++ item_view c.in_ok-next.next ∷ [] =
    rw c.in_ok-push.ensures.items (map_push item_view c.loop-rest.items.items c.in_ok-next.next) in
    rw pushed (items_go_on c.loop-rest.invariant.0 (length c.loop-rest.rest.now) (length c.in_ok-next.behind.now) c.args.depth (map item_view c.loop-rest.items.items) (item_view c.in_ok-next.next) (lexemes c.loop-rest.rest.now) (lexemes c.in_ok-next.behind.now) (items c.args.depth (lexemes c.args.tokens.now)) (rw (length_lexemes c.loop-rest.rest.now) (omega (arith, c.in_ok-next.ensures.shorter))) c.in_ok-next.ensures.shorter c.loop-rest.invariant.1 c.in_ok-next.ensures.reads c.loop-rest.invariant.2)
