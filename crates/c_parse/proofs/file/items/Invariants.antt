use Rattle.std.proofs.Common.{◌≡◌, ◌≤◌, ℕ, length}
use Rattle.std.specs.Prelude.{map}
use Rattle.c_token.specs.Lexemes.{lexemes}
use Rattle.c_tree.specs.Trees.{item_view}
use Rattle.c_parse.specs.Reading.{items, items_from}
use Rattle.c_parse.proofs.file.items.Given as goal

abbrev pub invariant-loop-rest : goal.invariant-loop-rest
invariant-loop-rest l =
    (n : ℕ) × (length l.rest ≤ n) × (items l.depth (lexemes l.tokens) ≡ items_from n l.depth (map item_view l.items.items) (lexemes l.rest))

abbrev pub decreases-loop-rest : goal.decreases-loop-rest
decreases-loop-rest l = length l.rest
