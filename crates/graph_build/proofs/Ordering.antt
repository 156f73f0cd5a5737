-- Blocks that were made from the last to the first, as contracts see them in order.
use Rattle.std.proofs.Common.{◌≡◌, List, [], ◌∷◌, ◌++◌, map, reverse, refl, ap, sym, ◌∙◌}
use Rattle.std.proofs.lemmas.List.{map-append, reverse-append}
use Rattle.graph_core.specs.declared.block.Block as declared-block
use Rattle.graph_core.specs.Graphs.{block_view}

-- what is seen of a list that is turned round is what is seen of the list, turned round
pub seen_in_reverse : {X Y : Type 0} (f : X → Y) (xs : List X) → map f (reverse xs) ≡ reverse (map f xs)
seen_in_reverse f [] = refl
seen_in_reverse f (x ∷ xs) =
    ap (map f) (reverse-append (x ∷ []) xs) ∙ map-append f (reverse xs) (x ∷ []) ∙ ap (λ l. l ++ f x ∷ []) (seen_in_reverse f xs)
    ∙ sym (reverse-append (f x ∷ []) (map f xs))

-- blocks of places and inner ones, each turned round, one behind the other
pub seen_in_order : (blocks placed inner : List declared-block.Block) → blocks ≡ reverse placed ++ reverse inner
    → map block_view blocks ≡ map block_view (reverse placed) ++ reverse (map block_view inner)
seen_in_order blocks placed inner same =
    ap (map block_view) same ∙ map-append block_view (reverse placed) (reverse inner) ∙ ap (λ l. map block_view (reverse placed) ++ l) (seen_in_reverse block_view inner)
