-- The numbers of functions fit in 32 bits, where a program's functions do.
use Rattle.std.proofs.Common.{◌≡◌, ℕ, List, [], ◌∷◌, ◌<◌, ◌^◌, length, map, sym, subst, arith}
use Rattle.std.specs.Prelude.{All}
use Rattle.std.proofs.lemmas.List.Elements.{All-nil, All-cons, All-head, All-tail}
use Rattle.c_tree.specs.Programs.{ProgramTree}
use Rattle.c_places.specs.declared.place.Place as declared-place
use Rattle.c_places.specs.Places.{Place, place_view, places_of_program}
use Rattle.c_flow.proofs.InFunctions.{functions_below}

-- what holds of places as contracts see them holds of the places
of_views : (bound : ℕ) (places : List declared-place.Place) → All (λ (p : Place). p.function < bound) (map place_view places) → All (λ (p : declared-place.Place). p.function < bound) places
of_views bound [] all = All-nil (λ (p : declared-place.Place). p.function < bound)
of_views bound (p ∷ places) all =
    All-cons (λ (q : declared-place.Place). q.function < bound) p places (All-head (λ (q : Place). q.function < bound) (place_view p) (map place_view places) all)
    (of_views bound places (All-tail (λ (q : Place). q.function < bound) (place_view p) (map place_view places) all))

-- the numbers of the functions of places fit
pub functions_fit : (places : List declared-place.Place) (p : ProgramTree) → map place_view places ≡ places_of_program p → length p.functions < 2 ^ 32 → All (λ (q : declared-place.Place). q.function < 2 ^ 32) places
functions_fit places p same few =
    of_views (2 ^ 32) places (subst (λ (ps : List Place). All (λ (q : Place). q.function < 2 ^ 32) ps) (sym same) (functions_below 0 (2 ^ 32) p.functions (omega arith)))
