-- What fits in numbers of 32 bits, where the places and variables of a program do.
use Rattle.std.proofs.Common.{◌≡◌, ℕ, List, [], ◌∷◌, ◌+◌, ◌<◌, ◌^◌, length, map, ap, ◌∙◌, arith}
use Rattle.std.specs.Prelude.{All}
use Rattle.std.proofs.lemmas.List.{length-map}
use Rattle.std.proofs.lemmas.List.Elements.{All-nil, All-cons, All-head, All-tail}
use Rattle.c_tree.specs.declared.program.TypedFunction.{TypedFunction}
use Rattle.c_tree.specs.Programs.{TypedFunctionTree, function_view}
use Rattle.c_places.specs.declared.place.Place as declared-place
use Rattle.c_places.specs.Places.{Place, place_number_at, place_view}
use Rattle.c_flow.specs.Tables.{place_number}

-- as many positions as places
pub few_positions : (places : List declared-place.Place) (positions : List ℕ) (listed : List Place) → map place_view places ≡ listed → length positions ≡ length places → length listed + 1 < 2 ^ 32 → length positions + 1 < 2 ^ 32
few_positions places positions listed same count few = omega (arith, length-map places place_view, ap length same)

-- the numbers among the places of a program
pub numbers_among : (places : List declared-place.Place) (positions : List ℕ) (listed : List Place) → map place_view places ≡ listed
    → ((at : ℕ) → place_number positions at ≡ place_number_at (map place_view places) at) → (at : ℕ) → place_number positions at ≡ place_number_at listed at
numbers_among places positions listed same numbers at = numbers at ∙ ap (λ (ps : List Place). place_number_at ps at) same

-- what holds of functions as contracts see them holds of the functions
pub parameters_fit : (functions : List TypedFunction) → All (λ (f : TypedFunctionTree). f.first_variable + f.parameters < 2 ^ 32) (map function_view functions) → All (λ (f : TypedFunction). f.first_variable + f.parameters < 2 ^ 32) functions
parameters_fit [] all = All-nil (λ (f : TypedFunction). f.first_variable + f.parameters < 2 ^ 32)
parameters_fit (f ∷ functions) all =
    All-cons (λ (f : TypedFunction). f.first_variable + f.parameters < 2 ^ 32) f functions (All-head (λ (f : TypedFunctionTree). f.first_variable + f.parameters < 2 ^ 32) (function_view f) (map function_view functions) all)
    (parameters_fit functions (All-tail (λ (f : TypedFunctionTree). f.first_variable + f.parameters < 2 ^ 32) (function_view f) (map function_view functions) all))
