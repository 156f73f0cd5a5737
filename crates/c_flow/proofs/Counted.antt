-- What fits in numbers of 32 bits, counted in the lists of the code.
use Rattle.std.proofs.Common.{◌≡◌, ◌+◌, ◌<◌, ◌^◌, List, length, map, ap, arith}
use Rattle.std.proofs.lemmas.List.{length-map}
use Rattle.c_tree.specs.declared.program.TypedFunction.{TypedFunction}
use Rattle.c_tree.specs.Programs.{function_view}
use Rattle.c_places.specs.declared.place.Place as declared-place
use Rattle.c_places.specs.Places.{Place, place_view}

pub few_places : (places : List declared-place.Place) (listed : List Place) → map place_view places ≡ listed → length listed + 1 < 2 ^ 32 → length places + 1 < 2 ^ 32
few_places places listed same few = omega (arith, length-map places place_view, ap length same)

pub few_listed : (places : List declared-place.Place) (listed : List Place) → map place_view places ≡ listed → length places + 1 < 2 ^ 32 → length listed + 1 < 2 ^ 32
few_listed places listed same few = omega (arith, length-map places place_view, ap length same)

pub few_given : (given functions : List TypedFunction) → given ≡ functions → length (map function_view functions) < 2 ^ 32 → length given < 2 ^ 32
few_given given functions same few = omega (arith, length-map functions function_view, ap length same)

pub few_functions : (given functions : List TypedFunction) → given ≡ functions → length given < 2 ^ 32 → length (map function_view functions) < 2 ^ 32
few_functions given functions same few = omega (arith, length-map functions function_view, ap length same)
