-- The numbers of a program's places by their positions.
use Rattle.std.specs.Prelude.{◌≡◌, ℕ, ◌+◌, ◌<◌, ◌^◌, List, length}
use Rattle.std.specs.List.Sorted.{IsNonDecreasing}
use Rattle.c_tree.specs.Programs.{ProgramTree}
use Rattle.c_places.specs.Places.{places_of_program, place_number_at}
use Rattle.c_flow.specs.Tables.{place_number}

-- Positions that are in order and fewer than 2^32 number the places of a program: as many of them as there are places
-- stand before any position.
pub record AreNumbered (p : ProgramTree) (positions : List ℕ) : Type 0 where
  pub sorted : IsNonDecreasing positions
  pub few : length positions + 1 < 2 ^ 32
  pub numbers : (at : ℕ) → place_number positions at ≡ place_number_at (places_of_program p) at
