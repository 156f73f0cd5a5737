-- Tables of places.
use Rattle.std.specs.Prelude.{ℕ, ◌≤◌, List, take}
use Rattle.std.specs.List.Sorted.{IsNonDecreasing, IsPermutation}
use Rattle.graph_core.specs.declared.place_table.PlaceTable.{PlaceTable}
use Rattle.memory_map.specs.declared.map.Room.TheVariants.{Large}
use Rattle.graph_core.specs.Bounds.{most_markers}

-- the places that a table lists
abbrev pub listed : PlaceTable → List ℕ
listed t = take t.count t.places

-- A table lists these places, each as often as it stands among them, in order of their numbers.
pub record IsTableOf (places : List ℕ) (t : PlaceTable) : Type 0 where
  pub within : t.count ≤ most_markers Large
  pub order : IsNonDecreasing (listed t)
  pub same : IsPermutation places (listed t)
