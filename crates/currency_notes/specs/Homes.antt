-- The homes of a function's names, and the scalars whose notes may read them.
use Rattle.std.specs.Prelude.{◌≡◌, ℕ, ◌+◌, min, Option, Some, None, List, [], slice_get}
use Rattle.std.specs.Option.{option_map_or}
use Rattle.graph_homes.specs.declared.home.Home.{Home}
use Rattle.graph_homes.specs.declared.home.Home.TheVariants.{Register, Slot}
use Rattle.graph_core.specs.Graphs.{Recipe}
use Rattle.graph_core.specs.Uses.{names_in}
use Rattle.graph_core.specs.Paths.{Among}
use Rattle.currency_notes.specs.declared.homes.Homes as declared-homes

-- The home of a name. One that has none counts as kept in the first slot.
abbrev pub home_in : List Home → ℕ → Home
home_in homes x = option_map_or (λ (home : Home). home) (slice_get homes x) (Slot 0)

-- the number of a home: that of a register, or 32 and that of a slot, as far as numbers of 32 bits go
abbrev pub number_at : Home → ℕ
number_at (Register r) = r
number_at (Slot k) = min (k + 32) 4294967295

module _ (m : declared-homes.Homes) where
  -- the home of a name
  abbrev pub home_by : ℕ → Home
  home_by x = home_in m.homes.now x

  -- the new number of a name's home, if it has one
  abbrev pub number_in : ℕ → Option ℕ
  number_in x = option_map_or (λ (n : Option ℕ). n) (slice_get m.numbers.items (number_at (home_by x))) None

  -- the scalars whose notes may read the home of a new number
  abbrev pub readers_of : ℕ → List ℕ
  readers_of k = option_map_or (λ v. v.items) (slice_get m.readers.items k) []

  -- the homes of two names have one number
  abbrev pub IsRead : (y z : ℕ) → Type 0
  IsRead y z = number_at (home_by y) ≡ number_at (home_by z)

  -- A scalar is among those whose notes may read the home of a name, if that has a new number.
  abbrev pub IsReadBy : (y x : ℕ) → Type 0
  IsReadBy y x = (k : ℕ) → number_in y ≡ Some k → Among x (readers_of k)

  -- A scalar is so for each name of a recipe.
  abbrev pub AreReadBy : Recipe → (x : ℕ) → Type 0
  AreReadBy r x = (y : ℕ) → Among y (names_in r) → IsReadBy y x

  -- A recipe does not read the home of a name.
  abbrev pub IsUnread : Recipe → (z : ℕ) → Type 0
  IsUnread r z = (y : ℕ) → Among y (names_in r) → IsRead y z → ⊥
