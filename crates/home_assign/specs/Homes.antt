-- Homes of a graph's names.
use Rattle.std.specs.Prelude.{◌≡◌, ℕ, List, length, map}
use Rattle.std.specs.List.{AllByRecursion}
use Rattle.graph_homes.specs.declared.home.Home.{Home}
use Rattle.graph_homes.specs.Homed.{IsHomeAmong}
use Rattle.graph_homes.specs.declared.homed.FunctionHomes as declared-homes

-- There is a home for each of so many names.
pub record AreHomesFor (names : ℕ) (homes : List Home) : Type 0 where
  pub each : length homes ≡ names
  pub among : AllByRecursion (IsHomeAmong names) homes

-- the homes of functions
abbrev pub homes_listed : List declared-homes.FunctionHomes → List (List Home)
homes_listed all = map (λ (f : declared-homes.FunctionHomes). f.homes.items) all
