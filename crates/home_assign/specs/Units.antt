-- Homes of all functions of a unit, and the changes that tell of shared registers.
use Rattle.std.specs.Prelude.{◌≡◌, ◌≤◌, List, [], ◌∷◌, ◌++◌, length}
use Rattle.debug_records.specs.declared.change.PassName.{PassName}
use Rattle.debug_records.specs.declared.mode.Mode.{Mode}
use Rattle.graph_homes.specs.declared.home.Home.{Home}
use Rattle.graph_core.specs.Graphs.{Graph, Logged}
use Rattle.home_assign.specs.Sharing.{AreShared, home_in}
use Rattle.home_assign.specs.Homes.{AreHomesFor}
use Rattle.home_assign.specs.Rule.{AreHomes}
use Rattle.home_assign.specs.Clashes.{MayHaveHomes}

-- A graph's names can have homes, and its scalars are among them.
pub record IsHomeable (g : Graph) : Type 0 where
  pub may : MayHaveHomes g
  pub scalars : length g.scalars ≤ g.name_count

-- Each function has homes for its names, by the rule of the mode.
abbrev pub AreHomesOfEach : Mode → List Graph → List (List Home) → Type 0
AreHomesOfEach mode [] [] = Unit {0}
AreHomesOfEach mode [] (homes ∷ more) = ⊥
AreHomesOfEach mode (g ∷ graphs) [] = ⊥
AreHomesOfEach mode (g ∷ graphs) (homes ∷ more) =
    AreHomesFor g.name_count homes × AreHomes mode g homes × AreHomesOfEach mode graphs more

module _ (made : List Logged) (pass : PassName) where
  -- The changes of each function's scalars, function by function.
  pub data AreChangesOfEach : List Graph → List (List Home) → List Logged → Type 0 where
    no_more : AreChangesOfEach [] [] []
    of_first : {g : Graph} {graphs : List Graph} {homes : List Home} {more : List (List Home)} {own rest : List Logged}
        → AreShared made (home_in homes) g pass 0 g.scalars own → AreChangesOfEach graphs more rest
        → AreChangesOfEach (g ∷ graphs) (homes ∷ more) (own ++ rest)

  -- The log goes on with them.
  pub record AreLoggedOfEach (graphs : List Graph) (homes : List (List Home)) (old new : List Logged) : Type 0 where
    pub all : List Logged
    pub are : AreChangesOfEach graphs homes all
    pub log : new ≡ old ++ all
