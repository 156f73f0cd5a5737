-- How the next home is chosen, with registers by their number among those that may be homes.
use Rattle.std.specs.Prelude.{◌≡◌, ◌↔◌, ℕ, ◌<◌, true, Option, Some, None, List, [], ◌∷◌, ◌++◌, slice_get}
use Rattle.graph_homes.specs.declared.home.Home.{Home}
use Rattle.graph_homes.specs.declared.home.Home.TheVariants.{Register}
use Rattle.graph_core.specs.Graphs.{Graph}
use Rattle.graph_homes.specs.Frames.{home_registers}
use Rattle.home_assign.specs.declared.registers.Interference.{Interference}
use Rattle.home_assign.specs.Joins.{IsFirst}
use Rattle.home_assign.specs.Registers.{AreClashesOf, has}
use Rattle.home_assign.specs.Rule.{IsHome}

-- a name has the register of this number
abbrev pub HasRegister : List Home → (name register : ℕ) → Type 0
HasRegister homes y k = (r : ℕ) × (slice_get home_registers k ≡ Some r) × (slice_get homes y ≡ Some (Register r))

-- the name that is joined, if there is one, has the register of this number
abbrev pub IsWished : List Home → (joined : Option ℕ) → (register : ℕ) → Type 0
IsWished homes joined k = (y : ℕ) × (joined ≡ Some y) × HasRegister homes y k

-- Each register is had by just the names whose home it is.
abbrev pub HaveHomeRegisters : Interference → List Home → Type 0
HaveHomeRegisters all homes =
    (k r y : ℕ) → slice_get home_registers k ≡ Some r → (has all k y ≡ true) ↔ (slice_get homes y ≡ Some (Register r))

-- Which register is chosen: the one that is wished if it is free, else the first that is free, else none.
pub data IsChosen (Wished Free : ℕ → Type 0) : Option ℕ → Type 0 where
  wished : {k : ℕ} → Wished k → Free k → IsChosen Wished Free (Some k)
  first : {k : ℕ} → ((j : ℕ) → Wished j → Free j → ⊥) → Free k → ((j : ℕ) → j < k → Free j → ⊥)
      → IsChosen Wished Free (Some k)
  none : ((j : ℕ) → Wished j → Free j → ⊥) → ((j : ℕ) → j < 15 → Free j → ⊥) → IsChosen Wished Free None

-- The homes have one more, which the rule gives the name.
pub record HaveNext (all : Interference) (joined : Option ℕ) (name : ℕ) (old new : List Home) : Type 0 where
  pub home : Home
  pub is : new ≡ old ++ home ∷ []
  pub rule : (g : Graph) → AreClashesOf g all → IsFirst g name joined → IsHome g old name home
