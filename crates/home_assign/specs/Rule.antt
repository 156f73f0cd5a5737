-- Which home a name has, and that two names that interfere have two homes.
use Rattle.std.specs.Prelude.{◌≡◌, ℕ, ◌+◌, ◌<◌, false, Some, List, [], ◌∷◌, slice_get, take}
use Rattle.debug_records.specs.declared.mode.Mode.{Mode}
use Rattle.debug_records.specs.declared.mode.Mode.TheVariants.{Slots, Registers}
use Rattle.graph_homes.specs.declared.home.Home.{Home}
use Rattle.graph_homes.specs.declared.home.Home.TheVariants.{Register, Slot}
use Rattle.graph_homes.specs.Homes.{is_same_home}
use Rattle.graph_core.specs.Graphs.{Graph}
use Rattle.graph_homes.specs.Frames.{home_registers}
use Rattle.graph_homes.specs.Homed.{HomedForm, home_of, homes_in}
use Rattle.home_assign.specs.Clashes.{Interfere}
use Rattle.home_assign.specs.Joins.{IsFirstJoined}

-- a slot counts as one, a register as none
abbrev pub slot_in : Home → ℕ
slot_in (Register r) = 0
slot_in (Slot k) = 1

-- how many slots there are among homes
abbrev pub slots_in : List Home → ℕ
slots_in [] = 0
slots_in (k ∷ more) = slot_in k + slots_in more

module _ (g : Graph) (earlier : List Home) (x : ℕ) where
  -- no earlier name that has this register interferes with the name
  abbrev pub IsFree : (register : ℕ) → Type 0
  IsFree r = (y : ℕ) → slice_get earlier y ≡ Some (Register r) → Interfere g x y → ⊥

  -- the earliest earlier name to which it is joined has a register that is free for it
  abbrev pub IsSharable : Type 0
  IsSharable = (y : ℕ) × (r : ℕ) × IsFirstJoined g x y × (slice_get earlier y ≡ Some (Register r)) × IsFree r

  -- THE RULE, by the homes of the earlier names: the register of the earliest of them to which the name is joined, if
  -- that is free for it; else the first register that is; else a slot of its own.
  pub data IsHome : Home → Type 0 where
    joined : {y r : ℕ} → IsFirstJoined g x y → slice_get earlier y ≡ Some (Register r) → IsFree r → IsHome (Register r)
    first : {k r : ℕ} → (IsSharable → ⊥) → slice_get home_registers k ≡ Some r → IsFree r
        → ((j q : ℕ) → j < k → slice_get home_registers j ≡ Some q → IsFree q → ⊥) → IsHome (Register r)
    slot : (IsSharable → ⊥) → ((j q : ℕ) → slice_get home_registers j ≡ Some q → IsFree q → ⊥)
        → IsHome (Slot (slots_in earlier))

-- The homes of a graph's names: in slots each has the slot of its number, in registers the one by the rule.
abbrev pub AreHomes : Mode → Graph → List Home → Type 0
AreHomes Slots g homes = (x : ℕ) → x < g.name_count → slice_get homes x ≡ Some (Slot x)
AreHomes Registers g homes = (x : ℕ) (k : Home) → slice_get homes x ≡ Some k → IsHome g (take x homes) x k

-- two names that interfere have different homes
abbrev pub AreApart : Graph → (home : ℕ → Home) → Type 0
AreApart g home =
    (x y : ℕ) → x < g.name_count → y < g.name_count → Interfere g x y → is_same_home (home x) (home y) ≡ false

-- Each name of a unit has the slot of its number.
abbrev pub HaveSlots : HomedForm → Type 0
HaveSlots h =
    (f : ℕ) (g : Graph) → slice_get h.unit.graphs f ≡ Some g → (x : ℕ) → x < g.name_count → home_of h f x ≡ Slot x

-- Each name of a unit has the home that the rule gives it.
abbrev pub HaveRegisters : HomedForm → Type 0
HaveRegisters h =
    (f : ℕ) (g : Graph) → slice_get h.unit.graphs f ≡ Some g → (x : ℕ) → x < g.name_count
    → IsHome g (take x (homes_in h f)) x (home_of h f x)

-- In each function two names that interfere have different homes.
abbrev pub HaveHomesApart : HomedForm → Type 0
HaveHomesApart h = (f : ℕ) (g : Graph) → slice_get h.unit.graphs f ≡ Some g → AreApart g (home_of h f)
