-- What is known of names that interfere, and which of them have registers.
use Rattle.std.specs.Prelude.{◌≡◌, ℕ, ◌+◌, ◌<◌, ◌↔◌, Bool, true, false}
use Rattle.bit_rows.specs.Grid.{is_set}
use Rattle.graph_core.specs.Graphs.{Graph}
use Rattle.home_assign.specs.declared.registers.Interference.{Interference}
use Rattle.home_assign.specs.Clashes.{Clashes}

-- one name is written where another is live
abbrev pub clashes : Interference → (x y : ℕ) → Bool
clashes all x y = is_set all.rows x y

-- a name has a register, told by its number among those that may be homes
abbrev pub has : Interference → (register x : ℕ) → Bool
has all register x = is_set all.rows (all.names + (1 + register)) x

-- No name that has the register is written where this name is live, or live where this name is written.
abbrev pub IsFreeFor : Interference → (register x : ℕ) → Type 0
IsFreeFor all register x = (y : ℕ) → has all register y ≡ true → (clashes all x y ≡ false) × (clashes all y x ≡ false)

-- of the same names the same clash
pub record HaveSameClashes (a b : Interference) : Type 0 where
  pub count : b.names ≡ a.names
  pub same : (x y : ℕ) → x < a.names → clashes b x y ≡ clashes a x y

-- the same names have each register
abbrev pub HaveSameRegisters : (a b : Interference) → Type 0
HaveSameRegisters a b = (register x : ℕ) → register < 15 → has b register x ≡ has a register x

-- It is known of the names of a graph, and right.
pub record AreClashesOf (g : Graph) (all : Interference) : Type 0 where
  pub count : all.names ≡ g.name_count
  pub right : (x y : ℕ) → x < g.name_count → y < g.name_count → (clashes all x y ≡ true) ↔ Clashes g x y
