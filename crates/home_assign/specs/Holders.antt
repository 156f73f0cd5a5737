-- Which names have which registers.
use Rattle.std.specs.Prelude.{◌≡◌, ◌+◌, ◌<◌, ◌==◌, ℕ, if◌then◌else◌, List, [], ◌∷◌, length, slice_index_or}
use Rattle.std.specs.declared.vec.Vec.{Vec}
use Rattle.std.specs.declared.alloc.Global.{Global}
use Rattle.graph_homes.specs.declared.home.Home.{Home}
use Rattle.graph_homes.specs.declared.home.Home.TheVariants.{Register, Slot}

-- the names, from a number on, whose homes are a register
abbrev pub names_from : (name register : ℕ) → List Home → List ℕ
names_from x r [] = []
names_from x r (Register q ∷ more) = if q == r then x ∷ names_from (x + 1) r more else names_from (x + 1) r more
names_from x r (Slot k ∷ more) = names_from (x + 1) r more

-- For each register, so many, the names whose homes it is, in order.
pub record AreHolders (homes : List Home) (registers : ℕ) (holders : List (Vec ℕ Global)) : Type 0 where
  pub each : length holders ≡ registers
  pub at : (r : ℕ) (d : Vec ℕ Global) → r < registers → (slice_index_or holders r d).items ≡ names_from 0 r homes
