-- Which changes are logged of registers that scalars share with other names.
use Rattle.std.specs.Prelude.{◌≡◌, ◌⊎◌, ℕ, ◌<◌, Some, List, ◌++◌, map, slice_get, codes, AllPairs}
use Rattle.debug_records.specs.declared.change.PassName.{PassName}
use Rattle.debug_records.specs.Change.{pass_name}
use Rattle.graph_homes.specs.declared.home.Home.{Home}
use Rattle.graph_homes.specs.Reused.{IsReused}
use Rattle.graph_core.specs.Graphs.{Graph, Logged, Scalar, UnitForm}
use Rattle.graph_core.specs.Paths.{Among}
use Rattle.graph_homes.specs.Homed.{HomedForm, home_of}
use Rattle.home_assign.specs.Sharing.{change_of}

-- a scalar, by the number of its function and its own there
pub record Sharing : Type 0 where
  pub function : ℕ
  pub number : ℕ
  pub scalar : Scalar

-- by function, then by scalar
abbrev pub IsBefore : Sharing → Sharing → Type 0
IsBefore a b = (a.function < b.function) ⊎ ((a.function ≡ b.function) × (a.number < b.number))

-- Another name of the scalar's function has the scalar's register too, a scalar or a temporary, but for the temporaries
-- of the computations that changes of the log moved away from the scalar's assignments.
pub record IsSharing (log : List Logged) (graphs : List Graph) (home : (function name : ℕ) → Home) (s : Sharing)
    : Type 0 where
  pub graph : Graph
  pub is : slice_get graphs s.function ≡ Some graph
  pub of : slice_get graph.scalars s.number ≡ Some s.scalar
  pub reused : IsReused log (home s.function) graph s.number s.scalar.variable

-- the name of the pass that tells of it
abbrev pub homes_pass : PassName
homes_pass = pass_name (codes "homes")

-- THE CHANGES: the log goes on with one for each scalar that shares its register, by function and then by scalar, of
-- its variable and at its place, which is that of its declarator, or of the entry if it is a parameter; and with no
-- other.
pub record HaveChanges (u : UnitForm) (h : HomedForm) : Type 0 where
  pub sharings : List Sharing
  pub in_order : AllPairs IsBefore sharings
  pub only : (s : Sharing) → Among s sharings → IsSharing u.log u.graphs (home_of h) s
  pub all : (s : Sharing) → IsSharing u.log u.graphs (home_of h) s → Among s sharings
  pub log : h.unit.log ≡ u.log ++ map (λ (s : Sharing). change_of homes_pass s.scalar) sharings
