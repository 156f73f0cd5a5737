-- What the definitions refuse, of small graphs.
use Rattle.std.specs.Prelude.{ℕ, None, List, [], ◌∷◌}
use Rattle.graph_core.specs.Graphs.{Name, Instruction, Same, Return, Graph}
use Rattle.pass_law.specs.Worked.{unit_of}
use Rattle.pass_law.specs.WorkedChanges.{copying, passing_by}
use Rattle.motion_pass_laws.specs.Often.{DoesNoMore, HasNothingAgain}
use Rattle.motion_pass_laws.specs.Optimal.{IsOptimal}
use Rattle.cdbg_passes.specs.NothingLeft.{HasNoCopies, HasNoDead}

-- x = y == z
abbrev pub compares : (x : ℕ) → Instruction
compares x = Same x (Name 0) (Name 1)

-- a function of one block with this code, of four names
abbrev pub of_one_block : List Instruction → Graph
of_one_block code =
    record {
      entry = 1;
      parameters = [];
      scalars = [];
      objects = [];
      name_count = 4;
      first_moved = 4;
      blocks = record { place = None; instructions = code; end = Return None } ∷ [];
    }

-- It is computed once,
abbrev pub comparing_once : Graph
comparing_once = of_one_block (compares 2 ∷ [])

-- and again.
abbrev pub comparing_twice : Graph
comparing_twice = of_one_block (compares 2 ∷ compares 3 ∷ [])

-- Something is left to do: in `x = y; return x` the copy reaches the read of x; and where y is returned in its place,
-- nothing reads x behind its assignment. In `x = y == z; w = y == z` the comparison is computed again; that does more
-- than `x = y == z` did; and what leaves it so is not optimal, for a safe placement computes once.
pub record AreRefused : Type 0 where
  pub copy : HasNoCopies copying → ⊥
  pub dead : HasNoDead (unit_of passing_by []) passing_by → ⊥
  pub again : HasNothingAgain comparing_twice → ⊥
  pub more : DoesNoMore comparing_once comparing_twice → ⊥
  pub least : IsOptimal comparing_twice comparing_twice → ⊥
