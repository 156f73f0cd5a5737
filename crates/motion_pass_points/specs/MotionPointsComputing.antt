-- What instructions do to computations.
use Rattle.std.specs.Prelude.{◌≡◌, ℕ, ◌||◌, not, Bool, true, false, Option, Some, None, List, [], ◌∷◌}
use Rattle.graph_core.specs.Graphs.{Instruction, Operate, Truncate, Same, operand_view}
use Rattle.graph_core.specs.Computations.{Computation, Operating, Truncating, Comparing, computed_by}
use Rattle.motion_pass_points.specs.Computing.{does, spoils}
use Rattle.motion_pass_points.specs.declared.computation.Computation as declared-computation
use Rattle.motion_pass_points.specs.declared.computation.Computation.TheVariants as computation

-- the computation that the code has
abbrev pub computation_view : declared-computation.Computation → Computation
computation_view (computation.Operated o left right) = Operating o (operand_view left) (operand_view right)
computation_view (computation.Truncated t from) = Truncating t (operand_view from)
computation_view (computation.Compared left right) = Comparing (operand_view left) (operand_view right)

-- the instruction that does a computation into a name
abbrev pub doing : ℕ → Computation → Instruction
doing x (Operating o a b) = Operate x o a b
doing x (Truncating t a) = Truncate x t a
doing x (Comparing a b) = Same x a b

-- a list with one more before it, if there is one
abbrev pub with_some : {A : Type 0} → Option A → List A → List A
with_some None all = all
with_some (Some a) all = a ∷ all

-- what instructions compute, in order
abbrev pub computed_along : List Instruction → List Computation
computed_along [] = []
computed_along (i ∷ rest) = with_some (computed_by i) (computed_along rest)

-- What a block does to a computation, as far as it was gone through: it is done with no operand written before; it is
-- done with no operand written behind; it is done; an operand is written.
pub record Told : Type 0 where
  pub first : Bool
  pub last : Bool
  pub done : Bool
  pub written : Bool

abbrev pub nothing : Told
nothing = record { first = false; last = false; done = false; written = false }

abbrev pub told_done : Bool → Told → Told
told_done false t = t
told_done true t = record { first = t.first || not t.written; last = true; done = true; written = t.written }

abbrev pub told_written : Bool → Told → Told
told_written false t = t
told_written true t = record { first = t.first; last = false; done = t.done; written = true }

-- behind an instruction: it computes, and then it writes
abbrev pub told_behind : Computation → Instruction → Told → Told
told_behind e i t = told_written (spoils e i) (told_done (does e i) t)

-- behind several
abbrev pub told_along : Computation → List Instruction → Told → Told
told_along e [] t = t
told_along e (i ∷ rest) t = told_along e rest (told_behind e i t)
