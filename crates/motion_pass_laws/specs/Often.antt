-- HOW OFTEN COMPUTATIONS ARE DONE on the paths of a graph, and of the graph from which it was made by lazy code motion
-- (Knoop, Rüthing and Steffen 1992).
use Rattle.std.specs.Prelude.{◌≡◌, ℕ, ◌+◌, ◌≤◌, ◌&&◌, ◌||◌, not, Bool, true, false, if◌then◌else◌, Option, Some, List, [], ◌∷◌}
use Rattle.graph_core.specs.Graphs.{Operand, Instruction, End, Return, Graph}
use Rattle.graph_core.specs.Paths.{Passed, History, Path}
use Rattle.graph_core.specs.Computations.{Computation, computed_by}
use Rattle.motion_pass_points.specs.Computing.{does, spoils}
use Rattle.motion_pass_laws.specs.Made.{StaysOrReads, IsDoing}

-- along this path the computation was done, and no operand was written since
abbrev pub is_had : Computation → History → Bool
is_had e [] = false
is_had e (i ∷ h) = not (spoils e i.instruction) && (does e i.instruction || is_had e h)

-- A COMPUTATION IS HAD at a point of a graph: on each path to it the computation was done, and no operand was written
-- since.
abbrev pub IsHad : Graph → Computation → (block : ℕ) → (rest : List Instruction) → End → Type 0
IsHad h e n rest f = (history : History) → Path h history n rest f → is_had e history ≡ true

-- NOTHING IS COMPUTED AGAIN: no instruction that a path comes to does a computation that is had there.
abbrev pub HasNothingAgain : Graph → Type 0
HasNothingAgain h =
    (history : History) (n : ℕ) (i : Instruction) (rest : List Instruction) (f : End) (e : Computation)
    → Path h history n (i ∷ rest) f → computed_by i ≡ Some e → IsHad h e n (i ∷ rest) f → ⊥

-- how often the computation was done along this path
abbrev pub times : Computation → History → ℕ
times e [] = 0
times e (i ∷ h) = (if does e i.instruction then 1 else 0) + times e h

-- PATHS OF TWO GRAPHS ARE ONE: in the same blocks the same was passed, and the same values were written, but for
-- instructions that read a temporary in place of their computation after, and for new ones, which do computations into
-- temporaries.
pub data AreOnePath (g : Graph) : (before after : History) → Type 0 where
  nothing_passed : AreOnePath g [] []
  both_passed : {p q : Passed} {before after : History} → q.block ≡ p.block → q.wrote ≡ p.wrote
      → StaysOrReads g p.instruction q.instruction → AreOnePath g before after → AreOnePath g (p ∷ before) (q ∷ after)
  new_passed : {q : Passed} {before after : History} (e : Computation) → IsDoing g e q.instruction
      → AreOnePath g before after → AreOnePath g before (q ∷ after)

-- A path to an end of the function before is one with a path after, and does no computation less often.
pub record DoesAsOften (g : Graph) (after : History) (n : ℕ) (a : Option Operand) : Type 0 where
  pub before : History
  pub way : Path g before n [] (Return a)
  pub one : AreOnePath g before after
  pub often : (e : Computation) → times e after ≤ times e before

-- NOTHING IS COMPUTED MORE OFTEN: to each path of the graph after, from the entry to an end of the function, there is
-- the same path of the graph before, and on it no computation is done less often.
abbrev pub DoesNoMore : (g h : Graph) → Type 0
DoesNoMore g h = (after : History) (n : ℕ) (a : Option Operand) → Path h after n [] (Return a) → DoesAsOften g after n a

-- A path before is one with a path after, on which each computation was done at most once more.
pub record DoesOnceMore (g : Graph) (after : History) : Type 0 where
  pub before : History
  pub number : ℕ
  pub rest : List Instruction
  pub end : End
  pub way : Path g before number rest end
  pub one : AreOnePath g before after
  pub often : (e : Computation) → times e after ≤ times e before + 1

-- NOTHING IS COMPUTED FURTHER AHEAD THAN ONCE: to each path of the graph after from the entry, to whatever point, there
-- is the same path of the graph before, and on it each computation was done at most once less often.
abbrev pub IsOnceAhead : (g h : Graph) → Type 0
IsOnceAhead g h =
    (after : History) (n : ℕ) (rest : List Instruction) (f : End) → Path h after n rest f → DoesOnceMore g after
