-- Where computations are done, and where their values are read instead: by the rule of lazy code motion.
use Rattle.std.specs.Prelude.{◌≡◌, ◌↔◌, ℕ, suc, ◌<◌, ◌/◌, ◌&&◌, ◌||◌, not, Bool, true, false, Option, Some, None, List, [], ◌∷◌, ◌++◌, length, slice_get, slice_index_or}
use Rattle.std.specs.Global.{Vec}
use Rattle.graph_core.specs.declared.name.Name as declared-name
use Rattle.graph_core.specs.Graphs.{Block, Graph, Instruction}
use Rattle.graph_core.specs.Computations.{Computation}
use Rattle.motion_pass_points.specs.Ways.{Point, along, IsCome, IsInserted, IsRead}
use Rattle.motion_pass_points.specs.declared.computation.Computation as declared-computation
use Rattle.motion_pass_points.specs.Columns.{number_at}
use Rattle.motion_pass_points.specs.MotionPointsComputing.{computation_view, doing}
use Rattle.motion_pass_points.specs.Numbers.{AreNumbers, AreOnce, computed_in, views_of}
use Rattle.motion_pass_problems.specs.Flowing.{is_at}
use Rattle.motion_pass_problems.specs.Facts.{AreReached}
use Rattle.motion_pass_placement.specs.declared.columns.Solved.{Solved}
use Rattle.motion_pass_problems.specs.declared.problems.Facts.{Facts}
use Rattle.motion_pass_placement.specs.declared.fates.Fate.{Fate}
use Rattle.motion_pass_placement.specs.declared.placement.Action.{Action}
use Rattle.motion_pass_placement.specs.declared.placement.Action.TheVariants.{Keep, Read, Compute}
use Rattle.motion_pass_placement.specs.declared.placement.Motion.{Motion}
use Rattle.motion_pass_placement.specs.declared.placement.Motion.TheVariants.{EnteredAgain, Placed}
use Rattle.motion_pass_placement.specs.declared.placement.Placement.{Placement}
use Rattle.motion_pass_placement.specs.Fates.{fate_of}
use Rattle.motion_pass_placement.specs.Columns.{AreFated, AreRows, HasFacts, fates_of, row_of}

-- an instruction that does a computation stays: it is the latest point, and its value would not be used again
abbrev pub stays_by : Fate → Bool
stays_by f = f.is_late && not f.is_used

-- A computation is done on an edge: it can be delayed to it and not to the block to which it leads, and is used there.
abbrev pub is_on_edge : Facts → (from to k : ℕ) → Bool
is_on_edge f m n k =
    (is_at f.past_starts.items k n && is_at f.used_starts.items k n)
    && not (is_at f.past_ends.items k m || is_at f.unsafe_starts.items k n)

-- one that does not stay does its computation into its temporary, if this can be delayed to it, and reads that
abbrev pub moved_by : Option declared-computation.Computation → Option declared-name.Name → (is_late : Bool) → Action
moved_by (Some c) (Some t) true = Compute c t
moved_by (Some c) (Some t) false = Read t
moved_by (Some c) None late = Keep
moved_by None t late = Keep

-- among the first instructions of a block one that does the computation of a number does not stay
pub record IsMovedBefore (count : ℕ) (numbers : List (Option ℕ)) (fates : List Fate) (k : ℕ) : Type 0 where
  pub index : ℕ
  pub inside : index < count
  pub is : number_at numbers index ≡ Some k
  pub moves : stays_by (fate_of fates index) ≡ false

-- and one does so in the first blocks
pub record IsMovedAnywhere (count : ℕ) (rows : List (Vec (Option ℕ))) (fates : List (Vec Fate)) (k : ℕ) : Type 0 where
  pub block : ℕ
  pub within : block < count
  pub moves : IsMovedBefore (length (fates_of fates block)) (row_of rows block) (fates_of fates block) k

-- the temporary of a number, if it has one
abbrev pub temporary_of : List (Option declared-name.Name) → ℕ → Option declared-name.Name
temporary_of temporaries k = slice_index_or temporaries k None

-- Temporaries are numbered from a name on, in the order of those that have one; the other name comes behind them.
pub data AreNumbered (first : ℕ) : List (Option declared-name.Name) → (end : ℕ) → Type 0 where
  nothing_yet : AreNumbered first [] first
  and_none : {names : List (Option declared-name.Name)} {end : ℕ} → AreNumbered first names end
      → AreNumbered first (names ++ None ∷ []) end
  and_one : {names : List (Option declared-name.Name)} {end : ℕ} {x : declared-name.Name} → AreNumbered first names end
      → x.0 ≡ end → AreNumbered first (names ++ Some x ∷ []) (suc end)

-- which blocks are told as reached
abbrev pub reached_by : Placement → ℕ → Bool
reached_by p n = slice_index_or p.reached.items n false

abbrev pub all_of : Placement → List Computation
all_of p = views_of p.computations

-- some instruction to which a path comes reads the temporary of a computation
abbrev pub IsReadSomewhere : List Block → Computation → Type 0
IsReadSomewhere blocks e = (p : Point) × (IsCome blocks p × IsRead blocks e p)

-- What is so of the computation of a number at the blocks is told in its column.
pub record IsInColumn (g : Graph) (p : Placement) (k : ℕ) (e : Computation) : Type 0 where
  pub solved : Solved
  pub is : slice_get p.columns.items (k / 64) ≡ Some solved
  pub facts : HasFacts g.blocks (reached_by p) e k solved.facts

-- WHAT IS PLACED, by the rule: each computation of reached code once, in the order in which they come first; what is so
-- of them at blocks and instructions; and a temporary for just those that some instruction reads, numbered on from the
-- names of the graph.
pub record IsPlaced (g : Graph) (p : Placement) : Type 0 where
  pub reached : AreReached g.blocks (reached_by p)
  pub known : AreNumbers p.computations
  pub once : AreOnce (computed_in (reached_by p) 0 g.blocks) (all_of p)
  pub rows : AreRows g.blocks (reached_by p) (all_of p) p.numbers.items
  pub fates : (n : ℕ) (b : Block) → slice_get g.blocks n ≡ Some b → reached_by p n ≡ true → (k : ℕ) (e : Computation)
      → slice_get (all_of p) k ≡ Some e
      → AreFated g.blocks n b (row_of p.numbers.items n) k e (fates_of p.fates.items n)
  pub columns : (k : ℕ) (e : Computation) → slice_get (all_of p) k ≡ Some e → IsInColumn g p k e
  pub few : length p.columns.items < 4294967296
  pub as_many : length p.temporaries.items ≡ length (all_of p)
  pub named : (k : ℕ) (e : Computation) → slice_get (all_of p) k ≡ Some e
      → ((t : declared-name.Name) × (temporary_of p.temporaries.items k ≡ Some t)) ↔ IsReadSomewhere g.blocks e
  pub numbered : AreNumbered g.name_count p.temporaries.items p.end_name

-- some path comes to an edge into the first block
abbrev pub IsEnteredAgain : List Block → Type 0
IsEnteredAgain blocks = (m : ℕ) × IsCome blocks (along m 0)

-- WHAT IS ANSWERED: a graph whose first block is entered again is left; else what is placed is that by the rule.
abbrev pub IsAnswered : Graph → Motion → Type 0
IsAnswered g EnteredAgain = IsEnteredAgain g.blocks
IsAnswered g (Placed p) = IsPlaced g p × (IsEnteredAgain g.blocks → ⊥)

-- a computation has this temporary
pub record HasTemporary (p : Placement) (e : Computation) (t : declared-name.Name) : Type 0 where
  pub number : ℕ
  pub is : slice_get (all_of p) number ≡ Some e
  pub named : temporary_of p.temporaries.items number ≡ Some t

-- WHAT BECOMES OF AN INSTRUCTION, by the rule: it stays where it reads no temporary; it reads that of its computation;
-- and the computation is done before it where it is inserted there.
abbrev pub IsActed : List Block → Placement → Point → Action → Type 0
IsActed blocks p at Keep = (e : Computation) → IsRead blocks e at → ⊥
IsActed blocks p at (Read t) =
    (e : Computation) × (HasTemporary p e t × (IsRead blocks e at × (IsInserted blocks e at → ⊥)))
IsActed blocks p at (Compute c t) =
    HasTemporary p (computation_view c) t
    × (IsRead blocks (computation_view c) at × IsInserted blocks (computation_view c) at)

-- WHAT IS DONE AT A POINT: of the first computations, in order, just those that the rule inserts there, each into its
-- temporary.
pub data AreDone (blocks : List Block) (p : Placement) (at : Point) : (count : ℕ) → List Instruction → Type 0 where
  none_done : AreDone blocks p at 0 []
  one_done : {k : ℕ} {done : List Instruction} {e : Computation} {t : declared-name.Name} → AreDone blocks p at k done
      → slice_get (all_of p) k ≡ Some e → temporary_of p.temporaries.items k ≡ Some t → IsInserted blocks e at
      → AreDone blocks p at (suc k) (done ++ doing t.0 e ∷ [])
  one_passed : {k : ℕ} {done : List Instruction} → AreDone blocks p at k done
      → ((e : Computation) → slice_get (all_of p) k ≡ Some e → IsInserted blocks e at → ⊥)
      → AreDone blocks p at (suc k) done
