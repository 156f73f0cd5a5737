-- When a change that a pass logged is earned: the units before and after the pass bear it out.
use Rattle.std.specs.Prelude.{◌≡◌, ◌≢◌, ℕ, ◌≤◌, ◌||◌, true, if◌then◌else◌, Option, Some, None, List, [], ◌∷◌, ◌++◌, length, slice_get, ⊤}
use Rattle.debug_records.specs.declared.change.Kind as declared-kind
use Rattle.debug_records.specs.declared.change.Kind.TheVariants.{Removed, Moved, Reused, Replaced, Sunk}
use Rattle.graph_homes.specs.declared.home.Home.{Home}
use Rattle.graph_homes.specs.Reused.{IsReused}
use Rattle.graph_core.specs.Graphs.{Name, NoteValue, Instruction, Note, Move, End, Jump, Return, Block, Graph, Logged, UnitForm}
use Rattle.graph_core.specs.Uses.{target_of, marker_of}
use Rattle.graph_core.specs.Paths.{Passed, History, Among, Way, Path, place_of, writes}
use Rattle.graph_core.specs.WellMarked.{InPlace, IsVariable}
use Rattle.graph_core.specs.Points.{Behind, StandsWith, reads_at, IsUnread, assignments_in}
use Rattle.graph_core.specs.Computations.{Computation, computed_by, operands_of}

-- The assignment of a scalar in a place was removed: the unit before has one there, the unit after none, and behind
-- each note of the scalar there that a path comes to nothing reads the scalar before it is written.
pub record IsRemoved (g h : Graph) (p x : ℕ) : Type 0 where
  pub once : assignments_in g p x ≡ 1
  pub none : assignments_in h p x ≡ 0
  pub unread : (hist : History) (v : NoteValue) (n : ℕ) (rest : List Instruction) (e : End)
      → Path h hist n (Note x v ∷ rest) e → place_of hist ≡ Some p → IsUnread h x n rest e

-- something that was passed did the computation
pub data WasComputed (e : Computation) : History → Type 0 where
  latest : {i : Passed} {h : History} → computed_by i.instruction ≡ Some e → WasComputed e (i ∷ h)
  earlier : {i : Passed} {h : History} → WasComputed e h → WasComputed e (i ∷ h)

-- what comes next writes an operand of the computation without doing it, or leaves the function
abbrev pub StopsIt : Computation → List Instruction → End → Type 0
StopsIt e [] (Return a) = ⊤
StopsIt e [] f = ⊥
StopsIt e (i ∷ rest) f = (computed_by i ≢ Some e) × (y : ℕ) × Among y (operands_of e) × (writes y i ≡ true)

-- The computation is down-safe at a point (Knoop, Rüthing and Steffen 1992): no way from there meets a write of an
-- operand or an end of the function before it does the computation.
abbrev pub IsDownSafe : Graph → Computation → (n : ℕ) → List Instruction → End → Type 0
IsDownSafe g e n rest end =
    (h : History) (m : ℕ) (left : List Instruction) (f : End) → Way g n rest end h m left f → StopsIt e left f
    → WasComputed e h

-- Instructions as a pass leaves them that moves computations: each stays, perhaps with another way to come to what it
-- writes, and what it puts among them writes names that the graph before, with so many names, has not.
pub data Widens (names : ℕ) : (before after : List Instruction) → Type 0 where
  none : Widens names [] []
  stays : {i j : Instruction} {before after : List Instruction} → target_of j ≡ target_of i → marker_of j ≡ marker_of i
      → Widens names before after → Widens names (i ∷ before) (j ∷ after)
  puts : {i : Instruction} {t : ℕ} {before after : List Instruction} → target_of i ≡ Some t → names ≤ t
      → Widens names before after → Widens names before (i ∷ after)

-- A point of the graph behind such a pass lies at a point of the graph before it. In a block that both have it is the
-- one with the same instructions before it and behind it, but for those that were put in. A block of the new graph
-- alone was put on an edge: its points lie where the block begins to which the edge leads.
pub data LiesAt (g h : Graph) : (n : ℕ) (rest : List Instruction) (m : ℕ) (left : List Instruction) (end : End)
    → Type 0 where
  in_block : {n : ℕ} {b c : Block} {before left after rest : List Instruction} → slice_get g.blocks n ≡ Some b
      → slice_get h.blocks n ≡ Some c
      → b.instructions ≡ before ++ left → c.instructions ≡ after ++ rest → Widens g.name_count before after
      → Widens g.name_count left rest → LiesAt g h n rest n left b.end
  on_edge : {n m : ℕ} {b c : Block} {rest : List Instruction} (after : List Instruction) → slice_get g.blocks n ≡ None
      → slice_get h.blocks n ≡ Some c → c.instructions ≡ after ++ rest
      → Widens g.name_count [] c.instructions → c.end ≡ Jump m → slice_get g.blocks m ≡ Some b
      → LiesAt g h n rest m b.instructions b.end

-- The computation was down-safe in the graph before where a point of the graph after lies.
pub record WasDownSafe (g h : Graph) (e : Computation) (n : ℕ) (rest : List Instruction) : Type 0 where
  pub block : ℕ
  pub left : List Instruction
  pub end : End
  pub lies : LiesAt g h n rest block left end
  pub safe : IsDownSafe g e block left end

-- The computation of a scalar's value in a place was moved: what was `x = e` is `x = t`, and each instruction that
-- writes t computes e and stands where e was down-safe in the unit before.
pub record IsMoved (g h : Graph) (p x : ℕ) : Type 0 where
  pub e : Computation
  pub t : ℕ
  pub before : Instruction
  pub stood : InPlace g p before
  pub wrote : target_of before ≡ Some x
  pub computed : computed_by before ≡ Some e
  pub stands : InPlace h p (Move x (Name t))
  pub computes : (i : Instruction) (n : ℕ) (rest : List Instruction) (f : End) → Behind h i n rest f → writes t i ≡ true
      → computed_by i ≡ Some e
  pub safe : (i : Instruction) (n : ℕ) (rest : List Instruction) (f : End) → Behind h i n rest f → writes t i ≡ true
      → WasDownSafe g h e n (i ∷ rest)

-- of what was passed, the last that wrote one of two names
abbrev pub last_write_of : (x y : ℕ) → History → Option Passed
last_write_of x y [] = None
last_write_of x y (i ∷ h) = if writes x i.instruction || writes y i.instruction then Some i else last_write_of x y h

-- The copy of one name to another that stands in a block, with so many instructions behind it, was passed, and neither
-- name was written since.
pub record IsCopiedAt (block left x y : ℕ) (h : History) : Type 0 where
  pub copy : Passed
  pub last : last_write_of x y h ≡ Some copy
  pub in_block : copy.block ≡ block
  pub before : copy.left ≡ left
  pub copies : copy.instruction ≡ Move x (Name y)

-- A read of a scalar in a place was replaced by a read of another one: at one point of both units the same operand was
-- the one and is the other, and one copy reaches it on every path.
pub record IsReplaced (g h : Graph) (p x : ℕ) : Type 0 where
  pub y : ℕ
  pub other : y ≢ x
  pub variable : ℕ
  pub scalar : IsVariable h y variable
  pub n : ℕ
  pub before : List Instruction
  pub after : List Instruction
  pub end : End
  pub later : End
  pub stood : StandsWith g p n before end
  pub stands : StandsWith h p n after later
  pub at_one_point : length before ≡ length after
  pub k : ℕ
  pub was : slice_get (reads_at before end) k ≡ Some x
  pub is : slice_get (reads_at after later) k ≡ Some y
  pub copy_block : ℕ
  pub copy_left : ℕ
  pub reaches : (hist : History) → Path h hist n after later → IsCopiedAt copy_block copy_left x y hist

-- A change is borne out by the graphs of its function before and after its pass, and the homes of the latter; that an
-- assignment sank, by none.
abbrev pub IsBorneOut : declared-kind.Kind → List Logged → (ℕ → Home) → Graph → Graph → (p x variable : ℕ) → Type 0
IsBorneOut Removed log home g h p x variable = IsRemoved g h p x
IsBorneOut Moved log home g h p x variable = IsMoved g h p x
IsBorneOut Replaced log home g h p x variable = IsReplaced g h p x
IsBorneOut Reused log home g h p x variable = IsReused log home h x variable
IsBorneOut Sunk log home g h p x variable = ⊥

-- A change is earned: it is one of the log, and its function's graphs in the units before and after its pass bear it
-- out, with the homes of that function.
pub record IsEarned (change : Logged) (log : List Logged) (homes : (function : ℕ) → ℕ → Home) (u v : UnitForm)
    : Type 0 where
  pub logged : Among change log
  pub function : ℕ
  pub before : Graph
  pub after : Graph
  pub stood : slice_get u.graphs function ≡ Some before
  pub stands : slice_get v.graphs function ≡ Some after
  pub x : ℕ
  pub scalar : IsVariable after x change.variable
  pub borne_out : IsBorneOut change.kind log (homes function) before after change.place x change.variable
