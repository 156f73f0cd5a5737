-- LAZY CODE MOTION (Knoop, Rüthing and Steffen 1992): how early and how late a computation can be done, and where its
-- value is used. All is said of ways through a graph.
use Rattle.std.specs.Prelude.{◌≡◌, ◌⊎◌, ℕ, Bool, true, false, Option, Some, List, [], ◌∷◌, slice_get}
use Rattle.graph_core.specs.Graphs.{Operand, Instruction, End, Return, Block}
use Rattle.graph_core.specs.Uses.{targets_of}
use Rattle.graph_core.specs.Paths.{Among}
use Rattle.graph_core.specs.Computations.{Computation}
use Rattle.motion_pass_points.specs.Computing.{does, spoils}

-- A point of a graph: before what is left of a block, with its end; or on an edge from one block to another.
pub data Point : Type 0 where
  within : (block : ℕ) → (left : List Instruction) → (end : End) → Point
  along : (from to : ℕ) → Point

-- whether a computation is done at a point
abbrev pub does_at : Computation → Point → Bool
does_at e (within n [] f) = false
does_at e (within n (i ∷ rest) f) = does e i
does_at e (along n l) = false

-- whether an operand of it is written there
abbrev pub spoils_at : Computation → Point → Bool
spoils_at e (within n [] f) = false
spoils_at e (within n (i ∷ rest) f) = spoils e i
spoils_at e (along n l) = false

module _ (blocks : List Block) where
  -- One point comes directly before another: an instruction is passed, a block is left along an edge, or one is
  -- entered.
  pub data Leads : Point → Point → Type 0 where
    passes : {n : ℕ} {i : Instruction} {rest : List Instruction} {f : End}
        → Leads (within n (i ∷ rest) f) (within n rest f)
    leaves : {n l : ℕ} {f : End} → Among l (targets_of f) → Leads (within n [] f) (along n l)
    enters : {n l : ℕ} (b : Block) → slice_get blocks l ≡ Some b → Leads (along n l) (within l b.instructions b.end)

  -- a path from the function's entry comes to a point
  pub data IsCome : Point → Type 0 where
    begins : (b : Block) → slice_get blocks 0 ≡ Some b → IsCome (within 0 b.instructions b.end)
    goes : {p q : Point} → IsCome p → Leads p q → IsCome q

  module _ (e : Computation) where
    -- Some way on from a point comes to a write of an operand, or to an end of the function, before it does the
    -- computation. Where there is none the computation is DOWN-SAFE.
    pub data IsUnsafe : Point → Type 0 where
      ends : {n : ℕ} {a : Option Operand} → IsUnsafe (within n [] (Return a))
      spoiled : {p : Point} → does_at e p ≡ false → spoils_at e p ≡ true → IsUnsafe p
      ahead : {p q : Point} → does_at e p ≡ false → Leads p q → IsUnsafe q → IsUnsafe p

    -- Some path to a point met no point at which the computation is down-safe, since an operand was last written. Where
    -- there is none it is UP-SAFE.
    pub data IsUnhad : Point → Type 0 where
      unhad_at_entry : (b : Block) → slice_get blocks 0 ≡ Some b → IsUnhad (within 0 b.instructions b.end)
      unhad_behind : {p q : Point} → IsCome p → spoils_at e p ≡ true → Leads p q → IsUnhad q
      unhad_still : {p q : Point} → IsUnhad p → IsUnsafe p → Leads p q → IsUnhad q

    -- A point is EARLIEST where the computation is down-safe and not up-safe. This one is not.
    abbrev pub IsNotEarliest : Point → Type 0
    IsNotEarliest p = IsUnsafe p ⊎ (IsUnhad p → ⊥)

    -- Some path to a point, with the point itself, met no earliest point since the computation was last done. Where
    -- there is none the computation can be DELAYED to the point.
    pub data IsPast : Point → Type 0 where
      past_at_entry : (b : Block) → slice_get blocks 0 ≡ Some b → IsNotEarliest (within 0 b.instructions b.end)
          → IsPast (within 0 b.instructions b.end)
      past_done : {p q : Point} → IsCome p → does_at e p ≡ true → Leads p q → IsNotEarliest q → IsPast q
      past_still : {p q : Point} → IsPast p → Leads p q → IsNotEarliest q → IsPast q

    -- The LATEST points: the computation can be delayed to it, and is done there, or can't be delayed to a point that
    -- comes next.
    pub record IsLatest (p : Point) : Type 0 where
      pub delayed : IsPast p → ⊥
      pub last : (does_at e p ≡ true) ⊎ ((q : Point) × Leads p q × IsPast q)

    -- From a point on, with itself, some way does the computation at a point to which it can't be delayed, before it
    -- comes to a latest point.
    pub data IsWanted : Point → Type 0 where
      wanted_here : {p : Point} → does_at e p ≡ true → IsPast p → IsWanted p
      wanted_later : {p q : Point} → (IsLatest p → ⊥) → Leads p q → IsWanted q → IsWanted p

    -- Its value is USED behind a point.
    abbrev pub IsUsed : Point → Type 0
    IsUsed p = (q : Point) × Leads p q × IsWanted q

    -- THE RULE: the computation is INSERTED at a point, to be done into its temporary: as late as can be, and only
    -- where its value is used.
    abbrev pub IsInserted : Point → Type 0
    IsInserted p = IsLatest p × IsUsed p

    -- An instruction that does the computation READS the temporary instead, where it is not the latest point itself, or
    -- its value is used.
    abbrev pub IsRead : Point → Type 0
    IsRead p = (does_at e p ≡ true) × (IsPast p ⊎ IsUsed p)
