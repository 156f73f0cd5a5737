-- The points inside blocks, and the numbers of what is done there.
use Rattle.std.specs.Prelude.{◌≡◌, ℕ, ◌/◌, ◌==◌, Bool, true, if◌then◌else◌, Option, Some, None, List, drop, slice_get}
use Rattle.graph_core.specs.Graphs.{Block}
use Rattle.graph_core.specs.Computations.{Computation}
use Rattle.motion_pass_points.specs.Ways.{Point, within}
use Rattle.motion_pass_points.specs.declared.columns.Column.{Column}
use Rattle.motion_pass_points.specs.declared.computations.Computations.{Computations}
use Rattle.motion_pass_points.specs.Columns.{AreNumbersAlong, IsColumn}
use Rattle.motion_pass_points.specs.Numbers.{AreNumbers, views_of}
use Rattle.motion_pass_problems.specs.Facts.{AreReached}

-- a number, if it is of a column
abbrev pub in_column : (column : ℕ) → Option ℕ → Option ℕ
in_column column None = None
in_column column (Some k) = if (k / 64) == column then Some k else None

-- the point before an instruction of a block
abbrev pub point_at : (n : ℕ) → Block → (index : ℕ) → Point
point_at n b index = within n (drop index b.instructions) b.end

-- a block of a graph that paths reach
pub record IsBlock (blocks : List Block) (reached : ℕ → Bool) (n : ℕ) (b : Block) : Type 0 where
  pub whole : AreReached blocks reached
  pub is : slice_get blocks n ≡ Some b
  pub comes : reached n ≡ true

-- a computation of a column has this number, and these are the numbers of what a block computes
pub record IsTreated (column : Column) (b : Block) (numbers : List (Option ℕ)) (k : ℕ) (e : Computation) : Type 0 where
  pub all : Computations
  pub marked : IsColumn (views_of all) column.index column.spoiled.items
  pub known : AreNumbers all
  pub along : AreNumbersAlong (views_of all) b.instructions numbers
  pub of : k / 64 ≡ column.index
  pub at : slice_get (views_of all) k ≡ Some e
