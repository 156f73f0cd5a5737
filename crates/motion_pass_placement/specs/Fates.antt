-- What is so at the instructions that do computations.
use Rattle.std.specs.Prelude.{◌≡◌, ◌↔◌, ℕ, ◌<◌, true, false, Option, Some, List, length, slice_index_or}
use Rattle.graph_core.specs.Graphs.{Block}
use Rattle.graph_core.specs.Computations.{Computation}
use Rattle.motion_pass_points.specs.Ways.{IsPast, IsUsed}
use Rattle.motion_pass_points.specs.Columns.{number_at}
use Rattle.motion_pass_problems.specs.Inner.{point_at}
use Rattle.motion_pass_placement.specs.declared.fates.Fate.{Fate}

-- of an instruction that is none
abbrev pub no_fate : Fate
no_fate = record { is_late = false; is_used = false }

-- what is so at an instruction
abbrev pub fate_of : List Fate → ℕ → Fate
fate_of fates index = slice_index_or fates index no_fate

-- Where a block does a computation, it is told whether it can be delayed to there.
abbrev pub AreLate : (blocks : List Block) (n : ℕ) (b : Block) (numbers : List (Option ℕ)) (k : ℕ) (e : Computation)
    (fates : List Fate)
    → Type 0
AreLate blocks n b numbers k e fates =
    (index : ℕ) → index < length b.instructions → number_at numbers index ≡ Some k
    → ((fate_of fates index).is_late ≡ false) ↔ IsPast blocks e (point_at n b index)

-- And whether its value is used behind.
abbrev pub AreUsed : (blocks : List Block) (n : ℕ) (b : Block) (numbers : List (Option ℕ)) (k : ℕ) (e : Computation)
    (fates : List Fate)
    → Type 0
AreUsed blocks n b numbers k e fates =
    (index : ℕ) → index < length b.instructions → number_at numbers index ≡ Some k
    → ((fate_of fates index).is_used ≡ true) ↔ IsUsed blocks e (point_at n b index)
