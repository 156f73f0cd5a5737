-- That what a pass logs is earned.
use Rattle.std.specs.Prelude.{◌≡◌, ℕ, ◌≤◌, Some, length, slice_get}
use Rattle.graph_homes.specs.declared.home.Home.{Home}
use Rattle.graph_core.specs.Graphs.{Logged, UnitForm}
use Rattle.pass_law.specs.Earned.{IsEarned}

-- EACH CHANGE BEHIND THE OLD ONES IS EARNED: the graphs of its function in the units before and after the pass bear it
-- out, whatever the homes.
abbrev pub AreEarned : (u v : UnitForm) → Type 0
AreEarned u v =
    (k : ℕ) (c : Logged) → length u.log ≤ k → slice_get v.log k ≡ Some c → (homes : (function : ℕ) → ℕ → Home)
    → IsEarned c v.log homes u v
