-- What is passed in graphs that are alike but for what they read, and units whose functions are alike so.
use Rattle.std.specs.Prelude.{◌≡◌, ℕ, List, ◌++◌}
use Rattle.event_runs.specs.Agreement.{Pairs}
use Rattle.graph_core.specs.Graphs.{Logged, UnitForm}
use Rattle.graph_core.specs.Paths.{Passed}
use Rattle.pass_law.specs.Kept.{ShareTheSame}
use Rattle.copy_pass_rule.specs.Alike.{AreAlikeInstructions, AreAlike}

-- Two that were passed stand at one point, are alike, and wrote the same.
pub record WerePassedAlike (Reads : (x read : ℕ) → Type 0) (p q : Passed) : Type 0 where
  pub block : q.block ≡ p.block
  pub left : q.left ≡ p.left
  pub instruction : AreAlikeInstructions Reads p.instruction q.instruction
  pub wrote : q.wrote ≡ p.wrote

-- Two units share the same, the log of the second is that of the first with perhaps more behind it, and their functions
-- are alike one by one.
pub record AreAlikeUnits (u v : UnitForm) : Type 0 where
  pub shared : ShareTheSame u v
  pub added : List Logged
  pub log : v.log ≡ u.log ++ added
  pub functions : Pairs AreAlike u.graphs v.graphs
