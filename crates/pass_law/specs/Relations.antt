-- What a pass may make of units.
use Rattle.graph_core.specs.Graphs.{UnitForm}
use Rattle.pass_law.specs.Keeps.{Keeps}

-- From which units a pass may lead to which. Each such step keeps what the unit does.
pub record PassRelation : Type 1 where
  pub leads : UnitForm → UnitForm → Type 0
  pub keeps : (u v : UnitForm) → leads u v → Keeps u v

-- A step of a kind that keeps what the unit does.
pub record IsKeptStep (Step : UnitForm → UnitForm → Type 0) (u v : UnitForm) : Type 0 where
  pub step : Step u v
  pub keeps : Keeps u v

-- the steps of a kind that keep what the unit does
abbrev pub kept_steps : (UnitForm → UnitForm → Type 0) → PassRelation
kept_steps Step = record { leads = IsKeptStep Step; keeps = λ u v step. step.keeps }
