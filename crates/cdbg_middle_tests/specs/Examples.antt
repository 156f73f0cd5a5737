-- Two kinds of steps: one changes nothing, and one logs changes.
use Rattle.std.specs.Prelude.{◌≡◌, List, ◌++◌}
use Rattle.std.proofs.Common.{sym, subst}
use Rattle.graph_core.specs.Graphs.{Logged, UnitForm}
use Rattle.graph_core.specs.WellMarked.{AreWellMarked}
use Rattle.pass_law.specs.Keeps.{Keeps}
use Rattle.pass_law.proofs.Keeping.{keeps_itself}
use Rattle.pass_law.specs.Relations.{PassRelation}
use Rattle.pass_law.proofs.LogLonger.{keeps_with_changes}

-- a well marked unit stays what it is
pub record StaysSame (u v : UnitForm) : Type 0 where
  pub marked : AreWellMarked u
  pub same : v ≡ u

pub stays_kept : (u v : UnitForm) → StaysSame u v → Keeps u v
stays_kept u v s = subst (Keeps u) (sym s.same) (keeps_itself u s.marked)

-- these steps
abbrev pub same_steps : PassRelation
same_steps = record { leads = StaysSame; keeps = stays_kept }

-- the log of a well marked unit grows
pub record LogGrows (u v : UnitForm) : Type 0 where
  pub marked : AreWellMarked u
  pub added : List Logged
  pub logs : v ≡ record u { log = u.log ++ added }

pub logs_kept : (u v : UnitForm) → LogGrows u v → Keeps u v
logs_kept u v s = subst (Keeps u) (sym s.logs) (keeps_with_changes u s.added s.marked)

-- these steps
abbrev pub logging_steps : PassRelation
logging_steps = record { leads = LogGrows; keeps = logs_kept }
