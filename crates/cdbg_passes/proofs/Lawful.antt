-- Each pass of the program keeps what a unit does, and logs what it may.
use Rattle.std.proofs.Common.{map}
use Rattle.std.specs.Prelude.{codes}
use Rattle.debug_records.specs.Change.{pass_name}
use Rattle.debug_records.specs.declared.change.Kind.TheVariants.{Replaced}
use Rattle.graph_core.specs.Graphs.{UnitForm}
use Rattle.graph_core.specs.WellMarked.{AreWellMarked}
use Rattle.pass_law.specs.Changes.{logged_as}
use Rattle.pass_law.specs.Keeps.{Keeps}
use Rattle.pass_law.specs.Logs.{LogsWell}
use Rattle.cdbg_passes.specs.Steps.{MovesCode, PropagatesCopies, RemovesDead}
use Rattle.copy_pass_laws.proofs.Keeping.{copies_keep}
use Rattle.copy_pass.proofs.LogsWell.{copy_logs_well}
use Rattle.motion_pass_laws.proofs.LogsWell.{motion_logs_well}
use Rattle.motion_pass_laws.proofs.Moved.{moved_keeps}
use Rattle.dead_pass_laws.proofs.DeadMarksWhole.{removed_keeps}
use Rattle.dead_pass_laws.proofs.LogsWell.{dead_logs_well}

pub copies_kept : (u v : UnitForm) → AreWellMarked u → PropagatesCopies u v → Keeps u v
copies_kept u v marked step = copies_keep u v (map (logged_as (pass_name (codes "copy")) Replaced) step.changes.cases) step.made.shared step.changes.log step.functions marked

pub motion_kept : (u v : UnitForm) → AreWellMarked u → MovesCode u v → Keeps u v
motion_kept u v marked step = moved_keeps u v (pass_name (codes "motion")) step.made.shared step.changes step.functions marked step.made.valid

pub dead_kept : (u v : UnitForm) → AreWellMarked u → RemovesDead u v → Keeps u v
dead_kept u v marked step = removed_keeps u v marked step.made.valid step.made.shared (pass_name (codes "dead")) step.changes step.functions step.notes

pub copies_logged : (u v : UnitForm) → AreWellMarked u → PropagatesCopies u v → LogsWell (pass_name (codes "copy")) u v
copies_logged u v marked step = copy_logs_well u v (pass_name (codes "copy")) marked step.changes

pub motion_logged : (u v : UnitForm) → AreWellMarked u → MovesCode u v → LogsWell (pass_name (codes "motion")) u v
motion_logged u v marked step = motion_logs_well u v (pass_name (codes "motion")) marked step.changes

pub dead_logged : (u v : UnitForm) → AreWellMarked u → RemovesDead u v → LogsWell (pass_name (codes "dead")) u v
dead_logged u v marked step = dead_logs_well u v (pass_name (codes "dead")) marked step.changes
