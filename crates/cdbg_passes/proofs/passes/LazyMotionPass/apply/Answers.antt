use Rattle.std.proofs.Common.{sym, subst}
use Rattle.std.specs.Prelude.{IfOk, codes}
use Rattle.debug_records.specs.Change.{pass_name}
use Rattle.debug_records.specs.declared.change.Kind.TheVariants.{Moved}
use Rattle.pass_law.specs.Changes.{AddsChangesOf}
use Rattle.motion_pass_placement.specs.Moves.{AreAllMoved, IsMovedAssignment}
use Rattle.graph_core.specs.Graphs.{unit_view}
use Rattle.pass_law.specs.Logs.{LogsWell}
use Rattle.pass_law.proofs.Shape.{kept_by}
use Rattle.cdbg_passes.specs.Steps.{MakesValid, MovesCode}
use Rattle.cdbg_passes.proofs.Made.{made_kept, made_so, made_valid, of_three}
use Rattle.cdbg_passes.proofs.Lawful.{motion_kept, motion_logged}
use Rattle.cdbg_passes.proofs.passes.LazyMotionPass.apply.Goals as goal

pub returns-clause-kept : goal.returns-clause-kept
returns-clause-kept c = kept_by (unit_view c.args.unit.now) c.move_code.result c.move_code.ensures.shared c.move_code.ensures.functions

pub returns-clause-step : goal.returns-clause-step
returns-clause-step c = made_kept MovesCode motion_kept (unit_view c.args.unit.now) c.move_code.result c.requires.marked (
    let u = unit_view c.args.unit.now in
    of_three c.move_code.result (λ v. MakesValid u (unit_view v)) (λ v. AddsChangesOf (pass_name (codes "motion")) Moved IsMovedAssignment u (unit_view v)) (λ v. AreAllMoved u.room u.graphs (unit_view v).graphs) (λ v. MovesCode u (unit_view v))
    (λ v made changes functions. record { made = made; changes = changes; functions = functions }) (made_valid u c.move_code.result c.move_code.ensures.valid c.move_code.ensures.shared) c.move_code.ensures.changes c.move_code.ensures.moved)

pub returns-clause-logs : goal.returns-clause-logs
returns-clause-logs c =
    subst (λ name. IfOk c.move_code.result (λ v. LogsWell name (unit_view c.args.unit.now) (unit_view v))) (sym c.args.self.now.called)
    (made_so MovesCode (LogsWell (pass_name (codes "motion"))) motion_logged (unit_view c.args.unit.now) c.move_code.result (returns-clause-step c))

pub move_code-requires-clause-valid : goal.move_code-requires-clause-valid
move_code-requires-clause-valid c = c.requires.marked.valid
