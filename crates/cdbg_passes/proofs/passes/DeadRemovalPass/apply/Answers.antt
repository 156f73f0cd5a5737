use Rattle.std.proofs.Common.{sym, subst}
use Rattle.std.specs.Prelude.{IfOk, codes}
use Rattle.debug_records.specs.Change.{pass_name}
use Rattle.debug_records.specs.declared.change.Kind.TheVariants.{Removed}
use Rattle.pass_law.specs.Changes.{AddsChangesOf}
use Rattle.pass_law.specs.Kept.{EachFunction}
use Rattle.dead_pass_rule.specs.Removing.{IsReduced}
use Rattle.dead_pass_notes.specs.Writes.{IsRemovedWrite}
use Rattle.dead_pass.specs.Notes.{SayWhatTheyShall}
use Rattle.graph_core.specs.Graphs.{unit_view}
use Rattle.pass_law.specs.Logs.{LogsWell}
use Rattle.pass_law.proofs.Shape.{kept_but_blocks}
use Rattle.cdbg_passes.specs.Steps.{MakesValid, RemovesDead}
use Rattle.cdbg_passes.proofs.Made.{made_kept, made_so, made_valid, of_four}
use Rattle.cdbg_passes.proofs.Lawful.{dead_kept, dead_logged}
use Rattle.cdbg_passes.proofs.passes.DeadRemovalPass.apply.Goals as goal

pub returns-clause-kept : goal.returns-clause-kept
returns-clause-kept c = kept_but_blocks (unit_view c.args.unit.now) c.remove_dead.result c.remove_dead.ensures.shared c.remove_dead.ensures.functions

pub returns-clause-step : goal.returns-clause-step
returns-clause-step c = made_kept RemovesDead dead_kept (unit_view c.args.unit.now) c.remove_dead.result c.requires.marked (
    let u = unit_view c.args.unit.now in
    of_four c.remove_dead.result (λ v. MakesValid u (unit_view v)) (λ v. AddsChangesOf (pass_name (codes "dead")) Removed (λ before after. IsRemovedWrite u.assignments before) u (unit_view v)) (λ v. EachFunction (IsReduced u.assignments) u.graphs (unit_view v).graphs) (λ v. SayWhatTheyShall u (unit_view v))
    (λ v. RemovesDead u (unit_view v)) (λ v made changes functions notes. record { made = made; changes = changes; functions = functions; notes = notes }) (made_valid u c.remove_dead.result c.remove_dead.ensures.valid c.remove_dead.ensures.shared) c.remove_dead.ensures.changes c.remove_dead.ensures.exact c.remove_dead.ensures.notes)

pub returns-clause-logs : goal.returns-clause-logs
returns-clause-logs c =
    subst (λ name. IfOk c.remove_dead.result (λ v. LogsWell name (unit_view c.args.unit.now) (unit_view v))) (sym c.args.self.now.called)
    (made_so RemovesDead (LogsWell (pass_name (codes "dead"))) dead_logged (unit_view c.args.unit.now) c.remove_dead.result (returns-clause-step c))

pub remove_dead-requires-clause-valid : goal.remove_dead-requires-clause-valid
remove_dead-requires-clause-valid c = c.requires.marked.valid
