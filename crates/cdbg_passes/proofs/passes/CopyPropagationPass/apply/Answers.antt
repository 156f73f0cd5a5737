use Rattle.std.proofs.Common.{sym, subst}
use Rattle.std.specs.Prelude.{IfOk, codes}
use Rattle.debug_records.specs.Change.{pass_name}
use Rattle.debug_records.specs.declared.change.Kind.TheVariants.{Replaced}
use Rattle.pass_law.specs.Changes.{AddsChangesOf}
use Rattle.pass_law.specs.Kept.{EachFunction}
use Rattle.copy_pass_rule.specs.Copying.{IsPropagated}
use Rattle.copy_pass.specs.Reads.{IsReplacedRead}
use Rattle.graph_core.specs.Graphs.{unit_view}
use Rattle.pass_law.specs.Logs.{LogsWell}
use Rattle.pass_law.proofs.Shape.{kept_but_blocks}
use Rattle.cdbg_passes.specs.Steps.{MakesValid, PropagatesCopies}
use Rattle.cdbg_passes.proofs.Made.{made_kept, made_so, made_valid, of_three}
use Rattle.cdbg_passes.proofs.Lawful.{copies_kept, copies_logged}
use Rattle.cdbg_passes.proofs.passes.CopyPropagationPass.apply.Goals as goal

pub returns-clause-kept : goal.returns-clause-kept
returns-clause-kept c = kept_but_blocks (unit_view c.args.unit.now) c.propagate_copies.result c.propagate_copies.ensures.shared c.propagate_copies.ensures.functions

pub returns-clause-step : goal.returns-clause-step
returns-clause-step c = made_kept PropagatesCopies copies_kept (unit_view c.args.unit.now) c.propagate_copies.result c.requires.marked (
    let u = unit_view c.args.unit.now in
    of_three c.propagate_copies.result (λ v. MakesValid u (unit_view v)) (λ v. AddsChangesOf (pass_name (codes "copy")) Replaced IsReplacedRead u (unit_view v)) (λ v. EachFunction IsPropagated u.graphs (unit_view v).graphs) (λ v. PropagatesCopies u (unit_view v))
    (λ v made changes functions. record { made = made; changes = changes; functions = functions }) (made_valid u c.propagate_copies.result c.propagate_copies.ensures.valid c.propagate_copies.ensures.shared) c.propagate_copies.ensures.changes c.propagate_copies.ensures.exact)

pub returns-clause-logs : goal.returns-clause-logs
returns-clause-logs c =
    subst (λ name. IfOk c.propagate_copies.result (λ v. LogsWell name (unit_view c.args.unit.now) (unit_view v))) (sym c.args.self.now.called)
    (made_so PropagatesCopies (LogsWell (pass_name (codes "copy"))) copies_logged (unit_view c.args.unit.now) c.propagate_copies.result (returns-clause-step c))

pub propagate_copies-requires-clause-valid : goal.propagate_copies-requires-clause-valid
propagate_copies-requires-clause-valid c = c.requires.marked.valid
