use Rattle.std.proofs.Common.{◌≡◌, ap, subst, sym}
use Rattle.std.proofs.lemmas.Result.{IfOk-weaker}
use Rattle.graph_core.specs.declared.unit.Unit as declared-unit
use Rattle.graph_core.specs.Graphs.{UnitForm, unit_view}
use Rattle.pass_law.specs.Keeps.{Keeps}
use Rattle.pass_law.specs.Kept.{KeepsShape}
use Rattle.pass_law.specs.Logs.{LogsWell}
use Rattle.pass_law.specs.Relations.{IsKeptStep}
use Rattle.pass_law.proofs.Keeping.{keeps_itself}
use Rattle.pass_law.proofs.LogsLittle.{logs_nothing}
use Rattle.pass_law.proofs.Shape.{shape_itself}
use Rattle.cdbg.proofs.tests.handed_in.SamePass.apply.Goals as goal

pub returns-clause-kept : goal.returns-clause-kept
returns-clause-kept c =
    let u = unit_view c.args.unit.now in
    IfOk-weaker c.duplicate.result _ (λ (v : declared-unit.Unit). KeepsShape u (unit_view v)) (λ v same. subst (KeepsShape u) (sym same) (shape_itself u)) c.duplicate.ensures

pub returns-clause-step : goal.returns-clause-step
returns-clause-step c =
    let u = unit_view c.args.unit.now in
    IfOk-weaker c.duplicate.result _ (λ (v : declared-unit.Unit). IsKeptStep (λ u v. v ≡ u) u (unit_view v)) (λ v same. record { step = same; keeps = subst (Keeps u) (sym same) (keeps_itself u c.requires.marked) }) c.duplicate.ensures

pub returns-clause-logs : goal.returns-clause-logs
returns-clause-logs c =
    IfOk-weaker c.duplicate.result _ (λ (v : declared-unit.Unit). LogsWell c.args.self.now.name (unit_view c.args.unit.now) (unit_view v)) (λ v same. logs_nothing c.args.self.now.name _ _ (ap (λ (u : UnitForm). u.log) same)) c.duplicate.ensures
