use Rattle.std.proofs.Common.{◌≡◌, ◌+◌, ◌∙◌, length, ap, sym, subst, arith}
use Rattle.image_form.specs.Form.{Form}
use Rattle.image_form.specs.Views.{viewed}
use Rattle.stop_engine.specs.EngineState.{RunState}
use Rattle.stop_engine.specs.FunctionNames.{AreFunctionNamesOf}
use Rattle.stop_engine.specs.MarkTable.{MarkTable}
use Rattle.stop_engine_tables.specs.Tables.{AreTablesOf}
use Rattle.stop_engine.proofs.engine.Engine.new.Goals as goal

pub invariant_of-result-2 : goal.invariant_of-result-2
invariant_of-result-2 c =
    let same : c.run.inside.table ≡ viewed c.args.image.now = ap (λ (r : RunState). r.form) (c.run.view_is ∙ c.in_ok-run.ensures) in
    let bound : c.in_ok-new.field-0.bound ≡ length (viewed c.args.image.now).places + 1 = omega (arith, ap (λ (t : MarkTable). t.bound) c.in_ok-new.ensures, c.place_count.ensures.count) in
    subst (λ (m : Form). AreTablesOf m c.in_ok-tables.tables × AreFunctionNamesOf m c.in_ok-functions.functions × (c.in_ok-new.field-0.bound ≡ length m.places + 1)) (sym same)
    (c.in_ok-tables.ensures, c.in_ok-functions.ensures, bound)
