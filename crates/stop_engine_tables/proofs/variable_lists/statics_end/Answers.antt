use Rattle.std.proofs.Common.{◌≡◌, ◌+◌, ◌-◌, false, drop, List, All, sym, subst, ◌∙◌, arith}
use Rattle.image_form.specs.Views.{viewed}
use Rattle.image_form.specs.declared.variables.Variable.{Variable}
use Rattle.stop_engine_tables.specs.VariableLists.{is_static}
use Rattle.stop_engine_tables.proofs.VariableListLaws.{none_static_more}
use Rattle.stop_engine_tables.proofs.variable_lists.statics_end.Goals as goal

pub loop-end-preserved : goal.loop-end-preserved
loop-end-preserved c =
    let vs : List Variable = (viewed c.args.image.now).variables in
    let n = c.loop-end.end - 1 in
    let some : c.loop-end.end ≡ n + 1 = omega (arith, c.loop-end-test.true) in
    let none = subst (λ k. All (λ (v : Variable). is_static v ≡ false) (drop k vs)) some c.loop-end.invariant.1 in
    let within = c.loop-end.invariant.0 in
    (omega (arith, within), none_static_more vs n c.variable_at.result c.variable_at.ensures (sym c.is_static.ensures ∙ c.if-is_static.false) none)
