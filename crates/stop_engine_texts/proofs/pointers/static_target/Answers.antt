use Rattle.std.proofs.Common.{◌≡◌, ◌+◌, false, drop, Some, List, All, sym, ap, subst, ◌∙◌, arith}
use Rattle.image_form.specs.Views.{viewed}
use Rattle.image_form.specs.declared.variables.Variable.{Variable}
use Rattle.stop_engine_tables.specs.VariableLists.{is_static}
use Rattle.stop_engine_tables.proofs.VariableListLaws.{static-none}
use Rattle.stop_engine_view.specs.Pointers.{static_target, static_target_of}
use Rattle.stop_engine_texts.proofs.VariablesInTurn.{target_behind, target_here}
use Rattle.stop_engine_texts.proofs.pointers.static_target.Goals as goal

pub returns-in-Some-clause-found : goal.returns-in-Some-clause-found
returns-in-Some-clause-found c =
    let vs : List Variable = (viewed c.args.image.now).variables in
    let v = c.variable_at-variable.result in
    let n = c.loop-index.index in
    let offset = c.in-Some.offset in
    let here = target_here c.args.address n c.loop-index.count offset v vs c.variable_at-variable.ensures c.in-Some.ensures in
    ap Some (c.static_target_of.ensures ∙ ap (λ k. static_target_of v n (c.loop-index.count + k) offset) c.literals-count.ensures.count) ∙ (sym here ∙ c.loop-index.invariant.1)

pub loop-index-preserved : goal.loop-index-preserved
loop-index-preserved c =
    let vs : List Variable = (viewed c.args.image.now).variables in
    let v = c.variable_at-variable.result in
    let n = c.loop-index.index in
    let behind = target_behind c.args.address n c.loop-index.count v vs c.variable_at-variable.ensures c.in-None.ensures in
    let fewer = c.loop-index.invariant.0 in
    (omega (arith, fewer, c.literals-count.ensures.small), ap (λ k. static_target c.args.address (n + 1) (c.loop-index.count + k) (drop (n + 1) vs)) c.literals-count.ensures.count ∙ (sym behind ∙ c.loop-index.invariant.1))

pub returns-clause-found : goal.returns-clause-found
returns-clause-found c =
    let vs : List Variable = (viewed c.args.image.now).variables in
    let n = c.loop-index.index in
    let last : c.args.lists.now.statics ≡ n = omega (arith, c.loop-index-test.false, c.loop-index.auto.index-end) in
    let none = subst (λ k. All (λ (v : Variable). is_static v ≡ false) (drop k vs)) last c.requires.lists.statics in
    sym (static-none c.args.address n c.loop-index.count (drop n vs) none) ∙ c.loop-index.invariant.1
