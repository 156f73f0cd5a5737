use Rattle.std.proofs.Common.{◌≡◌, ◌-◌, false, length, arith, string_bytes, sym, ap, ◌∙◌}
use Rattle.std.proofs.lemmas.List.{length-map}
use Rattle.c_tree.specs.Declarations.{parameter_view}
use Rattle.c_tree.specs.Programs.{automatic_view}
use Rattle.c_tree.specs.Statements.{block_view, chain_of_statements}
use Rattle.c_tree.specs.Trees.{function_view}
use Rattle.c_tree.specs.TypedStatements.{statements_view}
use Rattle.c_type_declarations.specs.Progress.{means, opened, progress_view}
use Rattle.c_type_statements.specs.declared.setting.Setting.{Setting}
use Rattle.c_type_statements.specs.Statements.{statements_met}
use Rattle.c_type.specs.Functions.{parameters_met, setting_of}
use Rattle.c_type.proofs.Bodies.{block_out, made_is}
use Rattle.c_type.proofs.function.defined.Goals as goal

pub returns : goal.returns
returns c = λ g same.
    let p = progress_view c.args.progress.now in
    let q = progress_view c.statements.new.progress in
    let f = function_view c.args.f.now in
    let b = block_view c.args.block.now in
    let started : progress_view c.declare_parameters.new.progress ≡ parameters_met f.parameters (opened p) =
    (rw c.deref-2.ensures.value at c.in_ok-declare_parameters.ensures) ∙ ap (parameters_met f.parameters) c.in_ok-open.ensures in
    let result : c.result_type-result.result ≡ g.result = c.result_type-result.ensures ∙ sym same in
    let setting : Setting = record { result = c.result_type-result.result; may_break = false; may_continue = false } in
    let set : setting ≡ setting_of g = ap (λ r. record { result = r; may_break = false; may_continue = false }) result in
    let body : means (statements_view c.in_ok-body.body) q ≡ statements_met setting (chain_of_statements b.statements) (progress_view c.declare_parameters.new.progress) =
    (rw c.deref-3.ensures.value at c.in_ok-body.ensures) ∙ ap (λ t. statements_met setting (chain_of_statements t.statements) (progress_view c.declare_parameters.new.progress)) (sym (block_out c.args.block.now)) in
    let last : c.len-3.result ≡ length c.close.new.self.automatics.items = omega (arith, c.len-3.ensures) in
    let before : c.len.result ≡ length c.args.progress.now.automatics.items = omega (arith, c.len.ensures) in
    let given : c.len-2.result ≡ length c.args.f.now.parameters.items = omega (arith, c.len-2.ensures) in
    let all : c.in_ok-all.all ≡ length q.automatics =
    c.in_ok-all.ensures ∙ last ∙ sym (length-map c.close.new.self.automatics.items automatic_view) ∙ ap (λ r. length r.automatics) c.close.ensures in
    let start : c.in_ok-first_variable.first_variable ≡ length p.automatics =
    c.in_ok-first_variable.ensures ∙ before ∙ sym (length-map c.args.progress.now.automatics.items automatic_view) in
    made_is f g b p q (progress_view c.close.new.self) (statements_view c.in_ok-body.body) (string_bytes c.in_ok-name.name) c.result_type-result.result c.in_ok-first_variable.first_variable c.in_ok-parameters.parameters c.saturating_sub.result c.definition_weight.result c.args.block.now.closing
    (c.in_ok-name.ensures.ok ∙ c.deref.ensures)
    result
    start
    (c.in_ok-parameters.ensures ∙ given ∙ sym (length-map c.args.f.now.parameters.items parameter_view))
    (c.saturating_sub.ensures ∙ ap (λ n. n - c.in_ok-first_variable.first_variable) all ∙ ap (λ n. length q.automatics - n) start)
    (ap (λ t. t.closing) (sym (block_out c.args.block.now)))
    (rw c.deref-4.ensures.value at c.definition_weight.ensures)
    c.close.ensures
    (body ∙ ap (λ s. statements_met s (chain_of_statements b.statements) (progress_view c.declare_parameters.new.progress)) set ∙ ap (statements_met (setting_of g) (chain_of_statements b.statements)) started)
