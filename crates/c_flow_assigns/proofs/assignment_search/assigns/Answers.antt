use Rattle.std.proofs.Common.{◌≡◌, sym, ◌∙◌}
use Rattle.std.specs.Prelude.{◌↔◌, Some}
use Rattle.c_tree.specs.declared.object_type.Object.{Object}
use Rattle.c_tree.specs.Programs.{program_view}
use Rattle.c_flow.specs.Assigns.{assigned_by_program, variable_number}
use Rattle.c_flow_assigns.proofs.Looking.{is_found, is_there, no_variable, none_of}
use Rattle.c_flow_assigns.proofs.assignment_search.assigns.Goals as goal

pub returns-in-None : goal.returns-in-None
returns-in-None c =
    let p = program_view c.args.program.now in
    let none : (x : Object) → variable_number p x ≡ Some c.args.var.0 → ⊥ = λ x e. none_of (c.object_of.result) x c.in-None.is ((c.object_of.ensures x).0 e) in
    (λ e. absurd (cc), λ h. absurd (no_variable p c.args.place c.args.var none (assigned_by_program p) h))

pub returns-in-Some : goal.returns-in-Some
returns-in-Some c =
    let p = program_view c.args.program.now in
    let found : (x : Object) → (variable_number p x ≡ Some c.args.var.0) ↔ (Some c.in-Some.object ≡ Some x) = λ x. (λ e. sym c.in-Some.is ∙ (c.object_of.ensures x).0 e, λ e. (c.object_of.ensures x).1 (c.in-Some.is ∙ e)) in
    (λ e. is_there p c.args.place c.args.var c.in-Some.object found (assigned_by_program p) (sym c.is_in_program.ensures ∙ e), λ h. c.is_in_program.ensures ∙ is_found p c.args.place c.args.var c.in-Some.object found (assigned_by_program p) h)
