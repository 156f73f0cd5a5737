use Rattle.std.proofs.Common.{◌≡◌, [], length, arith, map, sym, ap, ◌∙◌}
use Rattle.std.proofs.lemmas.List.{take-map, length-map}
use Rattle.c_tree.specs.Declarations.{parameter_view}
use Rattle.c_tree.specs.Programs.{automatic_view}
use Rattle.c_type_declarations.specs.Progress.{means, opened, scope_left, progress_view}
use Rattle.c_type.specs.Functions.{parameters_met, without_new}
use Rattle.c_type.proofs.function.look_at_parameters.Goals as goal

pub returns : goal.returns
returns c =
    let old = c.args.progress.now in
    let all : progress_view c.close.new.self ≡ scope_left (parameters_met (map parameter_view c.args.f.now.parameters.items) (opened (progress_view old))) =
    c.close.ensures ∙ ap scope_left ((rw c.deref.ensures.value at c.in_ok-declare_parameters.ensures) ∙ ap (parameters_met (map parameter_view c.args.f.now.parameters.items)) c.in_ok-open.ensures) in
    let count : c.len-count.result ≡ length old.automatics.items = omega (arith, c.len-count.ensures) in
    rw (c.truncate.ensures.items, sym (take-map automatic_view c.len-count.result c.close.new.self.automatics.items), count, length-map old.automatics.items automatic_view)
    (ap (λ p. means [] (without_new (length old.automatics.items) p)) all)
