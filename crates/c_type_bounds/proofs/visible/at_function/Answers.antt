use Rattle.std.proofs.Common.{rules, arith, ◌≡◌, length, ap, ◌∙◌, sym}
use Rattle.std.specs.Prelude.{map}
use Rattle.std.proofs.lemmas.List.{length-map}
use Rattle.c_tree.specs.Programs.{automatic_view, function_view}
use Rattle.c_places.specs.Places.{parameters_of}
use Rattle.c_type_bounds.specs.Counts.{capped}
use Rattle.c_type_bounds.specs.Visible.{at_statements, behind_scope, names_view, parameter_names}
use Rattle.c_type_bounds.proofs.FunctionPlaces.{with_close, without_close}
use Rattle.c_type_bounds.proofs.visible.at_function.Goals as goal

pub returns-then-reaches_end : goal.returns-then-reaches_end
returns-then-reaches_end c =
    let vs = map automatic_view c.args.automatics.now in
    let f = function_view c.args.f.now in
    let names = names_view c.add_parameters.new.names.items in
    let named : names ≡ parameter_names vs f = c.in_ok-add_parameters.ensures ∙ ap (λ xs. behind_scope vs (parameters_of f) (names_view xs)) c.new-names.ensures.items in
    let count : length (names_view c.at_statements.new.names.items) ≡ length c.at_statements.new.names.items = length-map c.at_statements.new.names.items (λ n. n.now) in
    let same : c.len.result ≡ length c.at_statements.new.names.items = search rules in
    let shown : c.len.result ≡ capped (length (names_view c.at_statements.new.names.items)) = omega (arith, count, same, c.len.type_inv) in
    c.plus.ensures.sum_of (at_statements vs f.body names) (length (names_view c.at_statements.new.names.items)) c.in_ok-inner.ensures.count shown
    ∙ ap capped (with_close vs f names (names_view c.at_statements.new.names.items) (sym c.if-reaches_end.ensures) named c.in_ok-inner.ensures.names)

pub returns : goal.returns
returns c =
    let vs = map automatic_view c.args.automatics.now in
    let f = function_view c.args.f.now in
    let names = names_view c.add_parameters.new.names.items in
    let named : names ≡ parameter_names vs f = c.in_ok-add_parameters.ensures ∙ ap (λ xs. behind_scope vs (parameters_of f) (names_view xs)) c.new-names.ensures.items in
    c.in_ok-inner.ensures.count ∙ ap capped (without_close vs f names (sym c.if-reaches_end.ensures) named)
