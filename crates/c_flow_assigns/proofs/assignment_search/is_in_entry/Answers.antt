use Rattle.std.proofs.Common.{◌≡◌, false, sym, ◌∙◌}
use Rattle.c_tree.specs.Programs.{function_view, program_view}
use Rattle.c_places.specs.Places.{numbers_from}
use Rattle.c_flow.specs.Assigns.{assigned_by_entry}
use Rattle.c_flow_assigns.specs.Wanted.{has_wanted}
use Rattle.c_flow_assigns.proofs.Entries.{none_automatic, not_among, parameter_found}
use Rattle.c_flow_assigns.proofs.assignment_search.is_in_entry.Goals as goal

pub returns-then-has_parameter : goal.returns-then-has_parameter
returns-then-has_parameter c =
    c.is_wanted.ensures
    ∙ parameter_found (program_view c.args.wanted.now.program.now) c.args.wanted.now.number c.args.function.now.spot.at c.args.wanted.now.object c.in-Automatic.x c.args.function.now.first_variable c.args.function.now.parameters c.in-Automatic.is (c.has_parameter.ensures.0 c.if-has_parameter.true)

pub returns-else-has_parameter : goal.returns-else-has_parameter
returns-else-has_parameter c =
    let none : has_wanted c.args.wanted.now (assigned_by_entry (function_view c.args.function.now)) ≡ false =
    not_among (program_view c.args.wanted.now.program.now) c.args.wanted.now.number c.args.function.now.spot.at c.args.wanted.now.object c.in-Automatic.x c.args.function.now.first_variable c.args.function.now.parameters c.has_parameter.result c.in-Automatic.is c.if-has_parameter.false c.has_parameter.ensures.1 in
    let outside : c.has_parameter.result ≡ false = c.if-has_parameter.false in
    cc

pub returns-in_default : goal.returns-in_default
returns-in_default c =
    sym (none_automatic (program_view c.args.wanted.now.program.now) c.args.wanted.now.number c.args.function.now.spot.at c.args.wanted.now.object (numbers_from c.args.function.now.first_variable c.args.function.now.parameters) c.in_default.not-Automatic)
