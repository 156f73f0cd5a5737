use Rattle.std.proofs.Common.{◌≡◌, None, Ok, map, arith, sym, ◌∙◌}
use Rattle.c_tree.specs.Programs.{automatic_view, function_view, program_view}
use Rattle.c_tree.specs.Trees.{tree_view}
use Rattle.c_type_bounds.specs.Bounds.{behind_functions}
use Rattle.c_type_declarations.specs.Progress.{means, progress_view}
use Rattle.c_type.specs.Functions.{IsNumbering, defined}
use Rattle.c_type.specs.Items.{source_met}
use Rattle.c_type.specs.Programs.{checked, within_program_limits, names_refusal, program_with}
use Rattle.std.proofs.lemmas.Grind.{common_steps}
use Rattle.c_type.proofs.Steps.{checked_within_limits}
use Rattle.c_type.proofs.source.check.Goals as goal

pub returns : goal.returns
returns c =
    let items = tree_view c.args.tree in
    let fs = map function_view c.in_ok-functions.functions.items in
    let p = progress_view c.items.new.progress in
    let vs = map automatic_view c.check_functions.new.automatics in
    let program = program_view c.program-program.result in
    let numbering : IsNumbering c.in_ok-numbers.numbers (defined items) = rw c.deref.ensures.value at c.in_ok-numbers.ensures in
    let met : means fs p ≡ source_met items = rw (c.deref-2.ensures.value, c.in_ok-progress.ensures) at (c.in_ok-functions.ensures (defined items) numbering) in
    let none : names_refusal items p ≡ None = sym c.names_refusal.ensures ∙ c.in_default.is in
    let marked : behind_functions 0 fs p.automatics ≡ Ok vs = rw (c.deref-3.ensures.value, c.deref_mut.ensures.value) at c.in_ok-check_functions.ensures in
    let made : program ≡ program_with fs c.main_number.result p vs c.tree_weight-weight.result = grind (arith, common_steps, c.program-program.ensures, c.deref_mut.ensures.writes_back) in
    let all : checked items ≡ within_program_limits program =
    checked_within_limits items fs p vs c.main_number.result c.tree_weight-weight.result program met none marked (c.main_number.ensures items numbering) c.tree_weight-weight.ensures made in
    rw all c.within_limits.ensures
