-- The five steps.
use Rattle.std.proofs.Common.{◌≡◌, ℕ, List, None, Ok, refl, sym, ap, ◌∙◌}
use Rattle.c_tree.specs.Programs.{TypedFunctionTree, AutomaticTree, ProgramTree}
use Rattle.c_tree.specs.Trees.{ItemTree}
use Rattle.c_type_bounds.specs.Counts.{capped}
use Rattle.c_type_bounds.specs.Weights.{items_weight}
use Rattle.c_type_bounds.specs.Bounds.{behind_functions}
use Rattle.c_type_declarations.specs.Progress.{ProgressTree, means}
use Rattle.c_type.specs.Items.{source_met}
use Rattle.c_type.specs.Programs.{checked, within_program_limits, within_function_limits, main_number, names_refusal, program_of, program_with, accepted}

checked_is : (items : List ItemTree) (fs : List TypedFunctionTree) (p : ProgressTree) → means fs p ≡ source_met items → checked items ≡ accepted items fs p
checked_is items fs p e = rw (sym e, checked) refl

steps_are : (items : List ItemTree) (fs : List TypedFunctionTree) (p : ProgressTree) (vs : List AutomaticTree)
    → names_refusal items p ≡ None → behind_functions 0 fs p.automatics ≡ Ok vs → accepted items fs p ≡ within_program_limits (program_of items fs p vs)
steps_are items fs p vs n b = rw (n, b, within_function_limits) refl

program_is : (items : List ItemTree) (fs : List TypedFunctionTree) (p : ProgressTree) (vs : List AutomaticTree) (main weight : ℕ) (program : ProgramTree)
    → main ≡ main_number items → weight ≡ capped (items_weight items) → program ≡ program_with fs main p vs weight → program_of items fs p vs ≡ program
program_is items fs p vs main weight program m w e = sym (e ∙ ap (λ n. program_with fs n p vs weight) m ∙ ap (program_with fs (main_number items) p vs) w)

-- up to the last step
pub checked_within_limits : (items : List ItemTree) (fs : List TypedFunctionTree) (p : ProgressTree) (vs : List AutomaticTree) (main weight : ℕ) (program : ProgramTree)
    → means fs p ≡ source_met items → names_refusal items p ≡ None → behind_functions 0 fs p.automatics ≡ Ok vs → main ≡ main_number items → weight ≡ capped (items_weight items) → program ≡ program_with fs main p vs weight
    → checked items ≡ within_program_limits program
checked_within_limits items fs p vs main weight program met n b m w e =
    checked_is items fs p met ∙ steps_are items fs p vs n b ∙ ap within_program_limits (program_is items fs p vs main weight program m w e)
