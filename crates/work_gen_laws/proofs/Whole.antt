-- A generated text is of a program.
use Rattle.std.proofs.Common.{◌≡◌, ℕ, ◌≤◌, List, length, Ok, sym, ap, ◌∙◌, subst, arith}
use Rattle.c_token.specs.Reading.{◌>>=◌}
use Rattle.c_tree.specs.Programs.{ProgramTree}
use Rattle.c_parse.specs.Reading.{tree_of}
use Rattle.c_type.specs.Programs.{checked}
use Rattle.c_source.specs.Sources.{program_of_source, HasProgram}
use Rattle.work_gen.specs.Generated.{text}
use Rattle.work_gen_laws.specs.Drawn.{Drawn, drawn_all, whole_text}
use Rattle.work_gen_laws.specs.Trees.{program_tree}
use Rattle.work_gen_laws.proofs.Drawing.{text_is, count_is}
use Rattle.work_gen_laws.proofs.Tokens.{tokens_are}
use Rattle.work_gen_laws.proofs.Treed.{tree_is}
use Rattle.work_gen_laws.proofs.Accepted.{tree_checks}

source_of : (ds : List Drawn) (p : ProgramTree) → length ds ≤ 400 → checked (program_tree (whole_text ds) ds) ≡ Ok p → program_of_source (whole_text ds) ≡ Ok p
unfolding program_of_source
source_of ds p few checks =
    let tokens = tokens_are ds few in
    let its_tree = tree_is (whole_text ds) ds in
    ap (λ r. r >>= tree_of >>= checked) tokens ∙ ap (λ r. r >>= checked) its_tree ∙ checks

whole : (ds : List Drawn) → length ds ≤ 400 → HasProgram (whole_text ds)
whole ds few =
    let found = tree_checks (whole_text ds) ds few in
    record { program = found.0; program_is = source_of ds found.0 few found.1 }

pub generated_has_program : (seed size : ℕ) → size ≤ 400 → HasProgram (text seed size)
generated_has_program seed size few =
    let count = count_is size seed in
    subst (λ (t : List ℕ). HasProgram t) (sym (text_is seed size)) (whole (drawn_all size seed) (omega (arith, few, count)))
