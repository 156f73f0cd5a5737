-- The tree of a generated program is the one that is read.
use Rattle.std.proofs.Common.{◌≡◌, ℕ, ◌≤◌, List, [], ◌∷◌, Ok, arith}
use Rattle.c_tree.specs.Statements.{StatementTrees, none, first}
use Rattle.c_parse.specs.Depths.{statement_depth, statements_depth, file_depth}
use Rattle.c_parse.specs.Reading.{tree_of}
use Rattle.c_parse.proofs.Depths.{file_up}
use Rattle.c_parse.proofs.CompleteFiles.{tree_read}
use Rattle.work_gen_laws.specs.Drawn.{Letter, Side, Only, Operation, Drawn}
use Rattle.work_gen_laws.specs.Pieces.{end_of, tokens_along, line_pieces, lines_pieces, whole_pieces}
use Rattle.work_gen_laws.specs.Trees.{assigned_tree, lines_before, step_tree, step_tokens, program_tree}
use Rattle.work_gen_laws.proofs.Grammar.{spelled_tree}
use Rattle.c_token.specs.Lexemes.{Lexeme}

assigned_depth : (ts : List Lexeme) (t : Letter) (s : Side) → statement_depth (assigned_tree ts t s) ≤ 1
assigned_depth ts t (Only l) = omega arith
assigned_depth ts t (Operation o l m) = omega arith

lines_depth : (text : List ℕ) (ds : List Drawn) (at : ℕ) (more : StatementTrees) → statements_depth more ≤ 2 → statements_depth (lines_before text at ds more) ≤ 2
lines_depth text [] at more h = h
lines_depth text (d ∷ ds) at more h =
    let here = assigned_depth (tokens_along text at (line_pieces d)) d.target d.side in
    let others = lines_depth text ds (end_of at (line_pieces d)) more h in
    omega (arith, here, others)

whole_depth : (text : List ℕ) (ds : List Drawn) → file_depth (program_tree text ds) ≤ 64
whole_depth text ds =
    let e = end_of 86 (lines_pieces ds) in
    let last : statements_depth (first (step_tree (step_tokens text e)) none) ≤ 2 = omega arith in
    let inner = lines_depth text ds 86 (first (step_tree (step_tokens text e)) none) last in
    omega (arith, inner)

-- The tree of a program with such statements is read from its tokens, wherever they stand.
pub tree_is : (text : List ℕ) (ds : List Drawn) → tree_of (tokens_along text 0 (whole_pieces ds)) ≡ Ok (program_tree text ds)
tree_is text ds = tree_read (tokens_along text 0 (whole_pieces ds)) (program_tree text ds) (spelled_tree text ds) (file_up (program_tree text ds) 64 (whole_depth text ds))
