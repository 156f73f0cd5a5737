-- The grammar of the statements of a generated program.
use Rattle.std.proofs.Common.{◌≡◌, ℕ, ◌+◌, List, [], ◌∷◌, ◌++◌, true, refl, sym, subst, append_assoc}
use Rattle.c_token.specs.Lexemes.{Lexeme}
use Rattle.c_tree.specs.Statements.{StatementTrees}
use Rattle.c_parse_tokens.specs.Operators.{binary_operator, assignment_operator}
use Rattle.c_parse.specs.Expressions.{IsCast, IsLevel, IsConditional, IsAssignment, IsExpression}
use Rattle.c_parse.specs.Expressions as grammar
use Rattle.c_parse.specs.Statements.{IsStatement, AreStatements}
use Rattle.c_parse.specs.Statements as statements
use Rattle.work_gen_laws.specs.Drawn.{Letter, byte, Plus, Times, ExclusiveOr, Side, Only, Operation, Drawn}
use Rattle.work_gen_laws.specs.Pieces.{Sized, end_of, tokens_along, variable, equal, semicolon, feed, side_pieces, line_pieces, lines_pieces}
use Rattle.work_gen_laws.specs.Trees.{assigned_tree, lines_before}
use Rattle.work_gen_laws.proofs.Expressions.{to_level, cast_assigns, level_one, level_two, level_seven, name_cast}

-- the pieces of a statement
abbrev pieces : Letter → Side → List Sized
pieces t s = variable (byte t) ∷ equal ∷ side_pieces s ++ semicolon ∷ feed ∷ []

assigned_parse : (text : List ℕ) (at : ℕ) (t : Letter) (s : Side) (qs : List Sized)
    → IsStatement (assigned_tree (tokens_along text at (pieces t s)) t s) (tokens_along text at (pieces t s ++ qs)) (tokens_along text (end_of at (pieces t s)) qs)
unfolding binary_operator assignment_operator
assigned_parse text at t (Only l) qs =
    statements.run (grammar.assignment (grammar.assigns (grammar.level (to_level 10 (name_cast refl))) refl refl (cast_assigns (name_cast refl)))) refl
assigned_parse text at t (Operation Plus l m) qs =
    statements.run (grammar.assignment (grammar.assigns (grammar.level (to_level 10 (name_cast refl))) refl refl
    (level_two (grammar.operation (to_level 2 (name_cast refl)) refl refl (to_level 1 (name_cast refl)))))) refl
assigned_parse text at t (Operation Times l m) qs =
    statements.run (grammar.assignment (grammar.assigns (grammar.level (to_level 10 (name_cast refl))) refl refl
    (level_one (grammar.operation (to_level 1 (name_cast refl)) refl refl (to_level 0 (name_cast refl)))))) refl
assigned_parse text at t (Operation ExclusiveOr l m) qs =
    statements.run (grammar.assignment (grammar.assigns (grammar.level (to_level 10 (name_cast refl))) refl refl
    (level_seven (grammar.operation (to_level 7 (name_cast refl)) refl refl (to_level 6 (name_cast refl)))))) refl

pub end_on : (at : ℕ) (ps qs : List Sized) → end_of at (ps ++ qs) ≡ end_of (end_of at ps) qs
end_on at [] qs = refl
end_on at (p ∷ ps) qs = end_on (at + p.1) ps qs

-- statements before others
pub lines_parse : (text : List ℕ) (ds : List Drawn) (at : ℕ) (qs : List Sized) (more : StatementTrees) (rest : List Lexeme)
    → AreStatements true more (tokens_along text (end_of at (lines_pieces ds)) qs) rest → AreStatements true (lines_before text at ds more) (tokens_along text at (lines_pieces ds ++ qs)) rest
lines_parse text [] at qs more rest m = m
lines_parse text (d ∷ ds) at qs more rest m =
    let here = assigned_parse text at d.target d.side (lines_pieces ds ++ qs) in
    let last : AreStatements true more (tokens_along text (end_of (end_of at (line_pieces d)) (lines_pieces ds)) qs) rest =
    subst (λ (n : ℕ). AreStatements true more (tokens_along text n qs) rest) (end_on at (line_pieces d) (lines_pieces ds)) m in
    let others = lines_parse text ds (end_of at (line_pieces d)) qs more rest last in
    subst (λ (ps : List Sized). AreStatements true (lines_before text at (d ∷ ds) more) (tokens_along text at ps) rest) (sym (append_assoc (line_pieces d) (lines_pieces ds) qs)) (statements.statement here others)
