-- The grammar of a generated program: its tokens spell its tree.
use Rattle.std.proofs.Common.{◌≡◌, ℕ, ◌-◌, true, false, List, [], ◌∷◌, ◌++◌, length, drop, Some, refl, sym, ap, arith}
use Rattle.c_token.specs.declared.token.Punctuator.TheVariants as punctuator
use Rattle.c_token.specs.Lexemes.{Lexeme}
use Rattle.c_token.specs.Lexemes as word
use Rattle.c_tree.specs.declared.extent.Extent.{Extent}
use Rattle.c_tree.specs.Declarations.{Absent, DeclaratorTree}
use Rattle.c_tree.specs.Declarations as declaration
use Rattle.c_tree.specs.Expressions.{ExpressionTree}
use Rattle.c_tree.specs.Statements.{StatementTree, StatementTrees, none, first, chain_of_statements}
use Rattle.c_tree.specs.Trees.{Defines}
use Rattle.c_parse_tokens.specs.declared.specifier.Sign.TheVariants as sign
use Rattle.c_parse_tokens.specs.declared.specifier.Width.TheVariants as width
use Rattle.c_parse_tokens.specs.declared.specifier.SpecifierList.{SpecifierList}
use Rattle.c_parse_tokens.specs.Front.{spot_at, last_before, extent_before}
use Rattle.c_parse_tokens.specs.Operators.{binary_operator, assignment_operator}
use Rattle.c_parse_tokens.specs.Specifiers.{is_type, with_int, with_sign, with_specifier, integer_type, base_of}
use Rattle.c_parse.specs.Tokens.{Grammar, IsPunctuator}
use Rattle.c_parse.specs.Types.{AreSpecifiers, Specify, AreStars, no_star, IsTypeName}
use Rattle.c_parse.specs.Types as types
use Rattle.c_parse.specs.Expressions.{IsCast, IsLevel, IsAssignment, IsExpression}
use Rattle.c_parse.specs.Expressions as grammar
use Rattle.c_parse.specs.Declarations.{no_brackets, initialized, IsDeclarator, Separated, IsDeclaration}
use Rattle.c_parse.specs.Declarations as declarations
use Rattle.c_parse.specs.Statements.{IsStatement, AreStatements}
use Rattle.c_parse.specs.Statements as statements
use Rattle.c_parse.specs.Files.{IsItem, Spells}
use Rattle.c_parse.specs.Files as files
use Rattle.work_gen_laws.specs.Drawn.{Drawn}
use Rattle.work_gen_laws.specs.Pieces.{Sized, end_of, tokens_along, lines_pieces, main_line, variables_line, counter_line, loop_line, step_line, end_line, output_line, return_line, tail_pieces, whole_pieces}
use Rattle.work_gen_laws.specs.Trees.{variables_tree, counter_tree, loop_tree, step_tree, output_tree, return_tree, main_tree, step_tokens, loop_end_tokens, main_end_tokens, main_statements, lines_before, program_tree}
use Rattle.work_gen_laws.proofs.Expressions.{from_primary, to_level, cast_assigns, level_one, level_two, level_four, name_cast, constant_cast}
use Rattle.work_gen_laws.proofs.Assignments.{lines_parse}

-- a specifier alone: `int`, and `unsigned`
abbrev int_alone : SpecifierList
int_alone = record { is_static = false; is_void = false; is_int = true; sign = sign.Unstated; width = width.Unstated }

abbrev unsigned_alone : SpecifierList
unsigned_alone = record { is_static = false; is_void = false; is_int = false; sign = sign.Unsigned; width = width.Unstated }

last_of_three : (a b c : Lexeme) (rest : List Lexeme) → last_before (a ∷ b ∷ c ∷ rest) rest ≡ c.spot.at
unfolding last_before
last_of_three a b c rest = let two : length (a ∷ b ∷ c ∷ rest) - length rest - 1 ≡ 2 = omega arith in ap (λ (n : ℕ). (spot_at (drop n (a ∷ b ∷ c ∷ rest))).at) two

three_extent : (a b c : Lexeme) (rest : List Lexeme) → ◌≡◌ {A = Extent} (record { first = a.spot; last = c.spot.at }) (extent_before (a ∷ b ∷ c ∷ rest) rest)
unfolding extent_before
three_extent a b c rest = ap (λ (n : ℕ). record { first = a.spot; last = n }) (sym (last_of_three a b c rest))

declarator_parse : {a b c : Lexeme} {rest : List Lexeme} {n : List ℕ} {e : ExpressionTree} → a.kind ≡ word.Name n → IsPunctuator punctuator.Equal b → IsCast e (c ∷ rest) rest
    → IsDeclarator (record { extent = record { first = a.spot; last = c.spot.at }; stars = 0; name = record { name = n; spot = a.spot }; brackets = Absent; initializer = Some (declaration.Value e) }) (a ∷ b ∷ c ∷ rest) rest
declarator_parse {a = a} {b = b} {c = c} {rest = rest} name equal value =
    declarations.declarator no_star (name, refl)
    (record { behind_brackets = b ∷ c ∷ rest; brackets = no_brackets; initial = initialized equal (declarations.value (cast_assigns value)); extent = three_extent a b c rest })

four : {A : Type 0} (G : Grammar A) {a b c d : A} {t u v : Lexeme} {ts us vs ws rest : List Lexeme} → G a ts (t ∷ us) → IsPunctuator punctuator.Comma t → G b us (u ∷ vs) → IsPunctuator punctuator.Comma u
    → G c vs (v ∷ ws) → IsPunctuator punctuator.Comma v → G d ws rest → Separated G (a ∷ b ∷ c ∷ d ∷ []) ts rest
four G {a = a} {b = b} {c = c} one t two u three v last =
    declarations.further {all = a ∷ b ∷ c ∷ []} (declarations.further {all = a ∷ b ∷ []} (declarations.further {all = a ∷ []} (declarations.first one) t two) u three) v last

variables_parse : (text : List ℕ) (at : ℕ) (qs : List Sized)
    → IsDeclaration (variables_tree (tokens_along text at variables_line)) (tokens_along text at (variables_line ++ qs)) (tokens_along text (end_of at variables_line) qs)
unfolding with_specifier with_sign is_type integer_type
variables_parse text at qs =
    declarations.declaration {found = unsigned_alone} (record { words = types.more refl refl types.none; type = refl })
    (four IsDeclarator (declarator_parse refl refl (constant_cast refl)) refl (declarator_parse refl refl (constant_cast refl)) refl (declarator_parse refl refl (constant_cast refl)) refl (declarator_parse refl refl (constant_cast refl))) refl

counter_parse : (text : List ℕ) (at : ℕ) (qs : List Sized)
    → IsDeclaration (counter_tree (tokens_along text at counter_line)) (tokens_along text at (counter_line ++ qs)) (tokens_along text (end_of at counter_line) qs)
unfolding with_specifier with_int is_type integer_type
counter_parse text at qs =
    declarations.declaration {found = int_alone} (record { words = types.more refl refl types.none; type = refl })
    (declarations.first (declarator_parse refl refl (constant_cast refl))) refl

loop_parse : (text : List ℕ) (at : ℕ) (body : StatementTrees) (qs : List Sized) (closing : Lexeme) (rest : List Lexeme)
    → AreStatements true body (tokens_along text (end_of at loop_line) qs) (closing ∷ rest) → IsPunctuator punctuator.CloseBrace closing
    → IsStatement (loop_tree (tokens_along text at loop_line) body (closing ∷ [])) (tokens_along text at (loop_line ++ qs)) rest
unfolding binary_operator
loop_parse text at body qs closing rest all end =
    statements.while refl (statements.condition refl (grammar.assignment (level_four (grammar.operation (to_level 4 (name_cast refl)) refl refl (to_level 3 (constant_cast refl))))) refl)
    (statements.compound refl all end)

step_parse : (text : List ℕ) (at : ℕ) (qs : List Sized) → IsStatement (step_tree (tokens_along text at step_line)) (tokens_along text at (step_line ++ qs)) (tokens_along text (end_of at step_line) qs)
unfolding binary_operator assignment_operator
step_parse text at qs =
    statements.run (grammar.assignment (grammar.assigns (grammar.level (to_level 10 (name_cast refl))) refl refl
    (level_two (grammar.operation (to_level 2 (name_cast refl)) refl refl (to_level 1 (constant_cast refl)))))) refl

output_parse : (text : List ℕ) (at : ℕ) (qs : List Sized) → IsStatement (output_tree (tokens_along text at output_line)) (tokens_along text at (output_line ++ qs)) (tokens_along text (end_of at output_line) qs)
unfolding binary_operator with_specifier with_int is_type integer_type
output_parse text at qs =
    statements.run (grammar.assignment (cast_assigns (grammar.unary (grammar.postfix (grammar.call (grammar.primary (grammar.name refl)) refl (grammar.one
    (level_two (grammar.operation (to_level 2 (constant_cast refl)) refl refl (to_level 1 (grammar.cast refl
    (types.integer {found = int_alone} (record { words = types.more refl refl types.none; type = refl }) refl no_star) refl
    (from_primary (grammar.parenthesized refl (grammar.assignment (level_one (grammar.operation (to_level 1 (from_primary (grammar.parenthesized refl (grammar.assignment (level_two
    (grammar.operation (grammar.operation (grammar.operation (to_level 2 (name_cast refl)) refl refl (to_level 1 (name_cast refl))) refl refl (to_level 1 (name_cast refl))) refl refl (to_level 1 (name_cast refl))))) refl)))
    refl refl (to_level 0 (constant_cast refl))))) refl))))))) refl))))) refl

return_parse : (text : List ℕ) (at : ℕ) (qs : List Sized) → IsStatement (return_tree (tokens_along text at return_line)) (tokens_along text at (return_line ++ qs)) (tokens_along text (end_of at return_line) qs)
return_parse text at qs = statements.return_value refl (grammar.assignment (cast_assigns (constant_cast refl))) refl

main_parse : (text : List ℕ) (at : ℕ) (all : List StatementTree) (qs : List Sized) (closing : Lexeme) (rest : List Lexeme)
    → AreStatements true (chain_of_statements all) (tokens_along text (end_of at main_line) qs) (closing ∷ rest) → IsPunctuator punctuator.CloseBrace closing
    → IsItem (Defines (main_tree (tokens_along text at main_line) all (closing ∷ []))) (tokens_along text at (main_line ++ qs)) rest
unfolding with_specifier with_int is_type integer_type base_of
main_parse text at all qs closing rest block end =
    files.function {found = int_alone} (record { words = types.more refl refl types.none; type = refl }) (files.of_integer refl no_star) (refl, refl) refl (files.void refl) refl
    (files.body files.no_more refl block end)

-- Its tokens spell the tree, wherever they stand.
pub spelled_tree : (text : List ℕ) (ds : List Drawn) → Spells (tokens_along text 0 (whole_pieces ds)) (program_tree text ds)
spelled_tree text ds =
    let e = end_of 86 (lines_pieces ds) in
    let behind_loop = end_of (end_of e step_line) end_line in
    let behind_output = end_of behind_loop output_line in
    let after = tokens_along text behind_loop (output_line ++ (return_line ++ end_line)) in
    let closing = word_of (loop_end_tokens text e) in
    let step = statements.statement (step_parse text e (end_line ++ (output_line ++ (return_line ++ end_line)))) statements.no_statement in
    let block = lines_parse text ds 86 tail_pieces (first (step_tree (step_tokens text e)) none) (closing ∷ after) step in
    let loop = loop_parse text 74 (lines_before text 86 ds (first (step_tree (step_tokens text e)) none)) (lines_pieces ds ++ tail_pieces) closing after block refl in
    let all = statements.declares refl (variables_parse text 35 (counter_line ++ (loop_line ++ (lines_pieces ds ++ tail_pieces))))
    (statements.declares refl (counter_parse text 65 (loop_line ++ (lines_pieces ds ++ tail_pieces)))
    (statements.statement loop (statements.statement (output_parse text behind_loop (return_line ++ end_line)) (statements.statement (return_parse text behind_output end_line) statements.no_statement)))) in
    files.item (files.include refl files.stdio) (files.item (main_parse text 19 (main_statements text e (lines_before text 86 ds (first (step_tree (step_tokens text e)) none)))
    (variables_line ++ (counter_line ++ (loop_line ++ (lines_pieces ds ++ tail_pieces)))) (word_of (main_end_tokens text e)) [] all refl) files.nothing_more)
  where
    word_of : List Lexeme → Lexeme
    word_of [] = record { kind = word.Name []; spot = record { at = 0; line = 0 } }
    word_of (t ∷ ts) = t
