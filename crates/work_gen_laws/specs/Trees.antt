-- The tree of a generated program. A part of it takes the tokens of its line.
use Rattle.std.specs.Prelude.{ℕ, ◌+◌, List, [], ◌∷◌, drop, Some, codes}
use Rattle.debug_records.specs.declared.source.Spot.{Spot}
use Rattle.c_token.specs.Lexemes.{Lexeme}
use Rattle.c_tree.specs.declared.declaration.Header.TheVariants.{Stdio}
use Rattle.c_tree.specs.declared.extent.Extent.{Extent}
use Rattle.c_tree.specs.declared.operator.AssignmentOperator.TheVariants.{Assign}
use Rattle.c_tree.specs.declared.operator.BinaryOperator.{BinaryOperator}
use Rattle.c_tree.specs.declared.operator.BinaryOperator.TheVariants as binary
use Rattle.c_tree.specs.declared.types.Base.TheVariants as base
use Rattle.c_tree.specs.declared.types.IntegerType.TheVariants.{Int, UnsignedInt}
use Rattle.c_tree.specs.Declarations.{Absent, InitializerTree, DeclaratorTree, DeclarationTree}
use Rattle.c_tree.specs.Declarations as declaration
use Rattle.c_tree.specs.Expressions.{NameTree, ExpressionTree, Name, Constant, Parenthesized, Call, Cast, Binary, Assignment, chain_of_arguments}
use Rattle.c_tree.specs.Statements.{StatementTree, StatementTrees, Compound, Declare, Run, While, Return, none, first}
use Rattle.c_tree.specs.Trees.{FunctionTree, ItemTree, Include, Defines}
use Rattle.c_parse_tokens.specs.Front.{spot_at}
use Rattle.work_gen_laws.specs.Drawn.{Letter, byte, Operator, Plus, Times, ExclusiveOr, Side, Only, Operation, Drawn}
use Rattle.work_gen_laws.specs.Pieces.{end_of, tokens_along, line_pieces, lines_pieces, include_line, main_line, variables_line, counter_line, loop_line, step_line, end_line, output_line, return_line}

-- where the token of a number stands
abbrev pub spot : List Lexeme → ℕ → Spot
spot ts k = spot_at (drop k ts)

-- from a token to another one
abbrev pub extent : List Lexeme → (first last : ℕ) → Extent
extent ts k n = record { first = spot ts k; last = (spot ts n).at }

-- the name that a token is
abbrev pub name_at : List Lexeme → ℕ → List ℕ → NameTree
name_at ts k name = record { name = name; spot = spot ts k }

-- the expression of a token that is a name of one byte
abbrev pub variable_at : List Lexeme → ℕ → ℕ → ExpressionTree
variable_at ts k b = Name (name_at ts k (b ∷ []))

-- of one that is a constant
abbrev pub number_at : List Lexeme → ℕ → ℕ → ExpressionTree
number_at ts k value = Constant (spot ts k) value Int

-- of one that is a constant with a `u` behind it
abbrev pub unsigned_at : List Lexeme → ℕ → ℕ → ExpressionTree
unsigned_at ts k value = Constant (spot ts k) value UnsignedInt

-- an operator, as trees have it
abbrev pub binary_of : Operator → BinaryOperator
binary_of Plus = binary.Add
binary_of Times = binary.Multiply
binary_of ExclusiveOr = binary.BitXor

-- an assignment on a line of its own
abbrev pub assigned_tree : List Lexeme → Letter → Side → StatementTree
assigned_tree ts t (Only l) =
    Run (Assignment Assign (variable_at ts 0 (byte t)) (variable_at ts 2 (byte l))) (spot ts 3).at
assigned_tree ts t (Operation o l m) =
    Run
    (Assignment Assign (variable_at ts 0 (byte t))
    (Binary (binary_of o) (variable_at ts 2 (byte l)) (variable_at ts 4 (byte m))))
    (spot ts 5).at

-- a drawn statement
abbrev pub line_tree : List Lexeme → Drawn → StatementTree
line_tree ts d = assigned_tree ts d.target d.side

-- such statements before others, in a text that has them from an offset on
abbrev pub lines_before : List ℕ → ℕ → List Drawn → StatementTrees → StatementTrees
lines_before text at [] more = more
lines_before text at (d ∷ ds) more =
    first (line_tree (tokens_along text at (line_pieces d)) d) (lines_before text (end_of at (line_pieces d)) ds more)

-- a declarator of one byte with a value, from a token on
abbrev pub declarator_at : List Lexeme → ℕ → ℕ → ExpressionTree → DeclaratorTree
declarator_at ts k b e =
    record {
      extent = extent ts k (k + 2);
      stars = 0;
      name = name_at ts k (b ∷ []);
      brackets = Absent;
      initializer = Some (declaration.Value e);
    }

-- `unsigned a=1u,b=2u,c=3u,d=4u;`
abbrev pub variables_tree : List Lexeme → DeclarationTree
variables_tree ts =
    record {
      extent = extent ts 0 16;
      type = UnsignedInt;
      declarators = declarator_at ts 1 97 (unsigned_at ts 3 1) ∷ declarator_at ts 5 98 (unsigned_at ts 7 2)
          ∷ declarator_at ts 9 99 (unsigned_at ts 11 3) ∷ declarator_at ts 13 100 (unsigned_at ts 15 4) ∷ [];
    }

-- `int i=0;`
abbrev pub counter_tree : List Lexeme → DeclarationTree
counter_tree ts =
    record { extent = extent ts 0 4; type = Int; declarators = declarator_at ts 1 105 (number_at ts 3 0) ∷ [] }

-- `while(i<2)` with a block that begins on its line and ends with the first token of another one
abbrev pub loop_tree : List Lexeme → StatementTrees → List Lexeme → StatementTree
loop_tree ts body ends =
    While (spot ts 0) (Binary binary.Less (variable_at ts 2 105) (number_at ts 4 2))
    (Compound (spot ts 6) body (spot ends 0))

-- `i=i+1;`
abbrev pub step_tree : List Lexeme → StatementTree
step_tree ts =
    Run (Assignment Assign (variable_at ts 0 105) (Binary binary.Add (variable_at ts 2 105) (number_at ts 4 1)))
    (spot ts 5).at

-- `a+b+c+d`, as it stands on the line of `putchar`
abbrev pub sum_tree : List Lexeme → ExpressionTree
sum_tree ts =
    Binary binary.Add
    (Binary binary.Add (Binary binary.Add (variable_at ts 9 97) (variable_at ts 11 98)) (variable_at ts 13 99))
    (variable_at ts 15 100)

-- `((a+b+c+d)%26u)`
abbrev pub remainder_tree : List Lexeme → ExpressionTree
remainder_tree ts =
    Parenthesized (extent ts 7 19)
    (Binary binary.Remainder (Parenthesized (extent ts 8 16) (sum_tree ts)) (unsigned_at ts 18 26))

-- `65+(int)((a+b+c+d)%26u)`
abbrev pub letter_tree : List Lexeme → ExpressionTree
letter_tree ts =
    Binary binary.Add (number_at ts 2 65) (Cast (spot ts 4) (record {
      base = base.Integer Int;
      stars = 0;
    }) (remainder_tree ts))

-- `putchar(65+(int)((a+b+c+d)%26u));`
abbrev pub output_tree : List Lexeme → StatementTree
output_tree ts =
    Run (Call (Name (name_at ts 0 (codes "putchar"))) (chain_of_arguments (letter_tree ts ∷ [])) (spot ts 20).at)
    (spot ts 21).at

-- `return 0;`
abbrev pub return_tree : List Lexeme → StatementTree
return_tree ts = Return (extent ts 0 2) (Some (number_at ts 1 0))

-- `int main(void)` and a block
abbrev pub main_tree : List Lexeme → List StatementTree → List Lexeme → FunctionTree
main_tree ts all ends =
    record {
      extent = extent ts 1 4;
      base = base.Integer Int;
      stars = 0;
      name = name_at ts 1 (codes "main");
      parameters = [];
      body = Some (record { opening = spot ts 5; statements = all; closing = spot ends 0 });
    }

-- The tokens of the lines behind the statements, which end at an offset.
module _ (text : List ℕ) (at : ℕ) where
  -- `i=i+1;`
  abbrev pub step_tokens : List Lexeme
  step_tokens = tokens_along text at step_line

  -- the end of the loop
  abbrev pub loop_end_tokens : List Lexeme
  loop_end_tokens = tokens_along text (end_of at step_line) end_line

  -- `putchar(65+(int)((a+b+c+d)%26u));`
  abbrev pub output_tokens : List Lexeme
  output_tokens = tokens_along text (end_of (end_of at step_line) end_line) output_line

  -- `return 0;`
  abbrev pub return_tokens : List Lexeme
  return_tokens = tokens_along text (end_of (end_of (end_of at step_line) end_line) output_line) return_line

  -- the end of `main`
  abbrev pub main_end_tokens : List Lexeme
  main_end_tokens =
      tokens_along text (end_of (end_of (end_of (end_of at step_line) end_line) output_line) return_line) end_line

-- what stands in the block of `main`, where the statements are some trees and end at an offset
abbrev pub main_statements : List ℕ → ℕ → StatementTrees → List StatementTree
main_statements text at body =
    Declare (variables_tree (tokens_along text 35 variables_line))
    ∷ Declare (counter_tree (tokens_along text 65 counter_line))
    ∷ loop_tree (tokens_along text 74 loop_line) body (loop_end_tokens text at) ∷ output_tree (output_tokens text at)
    ∷ return_tree (return_tokens text at) ∷ []

-- the tree of a program with such statements
abbrev pub program_tree : List ℕ → List Drawn → List ItemTree
program_tree text ds =
    let at = end_of 86 (lines_pieces ds) in
    let body = lines_before text 86 ds (first (step_tree (step_tokens text at)) none) in
    Include (spot (tokens_along text 0 include_line) 0) Stdio
    ∷ Defines (main_tree (tokens_along text 19 main_line) (main_statements text at body) (main_end_tokens text at))
    ∷ []
