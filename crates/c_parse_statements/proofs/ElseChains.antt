-- What an `if` with its `else`s makes of what was read.
use Rattle.std.proofs.Common.{◌≡◌, ℕ, zero, suc, ◌<◌, List, [], length, false, Option, Some, None, Result, Ok, Box, Vec, Global, refl, ap, sym, ◌∙◌, arith}
use Rattle.std.specs.Prelude.{map}
use Rattle.std.specs.Option.{option_map}
use Rattle.c_token.specs.Lexemes.{Lexeme}
use Rattle.c_tree.specs.declared.statement.Branch.{Branch}
use Rattle.c_tree.specs.declared.statement.Statement.{Statement}
use Rattle.c_tree.specs.declared.statement.Statement.TheOpen.{Statement-F}
use Rattle.c_tree.specs.declared.statement.Statement.TheFolds.{fold-roll-Statement}
use Rattle.c_tree.specs.declared.statement.Statement.TheVariants as statement
use Rattle.c_tree.specs.Statements.{StatementTree, BlockTree, BranchTree, if_tree, else_tree, statement_step, block_step, branch_step, statement_view, branch_view}
use Rattle.c_parse_tokens.specs.declared.fault.Stuck.{Stuck}
use Rattle.c_parse_tokens.specs.declared.mark.Mark.TheVariants as mark
use Rattle.c_parse_tokens.specs.Front.{tokens_behind, is_at}
use Rattle.c_parse_expressions.specs.Expressions.{Nesting}
use Rattle.c_parse_statements.specs.Statements.{StatementLevel, nested_statement, branch, else_from, if_statement}

-- an `if` begins with its first branch
pub if_begins : (nest : Nesting) (within : List StatementLevel) (ts : List Lexeme) (b : BranchTree) (rest : List Lexeme) → branch nest within ts ≡ Ok (b, rest)
    → if_statement nest within ts ≡ else_from (length rest) nest within b [] rest
unfolding if_statement
if_begins nest within ts b rest e = rw e refl

-- it ends with an `else` that is no `else if`
pub else_ends : (n : ℕ) (nest : Nesting) (within : List StatementLevel) (b : BranchTree) (done : List BranchTree) (s : StatementTree) (ts after rest : List Lexeme) (total : Result (StatementTree × List Lexeme) Stuck)
    → 0 < n → tokens_behind mark.Else ts ≡ Some after → is_at mark.If after ≡ false → nested_statement within false after ≡ Ok (s, rest) → total ≡ else_from n nest within b done ts
    → total ≡ Ok (if_tree b (else_tree done (Some s)), rest)
else_ends zero nest within b done s ts after rest total some at last read e = absurd (omega arith)
else_ends (suc n) nest within b done s ts after rest total some at last read e = e ∙ rw (at, last, read) refl

-- or without one
pub else_lacks : (n : ℕ) (nest : Nesting) (within : List StatementLevel) (b : BranchTree) (done : List BranchTree) (ts : List Lexeme) (total : Result (StatementTree × List Lexeme) Stuck)
    → tokens_behind mark.Else ts ≡ None → total ≡ else_from n nest within b done ts → total ≡ Ok (if_tree b (else_tree done None), ts)
else_lacks zero nest within b done ts total at e = e
else_lacks (suc n) nest within b done ts total at e = e ∙ rw at refl

-- the view of an `if` without an `else`
if_view : (b : Box Branch Global) (others : Vec Branch Global) → statement_view (statement.If b others None) ≡ if_tree (branch_view b.value) (else_tree (map branch_view others.items) None)
if_view b others =
    ap statement_view (sym (statement.rolls-If b others None)) ∙ fold-roll-Statement StatementTree BlockTree BranchTree statement_step block_step branch_step (Statement-F.If b others None)

-- the view of an `if` with one
if_else_view : (b : Box Branch Global) (others : Vec Branch Global) (last : Box Statement Global)
    → statement_view (statement.If b others (Some last)) ≡ if_tree (branch_view b.value) (else_tree (map branch_view others.items) (Some (statement_view last.value)))
if_else_view b others last =
    ap statement_view (sym (statement.rolls-If b others (Some last))) ∙ fold-roll-Statement StatementTree BlockTree BranchTree statement_step block_step branch_step (Statement-F.If b others (Some last))

-- the view of an `if` with or without one
pub chosen_view : (b : Box Branch Global) (others : Vec Branch Global) (otherwise : Option (Box Statement Global))
    → statement_view (statement.If b others otherwise) ≡ if_tree (branch_view b.value) (else_tree (map branch_view others.items) (option_map (λ s. statement_view s.value) otherwise))
chosen_view b others None = if_view b others
chosen_view b others (Some last) = if_else_view b others last
