-- One more part of what a loop reads; j and k count the tokens before and behind it.
use Rattle.std.proofs.Common.{◌≡◌, ℕ, zero, suc, ◌<◌, ◌≤◌, List, [], ◌∷◌, ◌++◌, Bool, true, Some, None, Result, Ok, refl, ◌∙◌, arith}
use Rattle.debug_records.specs.declared.source.Spot.{Spot}
use Rattle.c_token.specs.Lexemes.{Lexeme}
use Rattle.c_tree.specs.Statements.{StatementTree, BlockTree, BranchTree}
use Rattle.c_parse_tokens.specs.declared.fault.Stuck.{Stuck}
use Rattle.c_parse_tokens.specs.declared.mark.Mark.TheVariants as mark
use Rattle.c_parse_tokens.specs.Front.{tokens_behind, is_at}
use Rattle.c_parse_expressions.specs.Expressions.{Nesting}
use Rattle.c_parse_statements.specs.Statements.{StatementLevel, nested_statement, statements_from, branch, else_from}

pub block_goes_on : (n j k : ℕ) (within : List StatementLevel) (may_declare : Bool) (opening : Spot) (done : List StatementTree) (s : StatementTree) (ts rest : List Lexeme) (total : Result (BlockTree × List Lexeme) Stuck)
    → k < j → j < n → tokens_behind mark.CloseBrace ts ≡ None → nested_statement within may_declare ts ≡ Ok (s, rest) → total ≡ statements_from n within may_declare opening done ts
    → (m : ℕ) × (k < m) × (total ≡ statements_from m within may_declare opening (done ++ s ∷ []) rest)
block_goes_on zero j k within may_declare opening done s ts rest total lt le closed read e = absurd (omega arith)
block_goes_on (suc n) j k within may_declare opening done s ts rest total lt le closed read e = (n, omega arith, e ∙ rw (closed, read) refl)

pub else_goes_on : (n j k : ℕ) (nest : Nesting) (within : List StatementLevel) (b : BranchTree) (done : List BranchTree) (x : BranchTree) (ts after rest : List Lexeme) (total : Result (StatementTree × List Lexeme) Stuck)
    → k < j → j ≤ n → tokens_behind mark.Else ts ≡ Some after → is_at mark.If after ≡ true → branch nest within after ≡ Ok (x, rest) → total ≡ else_from n nest within b done ts
    → (m : ℕ) × (k ≤ m) × (total ≡ else_from m nest within b (done ++ x ∷ []) rest)
else_goes_on zero j k nest within b done x ts after rest total lt le at chained read e = absurd (omega arith)
else_goes_on (suc n) j k nest within b done x ts after rest total lt le at chained read e = (n, omega arith, e ∙ rw (at, chained, read) refl)
