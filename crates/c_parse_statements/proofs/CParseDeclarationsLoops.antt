-- One more part of what a loop reads; j and k count the tokens before and behind it.
use Rattle.std.proofs.Common.{◌≡◌, ℕ, zero, suc, ◌<◌, ◌≤◌, List, [], ◌∷◌, ◌++◌, false, Option, Some, Result, Ok, refl, ◌∙◌, arith}
use Rattle.c_token.specs.Lexemes.{Lexeme}
use Rattle.c_tree.specs.Declarations.{InitializerTree}
use Rattle.c_parse_tokens.specs.declared.fault.Stuck.{Stuck}
use Rattle.c_parse_tokens.specs.declared.mark.Mark.TheVariants as mark
use Rattle.c_parse_tokens.specs.Outcome.{Parser}
use Rattle.c_parse_tokens.specs.Front.{tokens_behind, is_at}
use Rattle.c_parse_statements.specs.Declarations.{nested_initializer, more_in_braces}

pub braces_go_on : (n j k : ℕ) (within : Option (Parser InitializerTree)) (done : List InitializerTree) (x : InitializerTree) (ts after rest : List Lexeme) (total : Result (List InitializerTree × List Lexeme) Stuck)
    → k < j → j ≤ n → tokens_behind mark.Comma ts ≡ Some after → is_at mark.CloseBrace after ≡ false → nested_initializer within after ≡ Ok (x, rest)
    → total ≡ more_in_braces n within done ts
    → (m : ℕ) × (k ≤ m) × (total ≡ more_in_braces m within (done ++ x ∷ []) rest)
braces_go_on zero j k within done x ts after rest total lt le at closed read e = absurd (omega arith)
braces_go_on (suc n) j k within done x ts after rest total lt le at closed read e = (n, omega arith, e ∙ rw (at, closed, read) refl)
