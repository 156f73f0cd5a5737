-- What nests in statements where one level less is left.
use Rattle.std.proofs.Common.{ℕ, List, Bool, Result, refl}
use Rattle.c_token.specs.Lexemes.{Lexeme}
use Rattle.c_parse_tokens.specs.declared.fault.ParseErr.{ParseErr}
use Rattle.c_parse_tokens.specs.Outcome.{Gives}
use Rattle.c_parse_tokens.specs.Front.{inside, one_less}
use Rattle.c_parse_tokens.proofs.Nesting.{levels_inside}
use Rattle.c_parse_statements.specs.Statements.{statement_of, statements}

pub statements_inside : (r : Result ℕ ParseErr) (depth : ℕ) (is_taken : Bool) (ts : List Lexeme) → Gives (λ less. less) r (one_less depth is_taken ts)
    → Gives statements r (inside (statements depth) is_taken ts)
unfolding statements
statements_inside r depth is_taken ts e = levels_inside statements (λ n. statement_of n (statements n)) refl (λ n. refl) r depth is_taken ts e
