-- What nests in expressions where one level less is left.
use Rattle.std.proofs.Common.{ℕ, List, Bool, Result, refl}
use Rattle.c_token.specs.Lexemes.{Lexeme}
use Rattle.c_parse_tokens.specs.declared.fault.ParseErr.{ParseErr}
use Rattle.c_parse_tokens.specs.Outcome.{Gives}
use Rattle.c_parse_tokens.specs.Front.{inside, one_less}
use Rattle.c_parse_tokens.proofs.Nesting.{levels_inside}
use Rattle.c_parse_expressions.specs.Expressions.{expression_of, nesting}

pub expressions_inside : (r : Result ℕ ParseErr) (depth : ℕ) (is_taken : Bool) (ts : List Lexeme) → Gives (λ less. less) r (one_less depth is_taken ts)
    → Gives nesting r (inside (nesting depth) is_taken ts)
unfolding nesting
expressions_inside r depth is_taken ts e = levels_inside nesting (λ n. expression_of (nesting n)) refl (λ n. refl) r depth is_taken ts e
