-- Parts of statements that hold no statement.
use Rattle.std.specs.Prelude.{ℕ, zero, suc, ◌+◌, Bool, true, false, ◌||◌, if◌then◌else◌, List, [], ◌∷◌, ◌++◌, Option, Some, None, Result, Ok}
use Rattle.std.specs.Option.{option_map_or}
use Rattle.c_token.specs.declared.token.Keyword.TheVariants as keyword
use Rattle.c_token.specs.declared.token.Punctuator.TheVariants as punctuator
use Rattle.c_token.specs.Lexemes.{Lexeme, Word}
use Rattle.c_token.specs.Lexemes as word
use Rattle.c_tree.specs.Expressions.{ExpressionTree}
use Rattle.c_tree.specs.Statements.{StartTree, StatementTree, LabelTree, CaseLabel, DefaultLabel}
use Rattle.c_tree.specs.Statements as tree
use Rattle.c_parse_expressions.specs.declared.expression.Sort.TheVariants as sort
use Rattle.c_parse_tokens.specs.declared.mark.Mark.{Mark}
use Rattle.c_parse_tokens.specs.declared.mark.Mark.TheVariants as mark
use Rattle.c_parse_tokens.specs.Outcome.{Parser, ◌>>=◌}
use Rattle.c_parse_tokens.specs.declared.fault.Stuck.{Stuck}
use Rattle.c_parse_tokens.specs.Front.{is_at, want, last_before, extent_before}
use Rattle.c_parse_tokens.specs.Operators.{begins_expression}
use Rattle.c_parse_tokens.specs.Specifiers.{begins_type}
use Rattle.c_parse_expressions.specs.Expressions.{Nesting, nested, conditional, comma, nesting}
use Rattle.c_parse_statements.specs.Declarations.{declaration}

-- a token that begins a statement and no expression
abbrev pub is_statement_word : Word → Bool
is_statement_word (word.Keyword keyword.If) = true
is_statement_word (word.Keyword keyword.While) = true
is_statement_word (word.Keyword keyword.Do) = true
is_statement_word (word.Keyword keyword.For) = true
is_statement_word (word.Keyword keyword.Switch) = true
is_statement_word (word.Keyword keyword.Case) = true
is_statement_word (word.Keyword keyword.Default) = true
is_statement_word (word.Keyword keyword.Break) = true
is_statement_word (word.Keyword keyword.Continue) = true
is_statement_word (word.Keyword keyword.Return) = true
is_statement_word (word.Punctuator punctuator.Semicolon) = true
is_statement_word (word.Punctuator punctuator.OpenBrace) = true
is_statement_word w = false

-- the first token begins a statement
unfoldable pub begins_statement : List Lexeme → Bool
begins_statement [] = false
begins_statement (t ∷ ts) = is_statement_word t.kind || begins_expression (t ∷ ts)

-- an expression in parentheses
unfoldable pub condition : Nesting → Parser ExpressionTree
condition nest ts =
    want mark.OpenParenthesis ts >>= λ its. nested nest sort.Comma its >>= λ e. want mark.CloseParenthesis e.1
    >>= λ rest. Ok (e.0, rest)

-- an expression, if the mark that ends it does not stand at the front
unfoldable pub optional : Nesting → (end : Mark) → Parser (Option ExpressionTree)
optional nest end ts = if is_at end ts then Ok (None, ts) else (comma nest ts >>= λ e. Ok (Some e.0, e.1))

-- what a for loop begins with where it declares nothing
abbrev pub start_of : Option ExpressionTree → StartTree
start_of None = tree.Nothing
start_of (Some e) = tree.Value e

-- the first part of a `for`, with its semicolon
unfoldable pub for_start : ℕ → Parser StartTree
for_start depth ts =
    if begins_type ts then (declaration depth ts >>= λ d. Ok (tree.Declares d.0, d.1))
    else
    (optional (nesting depth) mark.Semicolon ts >>= λ e. want mark.Semicolon e.1
    >>= λ rest. Ok (start_of e.0, rest))

-- the three parts of a `for`
pub record HeaderTree : Type 0 where
  pub start : StartTree
  pub condition : Option ExpressionTree
  pub step : Option ExpressionTree

-- the three parts of a `for`, up to its closing parenthesis
unfoldable pub for_header : ℕ → Parser HeaderTree
for_header depth ts =
    for_start depth ts >>= λ start. optional (nesting depth) mark.Semicolon start.1 >>= λ c. want mark.Semicolon c.1
    >>= λ rest.
    optional (nesting depth) mark.CloseParenthesis rest >>= λ step. Ok (
      record {
        start = start.0;
        condition = c.0;
        step = step.0;
      },
      step.1,
    )

-- the first token begins the first part of a `for`
unfoldable pub begins_header : List Lexeme → Bool
begins_header ts = is_at mark.Semicolon ts || (begins_type ts || begins_expression ts)

-- an expression and its semicolon
unfoldable pub expression_statement : Nesting → Parser StatementTree
expression_statement nest ts =
    comma nest ts >>= λ e. want mark.Semicolon e.1 >>= λ rest. Ok (tree.Run e.0 (last_before ts rest), rest)

-- a `return` that begins at the start, behind its word
unfoldable pub return_statement : Nesting → (start : List Lexeme) → Parser StatementTree
return_statement nest start ts =
    optional nest mark.Semicolon ts >>= λ e. want mark.Semicolon e.1
    >>= λ rest. Ok (tree.Return (extent_before start rest) e.0, rest)

-- a `break` that begins at the start, behind its word
abbrev pub break_statement : (start : List Lexeme) → Parser StatementTree
break_statement start ts = want mark.Semicolon ts >>= λ rest. Ok (tree.Break (extent_before start rest), rest)

-- a `continue` that begins at the start, behind its word
abbrev pub continue_statement : (start : List Lexeme) → Parser StatementTree
continue_statement start ts = want mark.Semicolon ts >>= λ rest. Ok (tree.Continue (extent_before start rest), rest)

-- a label, if one stands at the front
abbrev pub label_of : Nesting → Word → Lexeme → List Lexeme → Result (Option (LabelTree × List Lexeme)) Stuck
label_of nest (word.Keyword keyword.Case) t ts =
    conditional nest ts >>= λ e. want mark.Colon e.1
    >>= λ rest. Ok (Some (CaseLabel (extent_before (t ∷ ts) rest) e.0, rest))
label_of nest (word.Keyword keyword.Default) t ts =
    want mark.Colon ts >>= λ rest. Ok (Some (DefaultLabel (extent_before (t ∷ ts) rest), rest))
label_of nest w t ts = Ok None

-- a case or default label, if one stands in front (C11 6.8.1)
unfoldable pub label : Nesting → List Lexeme → Result (Option (LabelTree × List Lexeme)) Stuck
label nest [] = Ok None
label nest (t ∷ ts) = label_of nest t.kind t ts

-- more labels, behind those that were read; more than there are tokens are enough
abbrev pub labels : ℕ → Nesting → List LabelTree → Parser (List LabelTree)
labels zero nest done ts = Ok (done, ts)
labels (suc n) nest done ts =
    label nest ts >>= λ l. option_map_or (λ x. labels n nest (done ++ x.0 ∷ []) x.1) l (Ok (done, ts))
