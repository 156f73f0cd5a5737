-- The grammar of statements (ISO/IEC 9899:2011, 6.8 and A.2.3): the tokens of the first list, up to those of the
-- second, spell the tree.
use Rattle.std.specs.Prelude.{◌≡◌, ◌≢◌, Bool, true, false, List, [], ◌∷◌, Option, Some, None}
use Rattle.c_token.specs.declared.token.Keyword.TheVariants as keyword
use Rattle.c_token.specs.declared.token.Punctuator.{Punctuator}
use Rattle.c_token.specs.declared.token.Punctuator.TheVariants as punctuator
use Rattle.c_token.specs.Lexemes.{Lexeme}
use Rattle.c_token.specs.Lexemes as word
use Rattle.c_tree.specs.Expressions.{ExpressionTree}
use Rattle.c_tree.specs.Declarations.{DeclarationTree}
use Rattle.c_tree.specs.Statements.{StartTree, Nothing, Value, Declares, StatementTree, StatementTrees, Compound, Declare, Empty, Run, If, IfElse, While, DoWhile, For, Switch, Case, Default, Break, Continue, Return, none, first}
use Rattle.c_parse.specs.Tokens.{IsPunctuator, IsKeyword, from_to}
use Rattle.c_parse.specs.Expressions.{IsConditional, IsExpression}
use Rattle.c_parse.specs.Declarations.{IsDeclaration}

-- `( expression )`, as `if`, `while`, `do` and `switch` have it
pub data IsCondition : ExpressionTree → (tokens rest : List Lexeme) → Type 0 where
  condition : {opening closing : Lexeme} {e : ExpressionTree} {ts rest : List Lexeme}
      → IsPunctuator punctuator.OpenParenthesis opening → IsExpression e ts (closing ∷ rest)
      → IsPunctuator punctuator.CloseParenthesis closing → IsCondition e (opening ∷ ts) rest

-- an expression, or none, and the punctuator that ends it
pub data IsOptional (end : Punctuator) : Option ExpressionTree → (tokens rest : List Lexeme) → Type 0 where
  nothing : {t : Lexeme} {rest : List Lexeme} → IsPunctuator end t → IsOptional end None (t ∷ rest) rest
  something : {t : Lexeme} {e : ExpressionTree} {ts rest : List Lexeme} → IsExpression e ts (t ∷ rest)
      → IsPunctuator end t → IsOptional end (Some e) ts rest

-- the first part of a `for`: an expression or none and `;`, or a declaration
pub data IsStart : StartTree → (tokens rest : List Lexeme) → Type 0 where
  nothing_first : {ts rest : List Lexeme} → IsOptional punctuator.Semicolon None ts rest → IsStart Nothing ts rest
  value_first : {e : ExpressionTree} {ts rest : List Lexeme} → IsOptional punctuator.Semicolon (Some e) ts rest
      → IsStart (Value e) ts rest
  declaration_first : {d : DeclarationTree} {ts rest : List Lexeme} → IsDeclaration d ts rest
      → IsStart (Declares d) ts rest

-- the first token is no `else`
pub data IsNoElse : List Lexeme → Type 0 where
  at_end : IsNoElse []
  other : {t : Lexeme} {ts : List Lexeme} → t.kind ≢ word.Keyword keyword.Else → IsNoElse (t ∷ ts)

mutual
  -- statement (6.8)
  pub data IsStatement : StatementTree → (tokens rest : List Lexeme) → Type 0 where
    -- labeled-statement (6.8.1): `case constant-expression :` or `default :` and a statement
    case : {t colon : Lexeme} {e : ExpressionTree} {s : StatementTree} {ts mid rest : List Lexeme}
        → IsKeyword keyword.Case t → IsConditional e ts (colon ∷ mid)
        → IsPunctuator punctuator.Colon colon → IsStatement s mid rest
        → IsStatement (Case (from_to t colon) e s) (t ∷ ts) rest
    default : {t colon : Lexeme} {s : StatementTree} {ts rest : List Lexeme} → IsKeyword keyword.Default t
        → IsPunctuator punctuator.Colon colon → IsStatement s ts rest
        → IsStatement (Default (from_to t colon) s) (t ∷ colon ∷ ts) rest
    -- compound-statement (6.8.2): `{`, statements and declarations, `}`
    compound : {opening closing : Lexeme} {all : StatementTrees} {ts rest : List Lexeme}
        → IsPunctuator punctuator.OpenBrace opening → AreStatements true all ts (closing ∷ rest)
        → IsPunctuator punctuator.CloseBrace closing
        → IsStatement (Compound opening.spot all closing.spot) (opening ∷ ts) rest
    -- expression-statement (6.8.3): `;`, or an expression and `;`
    empty : {t : Lexeme} {rest : List Lexeme} → IsPunctuator punctuator.Semicolon t
        → IsStatement (Empty t.spot) (t ∷ rest) rest
    run : {t : Lexeme} {e : ExpressionTree} {ts rest : List Lexeme} → IsExpression e ts (t ∷ rest)
        → IsPunctuator punctuator.Semicolon t
        → IsStatement (Run e t.spot.at) ts rest
    -- selection-statement (6.8.4): `if ( expression ) statement`, behind which no `else` stands (6.8.4.1p3); the same
    -- with `else statement`; `switch ( expression )` and a block, in which no declaration stands
    if : {t : Lexeme} {c : ExpressionTree} {s : StatementTree} {ts mid rest : List Lexeme} → IsKeyword keyword.If t
        → IsCondition c ts mid → IsStatement s mid rest
        → IsNoElse rest → IsStatement (If t.spot c s) (t ∷ ts) rest
    if_else : {t u : Lexeme} {c : ExpressionTree} {s r : StatementTree} {ts mid more rest : List Lexeme}
        → IsKeyword keyword.If t → IsCondition c ts mid
        → IsStatement s mid (u ∷ more) → IsKeyword keyword.Else u → IsStatement r more rest
        → IsStatement (IfElse t.spot c s r) (t ∷ ts) rest
    switch : {t opening closing : Lexeme} {e : ExpressionTree} {all : StatementTrees} {ts mid rest : List Lexeme}
        → IsKeyword keyword.Switch t → IsCondition e ts (opening ∷ mid)
        → IsPunctuator punctuator.OpenBrace opening → AreStatements false all mid (closing ∷ rest)
        → IsPunctuator punctuator.CloseBrace closing
        → IsStatement (Switch t.spot e opening.spot all closing.spot) (t ∷ ts) rest
    -- iteration-statement (6.8.5): `while ( expression ) statement`; `do statement while ( expression ) ;`; `for ( .. ;
    -- .. ; .. ) statement`
    while : {t : Lexeme} {c : ExpressionTree} {s : StatementTree} {ts mid rest : List Lexeme}
        → IsKeyword keyword.While t → IsCondition c ts mid → IsStatement s mid rest
        → IsStatement (While t.spot c s) (t ∷ ts) rest
    do_while : {t u end : Lexeme} {c : ExpressionTree} {s : StatementTree} {ts mid rest : List Lexeme}
        → IsKeyword keyword.Do t → IsStatement s ts (u ∷ mid)
        → IsKeyword keyword.While u → IsCondition c mid (end ∷ rest) → IsPunctuator punctuator.Semicolon end
        → IsStatement (DoWhile (from_to t end) s c) (t ∷ ts) rest
    for : {t opening : Lexeme} {start : StartTree} {c step : Option ExpressionTree} {s : StatementTree}
        {ts its more mid rest : List Lexeme}
        → IsKeyword keyword.For t
        → IsPunctuator punctuator.OpenParenthesis opening → IsStart start ts its
        → IsOptional punctuator.Semicolon c its more → IsOptional punctuator.CloseParenthesis step more mid
        → IsStatement s mid rest → IsStatement (For t.spot start c step s) (t ∷ opening ∷ ts) rest
    -- jump-statement (6.8.6): `break ;`, `continue ;`, `return ;` or `return expression ;`
    break : {t end : Lexeme} {rest : List Lexeme} → IsKeyword keyword.Break t → IsPunctuator punctuator.Semicolon end
        → IsStatement (Break (from_to t end)) (t ∷ end ∷ rest) rest
    continue : {t end : Lexeme} {rest : List Lexeme} → IsKeyword keyword.Continue t
        → IsPunctuator punctuator.Semicolon end
        → IsStatement (Continue (from_to t end)) (t ∷ end ∷ rest) rest
    return : {t end : Lexeme} {rest : List Lexeme} → IsKeyword keyword.Return t → IsPunctuator punctuator.Semicolon end
        → IsStatement (Return (from_to t end) None) (t ∷ end ∷ rest) rest
    return_value : {t end : Lexeme} {e : ExpressionTree} {ts rest : List Lexeme} → IsKeyword keyword.Return t
        → IsExpression e ts (end ∷ rest)
        → IsPunctuator punctuator.Semicolon end → IsStatement (Return (from_to t end) (Some e)) (t ∷ ts) rest

  -- block-item-list: statements one behind the other, and declarations where they may stand
  pub data AreStatements : (may_declare : Bool) → StatementTrees → (tokens rest : List Lexeme) → Type 0 where
    no_statement : {may_declare : Bool} {rest : List Lexeme} → AreStatements may_declare none rest rest
    statement : {may_declare : Bool} {s : StatementTree} {all : StatementTrees} {ts mid rest : List Lexeme}
        → IsStatement s ts mid → AreStatements may_declare all mid rest
        → AreStatements may_declare (first s all) ts rest
    declares : {may_declare : Bool} {d : DeclarationTree} {all : StatementTrees} {ts mid rest : List Lexeme}
        → may_declare ≡ true → IsDeclaration d ts mid → AreStatements may_declare all mid rest
        → AreStatements may_declare (first (Declare d) all) ts rest
