-- The grammar of expressions (ISO/IEC 9899:2011, 6.5 and A.2.1): the tokens of the first list, up to those of the
-- second, spell the tree.
use Rattle.std.specs.Prelude.{◌≡◌, ℕ, suc, List, [], ◌∷◌, ◌++◌, Some}
use Rattle.c_token.specs.declared.token.Keyword.TheVariants as keyword
use Rattle.c_token.specs.declared.token.Punctuator.{Punctuator}
use Rattle.c_token.specs.declared.token.Punctuator.TheVariants as punctuator
use Rattle.c_token.specs.declared.token.Constant as token
use Rattle.c_token.specs.Lexemes.{Lexeme}
use Rattle.c_token.specs.Lexemes as word
use Rattle.c_tree.specs.declared.operator.BinaryOperator.{BinaryOperator}
use Rattle.c_tree.specs.declared.operator.AssignmentOperator.{AssignmentOperator}
use Rattle.c_tree.specs.declared.operator.PrefixOperator.{PrefixOperator}
use Rattle.c_tree.specs.declared.operator.PrefixOperator.TheVariants as prefix
use Rattle.c_tree.specs.declared.types.TypeName.{TypeName}
use Rattle.c_tree.specs.Expressions.{ExpressionTree, Name, Constant, Literal, Parenthesized, Index, Call, PostIncrement, PostDecrement, Prefix, Cast, SizeofExpression, SizeofType, SizeofArray, Binary, Conditional, Assignment, Comma, chain_of_arguments}
use Rattle.c_parse_tokens.specs.declared.specifier.Place.TheVariants as place
use Rattle.c_parse_tokens.specs.declared.specifier.SpecifierList.{SpecifierList}
use Rattle.c_parse_tokens.specs.Operators.{binary_operator, assignment_operator}
use Rattle.c_parse_tokens.specs.Specifiers.{integer_type}
use Rattle.c_parse_expressions.specs.Expressions.{constant_type}
use Rattle.c_parse.specs.Tokens.{IsPunctuator, IsKeyword, from_to, AreLiterals}
use Rattle.c_parse.specs.Types.{Specify, AreStars, IsTypeName}

-- unary-operator: one of `& * + - ~ !` (6.5.3)
pub data IsUnaryOperator : PrefixOperator → Punctuator → Type 0 where
  address : IsUnaryOperator prefix.AddressOf punctuator.Ampersand
  indirection : IsUnaryOperator prefix.Indirection punctuator.Star
  plus : IsUnaryOperator prefix.Plus punctuator.Plus
  minus : IsUnaryOperator prefix.Minus punctuator.Minus
  complement : IsUnaryOperator prefix.Complement punctuator.Tilde
  not : IsUnaryOperator prefix.Not punctuator.Exclamation

mutual
  -- primary-expression (6.5.1): a name, a constant, string literals, or `( expression )`
  pub data IsPrimary : ExpressionTree → (tokens rest : List Lexeme) → Type 0 where
    name : {t : Lexeme} {n : List ℕ} {rest : List Lexeme} → t.kind ≡ word.Name n → IsPrimary (Name (record {
      name = n;
      spot = t.spot;
    })) (t ∷ rest) rest
    constant : {t : Lexeme} {c : token.Constant} {rest : List Lexeme} → t.kind ≡ word.Constant c
        → IsPrimary (Constant t.spot c.value (constant_type c.is_long c.is_unsigned)) (t ∷ rest) rest
    literals : {t last : Lexeme} {bytes : List ℕ} {ts rest : List Lexeme} → AreLiterals bytes last (t ∷ ts) rest
        → IsPrimary (Literal (from_to t last) bytes) (t ∷ ts) rest
    parenthesized : {opening closing : Lexeme} {e : ExpressionTree} {ts rest : List Lexeme}
        → IsPunctuator punctuator.OpenParenthesis opening
        → IsExpression e ts (closing ∷ rest) → IsPunctuator punctuator.CloseParenthesis closing
        → IsPrimary (Parenthesized (from_to opening closing) e) (opening ∷ ts) rest

  -- postfix-expression (6.5.2): a primary expression, or one of these with `[ expression ]`, `( arguments )`, `( )`,
  -- `++` or `--` behind it
  pub data IsPostfix : ExpressionTree → (tokens rest : List Lexeme) → Type 0 where
    primary : {e : ExpressionTree} {ts rest : List Lexeme} → IsPrimary e ts rest → IsPostfix e ts rest
    index : {opening closing : Lexeme} {e i : ExpressionTree} {ts mid rest : List Lexeme}
        → IsPostfix e ts (opening ∷ mid) → IsPunctuator punctuator.OpenBracket opening
        → IsExpression i mid (closing ∷ rest) → IsPunctuator punctuator.CloseBracket closing
        → IsPostfix (Index e i closing.spot.at) ts rest
    call : {opening closing : Lexeme} {e : ExpressionTree} {es : List ExpressionTree} {ts mid rest : List Lexeme}
        → IsPostfix e ts (opening ∷ mid)
        → IsPunctuator punctuator.OpenParenthesis opening → AreArguments es mid (closing ∷ rest)
        → IsPunctuator punctuator.CloseParenthesis closing
        → IsPostfix (Call e (chain_of_arguments es) closing.spot.at) ts rest
    call_of_none : {opening closing : Lexeme} {e : ExpressionTree} {ts rest : List Lexeme}
        → IsPostfix e ts (opening ∷ closing ∷ rest)
        → IsPunctuator punctuator.OpenParenthesis opening → IsPunctuator punctuator.CloseParenthesis closing
        → IsPostfix (Call e (chain_of_arguments []) closing.spot.at) ts rest
    post_increment : {t : Lexeme} {e : ExpressionTree} {ts rest : List Lexeme} → IsPostfix e ts (t ∷ rest)
        → IsPunctuator punctuator.Increment t
        → IsPostfix (PostIncrement e t.spot.at) ts rest
    post_decrement : {t : Lexeme} {e : ExpressionTree} {ts rest : List Lexeme} → IsPostfix e ts (t ∷ rest)
        → IsPunctuator punctuator.Decrement t
        → IsPostfix (PostDecrement e t.spot.at) ts rest

  -- argument-expression-list: an assignment expression, or such a list, `,` and an assignment expression
  pub data AreArguments : List ExpressionTree → (tokens rest : List Lexeme) → Type 0 where
    one : {e : ExpressionTree} {ts rest : List Lexeme} → IsAssignment e ts rest → AreArguments (e ∷ []) ts rest
    more : {t : Lexeme} {es : List ExpressionTree} {e : ExpressionTree} {ts mid rest : List Lexeme}
        → AreArguments es ts (t ∷ mid) → IsPunctuator punctuator.Comma t
        → IsAssignment e mid rest → AreArguments (es ++ e ∷ []) ts rest

  -- unary-expression (6.5.3): a postfix expression; `++` or `--` and a unary expression; a unary operator and a cast
  -- expression; `sizeof` and a unary expression; `sizeof ( type )`, where the type may be that of an array
  pub data IsUnary : ExpressionTree → (tokens rest : List Lexeme) → Type 0 where
    postfix : {e : ExpressionTree} {ts rest : List Lexeme} → IsPostfix e ts rest → IsUnary e ts rest
    increment : {t : Lexeme} {e : ExpressionTree} {ts rest : List Lexeme} → IsPunctuator punctuator.Increment t
        → IsUnary e ts rest
        → IsUnary (Prefix t.spot prefix.Increment e) (t ∷ ts) rest
    decrement : {t : Lexeme} {e : ExpressionTree} {ts rest : List Lexeme} → IsPunctuator punctuator.Decrement t
        → IsUnary e ts rest
        → IsUnary (Prefix t.spot prefix.Decrement e) (t ∷ ts) rest
    operator : {t : Lexeme} {o : PrefixOperator} {p : Punctuator} {e : ExpressionTree} {ts rest : List Lexeme}
        → IsPunctuator p t → IsUnaryOperator o p → IsCast e ts rest
        → IsUnary (Prefix t.spot o e) (t ∷ ts) rest
    size_of_expression : {t : Lexeme} {e : ExpressionTree} {ts rest : List Lexeme} → IsKeyword keyword.Sizeof t
        → IsUnary e ts rest
        → IsUnary (SizeofExpression t.spot e) (t ∷ ts) rest
    size_of_type : {t opening closing : Lexeme} {found : SpecifierList} {count : ℕ} {ts mid rest : List Lexeme}
        → IsKeyword keyword.Sizeof t
        → IsPunctuator punctuator.OpenParenthesis opening → Specify place.Object found ts mid
        → AreStars count mid (closing ∷ rest) → IsPunctuator punctuator.CloseParenthesis closing
        → IsUnary (SizeofType (from_to t closing) (integer_type found) count) (t ∷ opening ∷ ts) rest
    size_of_array : {t opening begin end closing : Lexeme} {found : SpecifierList} {count : ℕ} {e : ExpressionTree}
        {ts mid its rest : List Lexeme}
        → IsKeyword keyword.Sizeof t
        → IsPunctuator punctuator.OpenParenthesis opening → Specify place.Object found ts mid
        → AreStars count mid (begin ∷ its) → IsPunctuator punctuator.OpenBracket begin
        → IsAssignment e its (end ∷ closing ∷ rest) → IsPunctuator punctuator.CloseBracket end
        → IsPunctuator punctuator.CloseParenthesis closing
        → IsUnary (SizeofArray (from_to t closing) (integer_type found) count e) (t ∷ opening ∷ ts) rest

  -- cast-expression (6.5.4): a unary expression, or `( type-name )` and a cast expression
  pub data IsCast : ExpressionTree → (tokens rest : List Lexeme) → Type 0 where
    unary : {e : ExpressionTree} {ts rest : List Lexeme} → IsUnary e ts rest → IsCast e ts rest
    cast : {opening closing : Lexeme} {n : TypeName} {e : ExpressionTree} {ts mid rest : List Lexeme}
        → IsPunctuator punctuator.OpenParenthesis opening
        → IsTypeName n ts (closing ∷ mid) → IsPunctuator punctuator.CloseParenthesis closing → IsCast e mid rest
        → IsCast (Cast opening.spot n e) (opening ∷ ts) rest

  -- the ten levels of operators between two operands, over cast expressions (6.5.5 to 6.5.14): 1 multiplicative, 2
  -- additive, 3 shift, 4 relational, 5 equality, 6 AND, 7 exclusive OR, 8 inclusive OR, 9 logical AND, 10 logical OR.
  -- An expression of a level is one of the level below, or an expression of the level, one of its operators and an
  -- expression of the level below
  pub data IsLevel : ℕ → ExpressionTree → (tokens rest : List Lexeme) → Type 0 where
    lowest : {e : ExpressionTree} {ts rest : List Lexeme} → IsCast e ts rest → IsLevel 0 e ts rest
    below : {level : ℕ} {e : ExpressionTree} {ts rest : List Lexeme} → IsLevel level e ts rest
        → IsLevel (suc level) e ts rest
    operation : {level : ℕ} {t : Lexeme} {p : Punctuator} {o : BinaryOperator} {left right : ExpressionTree}
        {ts mid rest : List Lexeme}
        → IsLevel (suc level) left ts (t ∷ mid)
        → IsPunctuator p t → binary_operator p ≡ Some (suc level, o) → IsLevel level right mid rest
        → IsLevel (suc level) (Binary o left right) ts rest

  -- conditional-expression (6.5.15): a logical OR expression, or one with `? expression : conditional-expression`
  -- behind it
  pub data IsConditional : ExpressionTree → (tokens rest : List Lexeme) → Type 0 where
    level : {e : ExpressionTree} {ts rest : List Lexeme} → IsLevel 10 e ts rest → IsConditional e ts rest
    choice : {t u : Lexeme} {c a b : ExpressionTree} {ts its more rest : List Lexeme} → IsLevel 10 c ts (t ∷ its)
        → IsPunctuator punctuator.Question t
        → IsExpression a its (u ∷ more) → IsPunctuator punctuator.Colon u → IsConditional b more rest
        → IsConditional (Conditional c a b) ts rest

  -- assignment-expression (6.5.16): a conditional expression, or one, an operator that assigns and an assignment
  -- expression. What stands to the left is a unary expression in the standard's grammar; others have a tree here, and a
  -- constraint refuses them (6.5.16p2)
  pub data IsAssignment : ExpressionTree → (tokens rest : List Lexeme) → Type 0 where
    conditional : {e : ExpressionTree} {ts rest : List Lexeme} → IsConditional e ts rest → IsAssignment e ts rest
    assigns : {t : Lexeme} {p : Punctuator} {o : AssignmentOperator} {target value : ExpressionTree}
        {ts mid rest : List Lexeme}
        → IsConditional target ts (t ∷ mid)
        → IsPunctuator p t → assignment_operator p ≡ Some o → IsAssignment value mid rest
        → IsAssignment (Assignment o target value) ts rest

  -- expression (6.5.17): an assignment expression, or an expression, `,` and an assignment expression
  pub data IsExpression : ExpressionTree → (tokens rest : List Lexeme) → Type 0 where
    assignment : {e : ExpressionTree} {ts rest : List Lexeme} → IsAssignment e ts rest → IsExpression e ts rest
    comma : {t : Lexeme} {left right : ExpressionTree} {ts mid rest : List Lexeme} → IsExpression left ts (t ∷ mid)
        → IsPunctuator punctuator.Comma t
        → IsAssignment right mid rest → IsExpression (Comma left right) ts rest
