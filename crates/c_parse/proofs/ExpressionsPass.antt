-- An expression is spelled by the tokens before others.
use Rattle.std.proofs.Common.{ℕ, List}
use Rattle.c_token.specs.Lexemes.{Lexeme}
use Rattle.c_tree.specs.declared.types.TypeName.{TypeName}
use Rattle.c_tree.specs.Expressions.{ExpressionTree}
use Rattle.c_parse_tokens.specs.declared.specifier.Place.{Place}
use Rattle.c_parse_tokens.specs.declared.specifier.SpecifierList.{SpecifierList}
use Rattle.c_parse.specs.Types.{AreSpecifiers, none, more, AreStars, no_star, star, IsTypeName, nothing, integer}
use Rattle.c_parse.specs.Expressions.{IsPrimary, IsPostfix, AreArguments, IsUnary, IsCast, IsLevel, IsConditional, IsAssignment, IsExpression}
use Rattle.c_parse.specs.Expressions as grammar
use Rattle.c_parse.proofs.Passing.{Passes, here, behind, join, step, literals_pass}

pub specifiers_pass : {p : Place} {before all : SpecifierList} {ts rest : List Lexeme} → AreSpecifiers p before all ts rest → Passes ts rest
specifiers_pass none = here
specifiers_pass (more k w s) = behind (specifiers_pass s)

pub stars_pass : {count : ℕ} {ts rest : List Lexeme} → AreStars count ts rest → Passes ts rest
stars_pass no_star = here
stars_pass (star k s) = behind (stars_pass s)

pub type_name_passes : {n : TypeName} {ts rest : List Lexeme} → IsTypeName n ts rest → Passes ts rest
type_name_passes (nothing s v) = specifiers_pass s.words
type_name_passes (integer s v c) = join (specifiers_pass s.words) (stars_pass c)

mutual
  pub primary_passes : {e : ExpressionTree} {ts rest : List Lexeme} → IsPrimary e ts rest → Passes ts rest
  primary_passes (grammar.name k) = behind here
  primary_passes (grammar.constant k) = behind here
  primary_passes (grammar.literals l) = step (literals_pass l)
  primary_passes (grammar.parenthesized o e c) = behind (step (expression_passes e))

  pub postfix_passes : {e : ExpressionTree} {ts rest : List Lexeme} → IsPostfix e ts rest → Passes ts rest
  postfix_passes (grammar.primary p) = primary_passes p
  postfix_passes (grammar.index e o i c) = join (step (postfix_passes e)) (step (expression_passes i))
  postfix_passes (grammar.call e o a c) = join (step (postfix_passes e)) (step (arguments_pass a))
  postfix_passes (grammar.call_of_none e o c) = step (step (postfix_passes e))
  postfix_passes (grammar.post_increment e k) = step (postfix_passes e)
  postfix_passes (grammar.post_decrement e k) = step (postfix_passes e)

  pub arguments_pass : {es : List ExpressionTree} {ts rest : List Lexeme} → AreArguments es ts rest → Passes ts rest
  arguments_pass (grammar.one e) = assignment_passes e
  arguments_pass (grammar.more es k e) = join (step (arguments_pass es)) (assignment_passes e)

  pub unary_passes : {e : ExpressionTree} {ts rest : List Lexeme} → IsUnary e ts rest → Passes ts rest
  unary_passes (grammar.postfix e) = postfix_passes e
  unary_passes (grammar.increment k e) = behind (unary_passes e)
  unary_passes (grammar.decrement k e) = behind (unary_passes e)
  unary_passes (grammar.operator k o e) = behind (cast_passes e)
  unary_passes (grammar.size_of_expression k e) = behind (unary_passes e)
  unary_passes (grammar.size_of_type k o s n c) = behind (behind (step (join (specifiers_pass s.words) (stars_pass n))))
  unary_passes (grammar.size_of_array k o s n b e d c) = behind (behind (join (step (join (specifiers_pass s.words) (stars_pass n))) (step (step (assignment_passes e)))))

  pub cast_passes : {e : ExpressionTree} {ts rest : List Lexeme} → IsCast e ts rest → Passes ts rest
  cast_passes (grammar.unary e) = unary_passes e
  cast_passes (grammar.cast o n c e) = behind (join (step (type_name_passes n)) (cast_passes e))

  pub level_passes : {level : ℕ} {e : ExpressionTree} {ts rest : List Lexeme} → IsLevel level e ts rest → Passes ts rest
  level_passes (grammar.lowest e) = cast_passes e
  level_passes (grammar.below e) = level_passes e
  level_passes (grammar.operation a k o b) = join (step (level_passes a)) (level_passes b)

  pub conditional_passes : {e : ExpressionTree} {ts rest : List Lexeme} → IsConditional e ts rest → Passes ts rest
  conditional_passes (grammar.level e) = level_passes e
  conditional_passes (grammar.choice c q a k b) = join (step (level_passes c)) (join (step (expression_passes a)) (conditional_passes b))

  pub assignment_passes : {e : ExpressionTree} {ts rest : List Lexeme} → IsAssignment e ts rest → Passes ts rest
  assignment_passes (grammar.conditional e) = conditional_passes e
  assignment_passes (grammar.assigns a k o b) = join (step (conditional_passes a)) (assignment_passes b)

  pub expression_passes : {e : ExpressionTree} {ts rest : List Lexeme} → IsExpression e ts rest → Passes ts rest
  expression_passes (grammar.assignment e) = assignment_passes e
  expression_passes (grammar.comma a k b) = join (step (expression_passes a)) (assignment_passes b)
