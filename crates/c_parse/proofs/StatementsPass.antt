-- A statement is spelled by the tokens before others.
use Rattle.std.proofs.Common.{Bool, List, Option}
use Rattle.c_token.specs.declared.token.Punctuator.{Punctuator}
use Rattle.c_token.specs.Lexemes.{Lexeme}
use Rattle.c_tree.specs.Expressions.{ExpressionTree}
use Rattle.c_tree.specs.Statements.{StartTree, StatementTree, StatementTrees}
use Rattle.c_parse.specs.Statements.{IsCondition, condition, IsOptional, nothing, something, IsStart, nothing_first, value_first, declaration_first, IsStatement, AreStatements}
use Rattle.c_parse.specs.Statements as grammar
use Rattle.c_parse.proofs.Passing.{Passes, here, behind, join, step}
use Rattle.c_parse.proofs.ExpressionsPass.{conditional_passes, expression_passes}
use Rattle.c_parse.proofs.DeclarationsPass.{declaration_passes}

pub condition_passes : {e : ExpressionTree} {ts rest : List Lexeme} → IsCondition e ts rest → Passes ts rest
condition_passes (condition o e c) = behind (step (expression_passes e))

pub optional_passes : {end : Punctuator} {o : Option ExpressionTree} {ts rest : List Lexeme} → IsOptional end o ts rest → Passes ts rest
optional_passes (nothing k) = behind here
optional_passes (something e k) = step (expression_passes e)

pub start_passes : {start : StartTree} {ts rest : List Lexeme} → IsStart start ts rest → Passes ts rest
start_passes (nothing_first o) = optional_passes o
start_passes (value_first o) = optional_passes o
start_passes (declaration_first d) = declaration_passes d

mutual
  pub statement_passes : {s : StatementTree} {ts rest : List Lexeme} → IsStatement s ts rest → Passes ts rest
  statement_passes (grammar.case k e c s) = behind (join (step (conditional_passes e)) (statement_passes s))
  statement_passes (grammar.default k c s) = behind (behind (statement_passes s))
  statement_passes (grammar.compound o all c) = behind (step (statements_pass all))
  statement_passes (grammar.empty k) = behind here
  statement_passes (grammar.run e k) = step (expression_passes e)
  statement_passes (grammar.if k c s n) = behind (join (condition_passes c) (statement_passes s))
  statement_passes (grammar.if_else k c s e r) = behind (join (condition_passes c) (join (step (statement_passes s)) (statement_passes r)))
  statement_passes (grammar.switch k e o all c) = behind (join (step (condition_passes e)) (step (statements_pass all)))
  statement_passes (grammar.while k c s) = behind (join (condition_passes c) (statement_passes s))
  statement_passes (grammar.do_while k s w c e) = behind (join (step (statement_passes s)) (step (condition_passes c)))
  statement_passes (grammar.for k o start c t s) = behind (behind (join (start_passes start) (join (optional_passes c) (join (optional_passes t) (statement_passes s)))))
  statement_passes (grammar.break k e) = behind (behind here)
  statement_passes (grammar.continue k e) = behind (behind here)
  statement_passes (grammar.return k e) = behind (behind here)
  statement_passes (grammar.return_value k e c) = behind (step (expression_passes e))

  pub statements_pass : {may_declare : Bool} {all : StatementTrees} {ts rest : List Lexeme} → AreStatements may_declare all ts rest → Passes ts rest
  statements_pass grammar.no_statement = here
  statements_pass (grammar.statement s all) = join (statement_passes s) (statements_pass all)
  statements_pass (grammar.declares m d all) = join (declaration_passes d) (statements_pass all)
