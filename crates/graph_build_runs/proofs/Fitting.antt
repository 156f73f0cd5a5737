-- What is asked of statements beside their types comes down to where names, arrays and literals stand.
use Rattle.std.proofs.Common.{◌≡◌, ℕ, ◌+◌, ◌≤◌, List, [], ◌∷◌, Option, Some, None, Bool, true}
use Rattle.c_tree.specs.declared.types.IntegerType.{IntegerType}
use Rattle.c_tree.specs.TypedStatements as statement
use Rattle.c_tree.specs.TypedStatements.{DeclaredTree, TypedStartTree, Nothing, Value, Declares, TypedStatementTree, Block, Declaration, Empty, Run, If, IfElse, While, DoWhile, For, Switch, Break, Continue, Return, TypedStatementTrees, case, default}
use Rattle.c_type_laws.specs.Kinds.{is_scalar}
use Rattle.c_type_laws.specs.Expressions.{kind_of}
use Rattle.c_type_laws.specs.Statements.{tested_type, is_label, is_switch, may_stand, is_declared, are_declared, is_start, is_step, is_condition, is_statement, are_statements}
use Rattle.c_meaning_values.specs.Memory.{Memory as SourceMemory}
use Rattle.c_flow.specs.Flow.{start_place}
use Rattle.graph_build_runs.proofs.Moving.{AreSmall}
use Rattle.graph_build_runs.proofs.Shapes.{two_true, three_true, four_true}
use Rattle.graph_build_runs.proofs.Coding.{LaidOut}
use Rattle.graph_build_runs.proofs.Activities.{Activity, placed}
use Rattle.graph_build_runs.proofs.Outcomes.{There}
use Rattle.graph_build_runs.proofs.Stops.{Lawful}
use Rattle.graph_build_runs.proofs.Formed.{IsPlain, ArePlain, behind_start, behind}
use Rattle.graph_build_runs.proofs.Forming.{LaidAt, LaidIn, StepFits, DeclaratorsFit, StartFits, StatementFits, StatementsFit}
use Rattle.graph_build_runs.proofs.Calls.{CallsGood}
use Rattle.graph_build_runs.proofs.DeclaratorKinds.{DeclaratorStands, declarator_does}

-- Declarators stand, each of a variable above those before it.
abbrev pub DeclaratorsStand : Activity → (low : ℕ) → List DeclaredTree → Type 0
DeclaratorsStand k low [] = Unit {0}
DeclaratorsStand k low (d ∷ more) = (low ≤ d.variable) × DeclaratorStands k d × DeclaratorsStand k (d.variable + 1) more

abbrev pub StartStands : Activity → (low : ℕ) → TypedStartTree → Type 0
StartStands k low Nothing = Unit {0}
StartStands k low (Value spot e) = LaidAt k e
StartStands k low (Declares all) = DeclaratorsStand k low all

abbrev mutual
  -- Statements whose declarators stand, where no declaration is the body of another statement, and a loop's body begins at a place.
  pub StatementStands : Activity → (low : ℕ) → TypedStatementTree → Type 0
  StatementStands k low (Block all) = StatementsStand k low all
  StatementStands k low (Declaration all) = DeclaratorsStand k low all
  StatementStands k low (Empty spot) = Unit {0}
  StatementStands k low (Run spot e) = LaidAt k e
  StatementStands k low (If spot e s) = LaidAt k e × IsPlain s × StatementStands k low s
  StatementStands k low (IfElse spot e s r) = LaidAt k e × IsPlain s × IsPlain r × StatementStands k low s × StatementStands k low r
  StatementStands k low (While spot e s) = LaidAt k e × IsPlain s × StatementStands k low s
  StatementStands k low (DoWhile s spot e) = LaidAt k e × IsPlain s × StatementStands k low s × There k (start_place s (Some spot.at))
  StatementStands k low (For begin spot e p s) = StartStands k low begin × LaidIn k e × StepFits k p × IsPlain s × StatementStands k (behind_start low begin) s
  StatementStands k low (Switch spot e all) = LaidAt k e × ArePlain all × StatementsStand k low all
  StatementStands k low (Break spot) = Unit {0}
  StatementStands k low (Continue spot) = Unit {0}
  StatementStands k low (Return spot e) = LaidIn k e

  pub StatementsStand : Activity → (low : ℕ) → TypedStatementTrees → Type 0
  StatementsStand k low statement.none = Unit {0}
  StatementsStand k low (statement.first s rest) = StatementStands k low s × StatementsStand k (behind low s) rest
  StatementsStand k low (case z rest) = StatementsStand k low rest
  StatementsStand k low (default rest) = StatementsStand k low rest

module _ (k : Activity) (law : Lawful k) (out : (place : ℕ) (began : SourceMemory) → LaidOut (placed k place began)) (small : AreSmall k.setting.program) (good : CallsGood k) where
  declarators_fit : (low : ℕ) (all : List DeclaredTree) → are_declared k.setting.program k.setting.tree all ≡ true → DeclaratorsStand k low all → DeclaratorsFit k low all
  declarators_fit low [] typed h = tt
  declarators_fit low (d ∷ more) typed h =
      let c = two_true (is_declared k.setting.program k.setting.tree d) (are_declared k.setting.program k.setting.tree more) typed in
      (h.0, (declarator_does k law out small good d c.0 h.1).1, declarators_fit (d.variable + 1) more c.1 h.2)

  start_fits : (low : ℕ) (begin : TypedStartTree) → is_start k.setting.program k.setting.tree begin ≡ true → StartStands k low begin → StartFits k low begin
  start_fits low Nothing typed h = tt
  start_fits low (Value spot e) typed h = h
  start_fits low (Declares all) typed h = declarators_fit low all typed h

  mutual
    -- Well-typed statements that stand fit.
    pub statement_fits : (b c : Bool) (low : ℕ) (s : TypedStatementTree) → is_statement k.setting.program k.setting.tree b c s ≡ true → StatementStands k low s → StatementFits k low s
    statement_fits b c low (Block all) typed h = statements_fit b c None low all typed h
    statement_fits b c low (Declaration all) typed h = declarators_fit low all typed h
    statement_fits b c low (Empty spot) typed h = tt
    statement_fits b c low (Run spot e) typed h = h
    statement_fits b c low (If spot e s) typed h = (h.0, h.1, statement_fits b c low s (two_true (is_scalar (kind_of k.setting.program k.setting.tree e)) (is_statement k.setting.program k.setting.tree b c s) typed).1 h.2)
    statement_fits b c low (IfElse spot e s r) typed h =
        let t = three_true (is_scalar (kind_of k.setting.program k.setting.tree e)) (is_statement k.setting.program k.setting.tree b c s) (is_statement k.setting.program k.setting.tree b c r) typed in
        (h.0, h.1, h.2, statement_fits b c low s t.1 h.3, statement_fits b c low r t.2 h.4)
    statement_fits b c low (While spot e s) typed h = (h.0, h.1, statement_fits true true low s (two_true (is_scalar (kind_of k.setting.program k.setting.tree e)) (is_statement k.setting.program k.setting.tree true true s) typed).1 h.2)
    statement_fits b c low (DoWhile s spot e) typed h = (h.0, h.1, statement_fits true true low s (two_true (is_scalar (kind_of k.setting.program k.setting.tree e)) (is_statement k.setting.program k.setting.tree true true s) typed).1 h.2, h.3)
    statement_fits b c low (For begin spot e p s) typed h =
        let t = four_true (is_start k.setting.program k.setting.tree begin) (is_condition k.setting.program k.setting.tree e) (is_step k.setting.program k.setting.tree p) (is_statement k.setting.program k.setting.tree true true s) typed in
        (start_fits low begin t.0 h.0, h.1, h.2, h.3, statement_fits true true (behind_start low begin) s t.3 h.4)
    statement_fits b c low (Switch spot e all) typed h =
        (h.0, h.1, statements_fit true c (tested_type (kind_of k.setting.program k.setting.tree e)) low all (two_true (is_switch (tested_type (kind_of k.setting.program k.setting.tree e))) (are_statements k.setting.program k.setting.tree true c (tested_type (kind_of k.setting.program k.setting.tree e)) all) typed).1 h.2)
    statement_fits b c low (Break spot) typed h = tt
    statement_fits b c low (Continue spot) typed h = tt
    statement_fits b c low (Return spot e) typed h = h

    pub statements_fit : (b c : Bool) (tested : Option IntegerType) (low : ℕ) (all : TypedStatementTrees) → are_statements k.setting.program k.setting.tree b c tested all ≡ true → StatementsStand k low all → StatementsFit k low all
    statements_fit b c tested low statement.none typed h = tt
    statements_fit b c tested low (statement.first s rest) typed h =
        let t = three_true (may_stand tested s) (is_statement k.setting.program k.setting.tree b c s) (are_statements k.setting.program k.setting.tree b c tested rest) typed in
        (statement_fits b c low s t.1 h.0, statements_fit b c tested (behind low s) rest t.2 h.1)
    statements_fit b c tested low (case z rest) typed h = statements_fit b c tested low rest (two_true (is_label tested z) (are_statements k.setting.program k.setting.tree b c tested rest) typed).1 h
    statements_fit b c tested low (default rest) typed h = statements_fit b c tested low rest (two_true (is_switch tested) (are_statements k.setting.program k.setting.tree b c tested rest) typed).1 h
