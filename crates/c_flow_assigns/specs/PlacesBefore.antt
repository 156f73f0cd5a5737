-- How many of the places of a program stand before a position.
use Rattle.std.specs.Prelude.{ℕ, ◌+◌, nat_lt, List, [], ◌∷◌, Option, Some, None, if◌then◌else◌}
use Rattle.debug_records.specs.declared.source.Spot.{Spot}
use Rattle.c_tree.specs.TypedStatements.{DeclaredTree, TypedStartTree, Nothing, Value, Declares, StepTree, TypedStatementTree, Block, Declaration, Empty, Run, If, IfElse, While, DoWhile, For, Switch, Break, Continue, Return, TypedStatementTrees, none, first, case, default}
use Rattle.c_tree.specs.Programs.{TypedFunctionTree, ProgramTree}
use Rattle.c_places.specs.Flow.{reaches_end}

module _ (at : ℕ) where
  -- one, if a spot stands before the position
  abbrev pub spot_before : Spot → ℕ
  spot_before spot = if nat_lt spot.at at then 1 else 0

  -- of declarators
  abbrev pub declarators_before : List DeclaredTree → ℕ
  declarators_before [] = 0
  declarators_before (d ∷ all) = spot_before d.spot + declarators_before all

  -- of the first part of a `for`
  abbrev pub start_before : TypedStartTree → ℕ
  start_before Nothing = 0
  start_before (Value spot e) = spot_before spot
  start_before (Declares all) = declarators_before all

  -- of the step of a `for`
  abbrev pub step_before : Option StepTree → ℕ
  step_before None = 0
  step_before (Some s) = spot_before s.spot

  abbrev mutual
    -- of a statement
    pub statement_before : TypedStatementTree → ℕ
    statement_before (Block all) = statements_before all
    statement_before (Declaration all) = declarators_before all
    statement_before (Empty spot) = spot_before spot
    statement_before (Run spot e) = spot_before spot
    statement_before (If spot c chosen) = spot_before spot + statement_before chosen
    statement_before (IfElse spot c chosen other) = spot_before spot + statement_before chosen + statement_before other
    statement_before (While spot c body) = spot_before spot + statement_before body
    statement_before (DoWhile body spot c) = statement_before body + spot_before spot
    statement_before (For begin spot c step body) =
        start_before begin + spot_before spot + step_before step + statement_before body
    statement_before (Switch spot e all) = spot_before spot + statements_before all
    statement_before (Break spot) = spot_before spot
    statement_before (Continue spot) = spot_before spot
    statement_before (Return spot e) = spot_before spot

    -- of the statements of a block
    pub statements_before : TypedStatementTrees → ℕ
    statements_before none = 0
    statements_before (first s rest) = statement_before s + statements_before rest
    statements_before (case value rest) = statements_before rest
    statements_before (default rest) = statements_before rest

  -- of a closing brace, which is a place where flow reaches it
  abbrev pub close_before : TypedFunctionTree → ℕ
  close_before f = if reaches_end f.body then spot_before f.close else 0

  -- of a function, with its entry
  abbrev pub function_before : TypedFunctionTree → ℕ
  function_before f = spot_before f.spot + statements_before f.body + close_before f

  -- of functions
  abbrev pub functions_before : List TypedFunctionTree → ℕ
  functions_before [] = 0
  functions_before (f ∷ all) = function_before f + functions_before all

-- of a program
abbrev pub places_before : ℕ → ProgramTree → ℕ
places_before at p = functions_before at p.functions
