-- Which names the code of statements uses: the first one behind them.
use Rattle.std.specs.Prelude.{ℕ, max, Option, Some, None, List, [], ◌∷◌}
use Rattle.c_tree.specs.TypedExpressions.{RvalueTree, Convert}
use Rattle.c_tree.specs.TypedStatements as statement
use Rattle.c_tree.specs.TypedStatements.{InitialTree, Zero, Scalar as scalar-initial, Elements, Literal, DeclaredTree, TypedStartTree, Nothing, Value, Declares, StepTree, TypedStatementTree, Block, Declaration, Empty, Run, If, IfElse, While, DoWhile, For, Switch, Break, Continue, Return, TypedStatementTrees, case, default}
use Rattle.graph_build_layout.specs.declared.laid.Use as declared-use
use Rattle.graph_build_layout.specs.declared.laid.Use.TheVariants.{Anywhere, In, Tested}
use Rattle.graph_build_layout.specs.declared.laid.Use.TheVariants as use-of
use Rattle.graph_build_names.specs.Names.{scalar_of, pick}
use Rattle.graph_build_layout.specs.Layout.{laid}
use Rattle.graph_build_statements.specs.Coding.{Coding, begun}

-- An element of a list without its conversion: a store keeps the lowest bits alone.
abbrev pub bare : RvalueTree → RvalueTree
bare (Convert t e) = e
bare e = e

module _ (c : Coding) where
  -- the first name behind those that an expression uses, if these were used before it
  abbrev pub reached : RvalueTree → declared-use.Use → (free : ℕ) → ℕ
  reached e u t = max t (laid c.names e u (begun c t)).top

  -- the first name behind those that elements use
  abbrev pub elements_reached : List RvalueTree → (free : ℕ) → ℕ
  elements_reached [] t = t
  elements_reached (e ∷ more) t =
      max (laid c.names (bare e) Anywhere t).top
      (elements_reached more (pick c.names t (laid c.names (bare e) Anywhere t).top))

  -- the first name behind those that an initializer uses
  abbrev pub initial_reached : (scalar : Option ℕ) → InitialTree → (free : ℕ) → ℕ
  initial_reached (Some x) (scalar-initial e) t = reached e (In x) t
  initial_reached None (scalar-initial e) t = reached e Anywhere t
  initial_reached x (Elements all) t = max t (elements_reached all (begun c t))
  initial_reached x Zero t = t
  initial_reached x (Literal k) t = t

  -- the same of declarators
  abbrev pub declared_reached : List DeclaredTree → (free : ℕ) → ℕ
  declared_reached [] t = t
  declared_reached (d ∷ more) t = declared_reached more (initial_reached (scalar_of c.names d.variable) d.initial t)

  -- the same of the first part of a `for`, of its condition, of its step, and of a returned value
  abbrev pub start_reached : TypedStartTree → (free : ℕ) → ℕ
  start_reached Nothing t = t
  start_reached (Value spot e) t = reached e use-of.Nothing t
  start_reached (Declares all) t = declared_reached all t

  -- the names in use behind the condition of a loop, at most
  abbrev pub condition_reached : Option RvalueTree → (free : ℕ) → ℕ
  condition_reached None t = t
  condition_reached (Some e) t = reached e Tested t

  -- the names in use behind the step of a loop, at most
  abbrev pub step_reached : Option StepTree → (free : ℕ) → ℕ
  step_reached None t = t
  step_reached (Some s) t = reached s.value use-of.Nothing t

  -- the names in use behind the value of a return statement, at most
  abbrev pub result_reached : Option RvalueTree → (free : ℕ) → ℕ
  result_reached None t = t
  result_reached (Some e) t = reached e Anywhere t

  abbrev mutual
    -- the same of a statement, in the order in which code is made: of a `for` its first part, its condition, its body
    -- and its step
    pub statement_reached : TypedStatementTree → (free : ℕ) → ℕ
    statement_reached (Block all) t = statements_reached all t
    statement_reached (Declaration all) t = declared_reached all t
    statement_reached (Empty spot) t = t
    statement_reached (Run spot e) t = reached e use-of.Nothing t
    statement_reached (If spot e s) t = statement_reached s (reached e Tested t)
    statement_reached (IfElse spot e s r) t = statement_reached r (statement_reached s (reached e Tested t))
    statement_reached (While spot e s) t = statement_reached s (reached e Tested t)
    statement_reached (DoWhile s spot e) t = reached e Tested (statement_reached s t)
    statement_reached (For begin spot e step s) t =
        step_reached step (statement_reached s (condition_reached e (start_reached begin t)))
    statement_reached (Switch spot e all) t = statements_reached all (reached e Anywhere t)
    statement_reached (Break spot) t = t
    statement_reached (Continue spot) t = t
    statement_reached (Return spot e) t = result_reached e t

    -- the same of statements
    pub statements_reached : TypedStatementTrees → (free : ℕ) → ℕ
    statements_reached statement.none t = t
    statements_reached (statement.first s rest) t = statements_reached rest (statement_reached s t)
    statements_reached (case z rest) t = statements_reached rest t
    statements_reached (default rest) t = statements_reached rest t
