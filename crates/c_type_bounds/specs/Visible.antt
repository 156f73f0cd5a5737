-- How many variables are visible at the places of a program, in all: at each place those automatic ones in whose scope
-- it stands, but for those that an inner name hides.
use Rattle.std.specs.Prelude.{ℕ, ◌+◌, List, [], ◌∷◌, ◌++◌, length, map, sum_by, Option, Some, None, if◌then◌else◌}
use Rattle.std.specs.List.{list_any}
use Rattle.std.specs.Borrow.{Bor}
use Rattle.std.specs.Str.{bytes_eq}
use Rattle.c_tree.specs.Programs.{AutomaticTree, ProgramTree, TypedFunctionTree}
use Rattle.c_tree.specs.TypedExpressions.{RvalueTree}
use Rattle.c_tree.specs.TypedStatements.{DeclaredTree, TypedStartTree, Nothing, Value, Declares, StepTree, TypedStatementTree, Block, Declaration, Empty, Run, If, IfElse, While, DoWhile, For, Switch, Break, Continue, Return, TypedStatementTrees, none, first, case, default}
use Rattle.c_places.specs.Flow.{reaches_end}
use Rattle.c_places.specs.Places.{Place, name_of, parameters_of, places_of_program, visible}

-- how many variables are visible at places, in all
abbrev pub visible_at : List AutomaticTree → List Place → ℕ
visible_at automatics places = sum_by (λ (place : Place). length (visible automatics place.scope)) places

-- how many variables are visible at the places of a program, in all
abbrev pub visible_pairs : ProgramTree → ℕ
visible_pairs p = visible_at p.automatics (places_of_program p)

-- The walk that counts them goes over the text once, and carries the visible names. What follows says what it counts
-- and which names it carries.

-- names, as a program has them
abbrev pub names_view : List (Bor (List ℕ)) → List (List ℕ)
names_view names = map (λ n. n.now) names

-- the visible names, with one more where none is its own
abbrev pub with_visible : List ℕ → List (List ℕ) → List (List ℕ)
with_visible name names = if list_any (λ n. bytes_eq n name) names then names else names ++ name ∷ []

-- the condition of a `for` sees what its first part declares; a loop head without a condition stands before it
abbrev pub at_head : Option RvalueTree → (inner outer : List (List ℕ)) → ℕ
at_head (Some c) inner outer = length inner
at_head None inner outer = length outer

abbrev pub at_step : Option StepTree → List (List ℕ) → ℕ
at_step (Some s) names = length names
at_step None names = 0

module _ (automatics : List AutomaticTree) where
  -- behind the declarator of a variable
  abbrev pub behind_one : ℕ → List (List ℕ) → List (List ℕ)
  behind_one k names = with_visible (name_of automatics k) names

  -- behind variables that are in scope from the first one on
  abbrev pub behind_scope : List ℕ → List (List ℕ) → List (List ℕ)
  behind_scope [] names = names
  behind_scope (k ∷ scope) names = behind_scope scope (behind_one k names)

  -- behind declarators
  abbrev pub behind_all : List DeclaredTree → List (List ℕ) → List (List ℕ)
  behind_all [] names = names
  behind_all (d ∷ ds) names = behind_all ds (behind_one d.variable names)

  -- at declarators, each of which is a place that does not see its own name
  abbrev pub at_declared : List DeclaredTree → List (List ℕ) → ℕ
  at_declared [] names = 0
  at_declared (d ∷ ds) names = length names + at_declared ds (behind_one d.variable names)

  -- behind the first part of a `for`
  abbrev pub behind_start : TypedStartTree → List (List ℕ) → List (List ℕ)
  behind_start Nothing names = names
  behind_start (Value spot a) names = names
  behind_start (Declares all) names = behind_all all names

  abbrev pub at_start : TypedStartTree → List (List ℕ) → ℕ
  at_start Nothing names = 0
  at_start (Value spot a) names = length names
  at_start (Declares all) names = at_declared all names

  -- behind a statement of a block: only a declaration makes more visible
  abbrev pub behind_statement : TypedStatementTree → List (List ℕ) → List (List ℕ)
  behind_statement (Declaration all) names = behind_all all names
  behind_statement s names = names

  abbrev mutual
    -- at the places of a statement
    pub at_statement : TypedStatementTree → List (List ℕ) → ℕ
    at_statement (Block all) names = at_statements all names
    at_statement (Declaration all) names = at_declared all names
    at_statement (Empty spot) names = length names
    at_statement (Run spot a) names = length names
    at_statement (If spot c s) names = length names + at_statement s names
    at_statement (IfElse spot c s t) names = length names + at_statement s names + at_statement t names
    at_statement (While spot c s) names = length names + at_statement s names
    at_statement (DoWhile s spot c) names = length names + at_statement s names
    at_statement (For start spot c step s) names =
        at_start start names + at_head c (behind_start start names) names + at_step step (behind_start start names)
        + at_statement s (behind_start start names)
    at_statement (Switch spot a all) names = length names + at_statements all names
    at_statement (Break spot) names = length names
    at_statement (Continue spot) names = length names
    at_statement (Return spot a) names = length names

    -- at the places of statements of a block
    pub at_statements : TypedStatementTrees → List (List ℕ) → ℕ
    at_statements none names = 0
    at_statements (first s rest) names = at_statement s names + at_statements rest (behind_statement s names)
    at_statements (case value rest) names = at_statements rest names
    at_statements (default rest) names = at_statements rest names

  -- behind the statements of a block
  abbrev pub behind_statements : TypedStatementTrees → List (List ℕ) → List (List ℕ)
  behind_statements none names = names
  behind_statements (first s rest) names = behind_statements rest (behind_statement s names)
  behind_statements (case value rest) names = behind_statements rest names
  behind_statements (default rest) names = behind_statements rest names

  -- a function's parameters
  abbrev pub parameter_names : TypedFunctionTree → List (List ℕ)
  parameter_names f = behind_scope (parameters_of f) []

  -- its closing brace is a place where flow reaches it
  abbrev pub at_close : TypedFunctionTree → ℕ
  at_close f = if reaches_end f.body then length (behind_statements f.body (parameter_names f)) else 0

  -- at the places of a function; at its entry none is visible
  abbrev pub at_function : TypedFunctionTree → ℕ
  at_function f = at_statements f.body (parameter_names f) + at_close f

  abbrev pub at_functions : List TypedFunctionTree → ℕ
  at_functions = sum_by at_function
