-- The places of a program: the points at which its execution may be stopped, and the entries of its functions (ISO/IEC
-- 9899:2011, 5.1.2.3, 6.2.1, 6.8).
use Rattle.std.specs.Prelude.{ℕ, zero, suc, ◌+◌, nat_lt, ◌==◌, Bool, true, false, ◌&&◌, ◌||◌, slice_get, if◌then◌else◌, Option, Some, None, List, [], ◌∷◌, ◌++◌, map}
use Rattle.std.specs.Option.{option_map_or}
use Rattle.debug_records.specs.declared.source.Spot.{Spot}
use Rattle.c_tree.specs.TypedExpressions.{RvalueTree}
use Rattle.c_tree.specs.TypedStatements.{DeclaredTree, TypedStartTree, Nothing, Value, Declares, StepTree, TypedStatementTree, Block, Declaration, Empty, Run, If, IfElse, While, DoWhile, For, Switch, Break, Continue, Return, TypedStatementTrees, none, first, case, default}
use Rattle.c_tree.specs.Programs.{AutomaticTree, TypedFunctionTree, ProgramTree}
use Rattle.c_places.specs.Flow.{reaches_end}
use Rattle.c_places.specs.declared.place.Place as declared-place

-- A place: where it stands, in which function, whether it is the function's entry, which is no stop, and the automatic
-- variables in scope there, by position.
pub record Place : Type 0 where
  pub spot : Spot
  pub function : ℕ
  pub is_entry : Bool
  pub scope : List ℕ

-- a place of the code, as contracts see it
abbrev pub place_view : declared-place.Place → Place
place_view p = record { spot = p.spot; function = p.function; is_entry = p.is_entry; scope = p.scope.items }

-- the numbers from a first one on
abbrev pub numbers_from : ℕ → (count : ℕ) → List ℕ
numbers_from least zero = []
numbers_from least (suc count) = least ∷ numbers_from (least + 1) count

-- the variables that a statement of a block brings into scope behind it (6.2.1p7)
abbrev pub brought : TypedStatementTree → List ℕ
brought (Declaration all) = map (λ (d : DeclaredTree). d.variable) all
brought _ = []

-- those that the first part of a `for` brings into scope (6.8.5.3p1)
abbrev pub brought_by_start : TypedStartTree → List ℕ
brought_by_start (Declares all) = map (λ (d : DeclaredTree). d.variable) all
brought_by_start _ = []

module _ (function : ℕ) where
  -- a place that is no entry
  abbrev pub stop : List ℕ → Spot → Place
  stop scope spot = record { spot = spot; function = function; is_entry = false; scope = scope }

  -- Each declarator of automatic objects is a place at its name. It does not see its own variable, but those of the
  -- declarators before it.
  abbrev pub places_of_declarators : List ℕ → List DeclaredTree → List Place
  places_of_declarators scope [] = []
  places_of_declarators scope (d ∷ all) = stop scope d.spot ∷ places_of_declarators (scope ++ d.variable ∷ []) all

  -- the place of what a for loop begins with
  abbrev pub places_of_start : List ℕ → TypedStartTree → List Place
  places_of_start scope Nothing = []
  places_of_start scope (Value spot e) = stop scope spot ∷ []
  places_of_start scope (Declares all) = places_of_declarators scope all

  -- Of a `for` the places before its step, in text order: its first part and its condition, which sees what the first
  -- part declares, or without a condition the `for` itself, which stands before its first part.
  abbrev pub places_of_head : List ℕ → TypedStartTree → Spot → Option RvalueTree → List Place
  places_of_head scope start spot None = stop scope spot ∷ places_of_start scope start
  places_of_head scope start spot (Some c) =
      places_of_start scope start ++ stop (scope ++ brought_by_start start) spot ∷ []

  -- the step of a `for`
  abbrev pub places_of_step : List ℕ → Option StepTree → List Place
  places_of_step scope None = []
  places_of_step scope (Some s) = stop scope s.spot ∷ []

  abbrev mutual
    -- The places of a statement, in text order: of a simple one its first token, of `if`, `while`, `do` and `switch`
    -- the condition, of `for` its first part, its condition or else the `for`, and its step; and those of the
    -- statements within.
    pub places_of : List ℕ → TypedStatementTree → List Place
    places_of scope (Block all) = places_of_all scope all
    places_of scope (Declaration all) = places_of_declarators scope all
    places_of scope (Empty spot) = stop scope spot ∷ []
    places_of scope (Run spot e) = stop scope spot ∷ []
    places_of scope (If spot c chosen) = stop scope spot ∷ places_of scope chosen
    places_of scope (IfElse spot c chosen other) = stop scope spot ∷ places_of scope chosen ++ places_of scope other
    places_of scope (While spot c body) = stop scope spot ∷ places_of scope body
    places_of scope (DoWhile body spot c) = places_of scope body ++ stop scope spot ∷ []
    places_of scope (For start spot c step body) =
        places_of_head scope start spot c ++ places_of_step (scope ++ brought_by_start start) step
        ++ places_of (scope ++ brought_by_start start) body
    places_of scope (Switch spot e all) = stop scope spot ∷ places_of_all scope all
    places_of scope (Break spot) = stop scope spot ∷ []
    places_of scope (Continue spot) = stop scope spot ∷ []
    places_of scope (Return spot e) = stop scope spot ∷ []

    -- the places of the statements of a block, each with what those before it brought into scope
    pub places_of_all : List ℕ → TypedStatementTrees → List Place
    places_of_all scope none = []
    places_of_all scope (first s rest) = places_of scope s ++ places_of_all (scope ++ brought s) rest
    places_of_all scope (case value rest) = places_of_all scope rest
    places_of_all scope (default rest) = places_of_all scope rest

-- the variables that the outermost block of a function's body brings into scope
abbrev pub brought_by_body : TypedStatementTrees → List ℕ
brought_by_body none = []
brought_by_body (first s rest) = brought s ++ brought_by_body rest
brought_by_body (case value rest) = brought_by_body rest
brought_by_body (default rest) = brought_by_body rest

-- the parameters of a function, which are its first variables
abbrev pub parameters_of : TypedFunctionTree → List ℕ
parameters_of f = numbers_from f.first_variable f.parameters

-- The entry of a function is a place at its name. Its parameters, which are declared behind the name, are not in scope
-- there (6.2.1p7).
abbrev pub entry_of : ℕ → TypedFunctionTree → Place
entry_of function f = record { spot = f.spot; function = function; is_entry = true; scope = [] }

-- The closing brace of a function is a place where flow reaches it. The variables of the outermost block are in scope
-- there.
abbrev pub close_of : ℕ → TypedFunctionTree → List Place
close_of function f =
    if reaches_end f.body then stop function (parameters_of f ++ brought_by_body f.body) f.close ∷ [] else []

-- the places of a function
abbrev pub places_of_function : ℕ → TypedFunctionTree → List Place
places_of_function function f =
    entry_of function f ∷ places_of_all function (parameters_of f) f.body ++ close_of function f

-- the places of functions, the first of which has this number
abbrev pub places_of_functions : ℕ → List TypedFunctionTree → List Place
places_of_functions function [] = []
places_of_functions function (f ∷ all) = places_of_function function f ++ places_of_functions (function + 1) all

-- the places of a program
abbrev pub places_of_program : ProgramTree → List Place
places_of_program p = places_of_functions 0 p.functions

-- how many places begin before a position of the source
abbrev pub count_before : ℕ → List Place → ℕ
count_before at [] = 0
count_before at (p ∷ places) = if nat_lt p.spot.at at then count_before at places + 1 else count_before at places

-- The number of the place at a position: places are numbered from 1 in the order of the text.
abbrev pub place_number_at : List Place → ℕ → ℕ
place_number_at places at = count_before at places + 1

-- the variables in scope at the place at a position
abbrev pub scope_at : List Place → ℕ → List ℕ
scope_at [] at = []
scope_at (p ∷ places) at = if p.spot.at == at then p.scope else scope_at places at

-- two names are one
abbrev pub is_same_name : List ℕ → List ℕ → Bool
is_same_name [] [] = true
is_same_name (a ∷ s) (b ∷ t) = a == b && is_same_name s t
is_same_name _ _ = false

-- the name of an automatic variable
abbrev pub name_of : List AutomaticTree → ℕ → List ℕ
name_of all x = option_map_or (λ (a : AutomaticTree). a.name) (slice_get all x) []

-- a variable is hidden by one of these that has its name
abbrev pub is_hidden : List AutomaticTree → ℕ → List ℕ → Bool
is_hidden all x [] = false
is_hidden all x (y ∷ later) = is_same_name (name_of all x) (name_of all y) || is_hidden all x later

-- Of the variables in scope those are visible that no later one, which is an inner one, hides by its name (6.2.1p4).
abbrev pub visible : List AutomaticTree → List ℕ → List ℕ
visible all [] = []
visible all (x ∷ later) = if is_hidden all x later then visible all later else x ∷ visible all later
