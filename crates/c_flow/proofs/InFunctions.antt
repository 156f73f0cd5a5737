-- The places of a function are of that function.
use Rattle.std.proofs.Common.{◌≡◌, ℕ, ◌+◌, ◌<◌, List, [], ◌∷◌, ◌++◌, length, Bool, true, false, refl, arith}
use Rattle.std.specs.Prelude.{All, Option, Some, None, if◌then◌else◌}
use Rattle.std.proofs.lemmas.List.Elements.{All-nil, All-cons, All-append, All-weaker}
use Rattle.debug_records.specs.declared.source.Spot.{Spot}
use Rattle.c_tree.specs.TypedExpressions.{RvalueTree}
use Rattle.c_tree.specs.TypedStatements.{DeclaredTree, TypedStartTree, Nothing, Value, Declares, StepTree, TypedStatementTree, Block, Declaration, Empty, Run, If, IfElse, While, DoWhile, For, Switch, Break, Continue, Return, TypedStatementTrees, none, first, case, default}
use Rattle.c_tree.specs.Programs.{TypedFunctionTree}
use Rattle.c_places.specs.Flow.{reaches_end}
use Rattle.c_places.specs.Places.{Place, brought, brought_by_body, brought_by_start, close_of, entry_of, parameters_of, places_of, places_of_all, places_of_declarators, places_of_function, places_of_functions, places_of_head, places_of_start, places_of_step, stop}

module _ (f : ℕ) where
  -- a place is of the function
  abbrev Of : Place → Type 0
  Of p = p.function ≡ f

  one : (scope : List ℕ) (spot : Spot) → All Of (stop f scope spot ∷ [])
  one scope spot = All-cons Of (stop f scope spot) [] refl (All-nil Of)

  behind : (scope : List ℕ) (spot : Spot) (places : List Place) → All Of places → All Of (stop f scope spot ∷ places)
  behind scope spot places all = All-cons Of (stop f scope spot) places refl all

  of_declarators : (scope : List ℕ) (all : List DeclaredTree) → All Of (places_of_declarators f scope all)
  of_declarators scope [] = All-nil Of
  of_declarators scope (d ∷ all) = behind scope d.spot (places_of_declarators f (scope ++ d.variable ∷ []) all) (of_declarators (scope ++ d.variable ∷ []) all)

  of_start : (scope : List ℕ) (begin : TypedStartTree) → All Of (places_of_start f scope begin)
  of_start scope Nothing = All-nil Of
  of_start scope (Value spot e) = one scope spot
  of_start scope (Declares all) = of_declarators scope all

  of_head : (scope : List ℕ) (begin : TypedStartTree) (spot : Spot) (c : Option RvalueTree) → All Of (places_of_head f scope begin spot c)
  of_head scope begin spot None = behind scope spot (places_of_start f scope begin) (of_start scope begin)
  of_head scope begin spot (Some c) = All-append Of (places_of_start f scope begin) (stop f (scope ++ brought_by_start begin) spot ∷ []) (of_start scope begin) (one (scope ++ brought_by_start begin) spot)

  of_step : (scope : List ℕ) (step : Option StepTree) → All Of (places_of_step f scope step)
  of_step scope None = All-nil Of
  of_step scope (Some s) = one scope s.spot

  mutual
    of_statement : (scope : List ℕ) (s : TypedStatementTree) → All Of (places_of f scope s)
    of_statement scope (Block all) = of_statements scope all
    of_statement scope (Declaration all) = of_declarators scope all
    of_statement scope (Empty spot) = one scope spot
    of_statement scope (Run spot e) = one scope spot
    of_statement scope (If spot c chosen) = behind scope spot (places_of f scope chosen) (of_statement scope chosen)
    of_statement scope (IfElse spot c chosen other) =
        All-append Of (stop f scope spot ∷ places_of f scope chosen) (places_of f scope other) (behind scope spot (places_of f scope chosen) (of_statement scope chosen)) (of_statement scope other)
    of_statement scope (While spot c body) = behind scope spot (places_of f scope body) (of_statement scope body)
    of_statement scope (DoWhile body spot c) = All-append Of (places_of f scope body) (stop f scope spot ∷ []) (of_statement scope body) (one scope spot)
    of_statement scope (For begin spot c step body) =
        All-append Of (places_of_head f scope begin spot c ++ places_of_step f (scope ++ brought_by_start begin) step) (places_of f (scope ++ brought_by_start begin) body)
        (All-append Of (places_of_head f scope begin spot c) (places_of_step f (scope ++ brought_by_start begin) step) (of_head scope begin spot c) (of_step (scope ++ brought_by_start begin) step))
        (of_statement (scope ++ brought_by_start begin) body)
    of_statement scope (Switch spot e all) = behind scope spot (places_of_all f scope all) (of_statements scope all)
    of_statement scope (Break spot) = one scope spot
    of_statement scope (Continue spot) = one scope spot
    of_statement scope (Return spot e) = one scope spot

    of_statements : (scope : List ℕ) (all : TypedStatementTrees) → All Of (places_of_all f scope all)
    of_statements scope none = All-nil Of
    of_statements scope (first s rest) = All-append Of (places_of f scope s) (places_of_all f (scope ++ brought s) rest) (of_statement scope s) (of_statements (scope ++ brought s) rest)
    of_statements scope (case value rest) = of_statements scope rest
    of_statements scope (default rest) = of_statements scope rest

  of_close : (function : TypedFunctionTree) → All Of (close_of f function)
  of_close function = elim (reaches_end function.body) as (λ (b : Bool). All Of (if b then stop f (parameters_of function ++ brought_by_body function.body) function.close ∷ [] else [])) [
    | true ↦ one (parameters_of function ++ brought_by_body function.body) function.close
    | false ↦ All-nil Of
  ]

  of_function : (function : TypedFunctionTree) → All Of (places_of_function f function)
  of_function function =
      All-append Of (entry_of f function ∷ places_of_all f (parameters_of function) function.body) (close_of f function)
      (All-cons Of (entry_of f function) (places_of_all f (parameters_of function) function.body) refl (of_statements (parameters_of function) function.body)) (of_close function)

-- the numbers of the functions of places are below the number of functions
pub functions_below : (n bound : ℕ) (functions : List TypedFunctionTree) → n + length functions < bound → All (λ (p : Place). p.function < bound) (places_of_functions n functions)
functions_below n bound [] within = All-nil (λ (p : Place). p.function < bound)
functions_below n bound (f ∷ functions) within =
    All-append (λ (p : Place). p.function < bound) (places_of_function n f) (places_of_functions (n + 1) functions)
    (All-weaker (λ (p : Place). p.function ≡ n) (λ (p : Place). p.function < bound) (λ p is. omega arith) (places_of_function n f) (of_function n f))
    (functions_below (n + 1) bound functions (omega arith))
