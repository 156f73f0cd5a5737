-- As many of a program's places stand before a position as its listed places do.
use Rattle.std.proofs.Common.{◌≡◌, ℕ, ◌+◌, List, [], ◌∷◌, ◌++◌, refl, ap, Bool, true, false, arith}
use Rattle.std.specs.Prelude.{nat_lt, if◌then◌else◌, Option, Some, None}
use Rattle.debug_records.specs.declared.source.Spot.{Spot}
use Rattle.c_tree.specs.TypedExpressions.{RvalueTree}
use Rattle.c_tree.specs.TypedStatements.{DeclaredTree, TypedStartTree, Nothing, Value, Declares, StepTree, TypedStatementTree, Block, Declaration, Empty, Run, If, IfElse, While, DoWhile, For, Switch, Break, Continue, Return, TypedStatementTrees, none, first, case, default}
use Rattle.c_tree.specs.Programs.{TypedFunctionTree, ProgramTree}
use Rattle.c_places.specs.Flow.{reaches_end}
use Rattle.c_places.specs.Places.{Place, brought, brought_by_start, close_of, count_before, entry_of, place_number_at, parameters_of, places_of, places_of_all, places_of_declarators, places_of_function, places_of_functions, places_of_head, places_of_program, places_of_start, places_of_step, brought_by_body, stop}
use Rattle.c_flow_assigns.specs.PlacesBefore.{close_before, declarators_before, function_before, functions_before, places_before, spot_before, start_before, statement_before, statements_before, step_before}

-- one more, if so
more_if : (b : Bool) (m n : ℕ) → m ≡ n → (if b then m + 1 else m) ≡ (if b then 1 else 0) + n
more_if true m n e = omega (arith, e)
more_if false m n e = omega (arith, e)

sum_of : (a b c x y : ℕ) → a ≡ b + c → b ≡ x → c ≡ y → a ≡ x + y
sum_of a b c x y e f g = omega (arith, e, f, g)

swapped : (a x y : ℕ) → a ≡ x + y → a ≡ y + x
swapped a x y e = omega (arith, e)

one_in_front : (b : Bool) (m n k : ℕ) → m ≡ n + k → (if b then m + 1 else m) ≡ (if b then n + 1 else n) + k
one_in_front true m n k e = omega (arith, e)
one_in_front false m n k e = e

module _ (at : ℕ) where
  -- the places of two lists
  both : (ps qs : List Place) → count_before at (ps ++ qs) ≡ count_before at ps + count_before at qs
  both [] qs = omega arith
  both (p ∷ ps) qs = one_in_front (nat_lt p.spot.at at) (count_before at (ps ++ qs)) (count_before at ps) (count_before at qs) (both ps qs)

  joined : (ps qs : List Place) (x y : ℕ) → count_before at ps ≡ x → count_before at qs ≡ y → count_before at (ps ++ qs) ≡ x + y
  joined ps qs x y e f = sum_of (count_before at (ps ++ qs)) (count_before at ps) (count_before at qs) x y (both ps qs) e f

  -- a place in front of others
  behind : (p : Place) (ps : List Place) (n : ℕ) → count_before at ps ≡ n → count_before at (p ∷ ps) ≡ spot_before at p.spot + n
  behind p ps n e = more_if (nat_lt p.spot.at at) (count_before at ps) n e

  module _ (f : ℕ) where
    one : (scope : List ℕ) (spot : Spot) → count_before at (stop f scope spot ∷ []) ≡ spot_before at spot
    one scope spot = refl

    of_declarators : (scope : List ℕ) (all : List DeclaredTree) → count_before at (places_of_declarators f scope all) ≡ declarators_before at all
    of_declarators scope [] = refl
    of_declarators scope (d ∷ all) = behind (stop f scope d.spot) (places_of_declarators f (scope ++ d.variable ∷ []) all) (declarators_before at all) (of_declarators (scope ++ d.variable ∷ []) all)

    of_start : (scope : List ℕ) (begin : TypedStartTree) → count_before at (places_of_start f scope begin) ≡ start_before at begin
    of_start scope Nothing = refl
    of_start scope (Value spot e) = one scope spot
    of_start scope (Declares all) = of_declarators scope all

    of_head : (scope : List ℕ) (begin : TypedStartTree) (spot : Spot) (c : Option RvalueTree) → count_before at (places_of_head f scope begin spot c) ≡ start_before at begin + spot_before at spot
    of_head scope begin spot None =
        swapped (count_before at (places_of_head f scope begin spot None)) (spot_before at spot) (start_before at begin)
        (behind (stop f scope spot) (places_of_start f scope begin) (start_before at begin) (of_start scope begin))
    of_head scope begin spot (Some c) =
        joined (places_of_start f scope begin) (stop f (scope ++ brought_by_start begin) spot ∷ []) (start_before at begin) (spot_before at spot) (of_start scope begin) (one (scope ++ brought_by_start begin) spot)

    of_step : (scope : List ℕ) (step : Option StepTree) → count_before at (places_of_step f scope step) ≡ step_before at step
    of_step scope None = refl
    of_step scope (Some s) = one scope s.spot

    mutual
      of_statement : (scope : List ℕ) (s : TypedStatementTree) → count_before at (places_of f scope s) ≡ statement_before at s
      of_statement scope (Block all) = of_statements scope all
      of_statement scope (Declaration all) = of_declarators scope all
      of_statement scope (Empty spot) = one scope spot
      of_statement scope (Run spot e) = one scope spot
      of_statement scope (If spot c chosen) = behind (stop f scope spot) (places_of f scope chosen) (statement_before at chosen) (of_statement scope chosen)
      of_statement scope (IfElse spot c chosen other) =
          joined (stop f scope spot ∷ places_of f scope chosen) (places_of f scope other) (spot_before at spot + statement_before at chosen) (statement_before at other)
          (behind (stop f scope spot) (places_of f scope chosen) (statement_before at chosen) (of_statement scope chosen)) (of_statement scope other)
      of_statement scope (While spot c body) = behind (stop f scope spot) (places_of f scope body) (statement_before at body) (of_statement scope body)
      of_statement scope (DoWhile body spot c) = joined (places_of f scope body) (stop f scope spot ∷ []) (statement_before at body) (spot_before at spot) (of_statement scope body) (one scope spot)
      of_statement scope (For begin spot c step body) =
          joined (places_of_head f scope begin spot c ++ places_of_step f (scope ++ brought_by_start begin) step) (places_of f (scope ++ brought_by_start begin) body)
          (start_before at begin + spot_before at spot + step_before at step) (statement_before at body)
          (joined (places_of_head f scope begin spot c) (places_of_step f (scope ++ brought_by_start begin) step) (start_before at begin + spot_before at spot) (step_before at step)
          (of_head scope begin spot c) (of_step (scope ++ brought_by_start begin) step))
          (of_statement (scope ++ brought_by_start begin) body)
      of_statement scope (Switch spot e all) = behind (stop f scope spot) (places_of_all f scope all) (statements_before at all) (of_statements scope all)
      of_statement scope (Break spot) = one scope spot
      of_statement scope (Continue spot) = one scope spot
      of_statement scope (Return spot e) = one scope spot

      of_statements : (scope : List ℕ) (all : TypedStatementTrees) → count_before at (places_of_all f scope all) ≡ statements_before at all
      of_statements scope none = refl
      of_statements scope (first s rest) =
          joined (places_of f scope s) (places_of_all f (scope ++ brought s) rest) (statement_before at s) (statements_before at rest) (of_statement scope s) (of_statements (scope ++ brought s) rest)
      of_statements scope (case value rest) = of_statements scope rest
      of_statements scope (default rest) = of_statements scope rest

    of_close : (function : TypedFunctionTree) → count_before at (close_of f function) ≡ close_before at function
    of_close function =
        elim (reaches_end function.body) as (λ (b : Bool).
        count_before at (if b then stop f (parameters_of function ++ brought_by_body function.body) function.close ∷ [] else []) ≡ (if b then spot_before at function.close else 0)) [
          | true ↦ one (parameters_of function ++ brought_by_body function.body) function.close
          | false ↦ refl
        ]

    of_function : (function : TypedFunctionTree) → count_before at (places_of_function f function) ≡ function_before at function
    of_function function =
        joined (entry_of f function ∷ places_of_all f (parameters_of function) function.body) (close_of f function)
        (spot_before at function.spot + statements_before at function.body) (close_before at function)
        (behind (entry_of f function) (places_of_all f (parameters_of function) function.body) (statements_before at function.body) (of_statements (parameters_of function) function.body)) (of_close function)

  of_functions : (n : ℕ) (functions : List TypedFunctionTree) → count_before at (places_of_functions n functions) ≡ functions_before at functions
  of_functions n [] = refl
  of_functions n (f ∷ functions) =
      joined (places_of_function n f) (places_of_functions (n + 1) functions) (function_before at f) (functions_before at functions) (of_function n f) (of_functions (n + 1) functions)

-- the number of a place by the places before it
pub number_by_count : (p : ProgramTree) (at : ℕ) → place_number_at (places_of_program p) at ≡ places_before at p + 1
number_by_count p at = ap (λ (n : ℕ). n + 1) (of_functions at 0 p.functions)
