-- Where the places of a program stand, told without the variables that are in scope there.
use Rattle.std.proofs.Common.{◌≡◌, ℕ, ◌+◌, List, [], ◌∷◌, ◌++◌, map, Bool, true, false, Option, Some, None, refl, sym, ap, ◌∙◌, append_assoc}
use Rattle.std.specs.Prelude.{if◌then◌else◌}
use Rattle.std.proofs.lemmas.List.{map-append}
use Rattle.debug_records.specs.declared.source.Spot.{Spot}
use Rattle.c_tree.specs.TypedExpressions.{RvalueTree}
use Rattle.c_tree.specs.TypedStatements.{DeclaredTree, TypedStartTree, Nothing, Value, Declares, StepTree, TypedStatementTree, Block, Declaration, Empty, Run, If, IfElse, While, DoWhile, For, Switch, Break, Continue, Return, TypedStatementTrees, none, first, case, default}
use Rattle.c_tree.specs.Programs.{TypedFunctionTree, ProgramTree}
use Rattle.c_places.specs.Flow.{reaches_end}
use Rattle.c_places.specs.Places.{Place, stop, brought, brought_by_start, places_of_declarators, places_of_start, places_of_head, places_of_step, places_of, places_of_all, parameters_of, brought_by_body, close_of, places_of_function, places_of_functions, places_of_program}

-- where places stand
abbrev pub spots_of_places : List Place → List Spot
spots_of_places places = map (λ (q : Place). q.spot) places

abbrev pub stops_of_declarators : List DeclaredTree → List Spot
stops_of_declarators [] = []
stops_of_declarators (d ∷ all) = d.spot ∷ stops_of_declarators all

abbrev pub stops_of_start : TypedStartTree → List Spot
stops_of_start Nothing = []
stops_of_start (Value spot e) = spot ∷ []
stops_of_start (Declares all) = stops_of_declarators all

abbrev pub stops_of_head : List Spot → Spot → Option RvalueTree → List Spot
stops_of_head before spot None = spot ∷ before
stops_of_head before spot (Some c) = before ++ spot ∷ []

abbrev pub stops_of_step : Option StepTree → List Spot
stops_of_step None = []
stops_of_step (Some s) = s.spot ∷ []

abbrev mutual
  -- where the places of a statement stand
  pub stops_of : TypedStatementTree → List Spot
  stops_of (Block all) = stops_of_all all
  stops_of (Declaration all) = stops_of_declarators all
  stops_of (Empty spot) = spot ∷ []
  stops_of (Run spot e) = spot ∷ []
  stops_of (If spot c chosen) = spot ∷ stops_of chosen
  stops_of (IfElse spot c chosen other) = spot ∷ stops_of chosen ++ stops_of other
  stops_of (While spot c body) = spot ∷ stops_of body
  stops_of (DoWhile body spot c) = stops_of body ++ spot ∷ []
  stops_of (For start spot c step body) = stops_of_head (stops_of_start start) spot c ++ stops_of_step step ++ stops_of body
  stops_of (Switch spot e all) = spot ∷ stops_of_all all
  stops_of (Break spot) = spot ∷ []
  stops_of (Continue spot) = spot ∷ []
  stops_of (Return spot e) = spot ∷ []

  -- those of the statements of a block
  pub stops_of_all : TypedStatementTrees → List Spot
  stops_of_all none = []
  stops_of_all (first s rest) = stops_of s ++ stops_of_all rest
  stops_of_all (case value rest) = stops_of_all rest
  stops_of_all (default rest) = stops_of_all rest

abbrev pub stops_of_close : Bool → Spot → List Spot
stops_of_close true close = close ∷ []
stops_of_close false close = []

abbrev pub stops_of_function : TypedFunctionTree → List Spot
stops_of_function f = f.spot ∷ stops_of_all f.body ++ stops_of_close (reaches_end f.body) f.close

abbrev pub stops_of_functions : List TypedFunctionTree → List Spot
stops_of_functions [] = []
stops_of_functions (f ∷ all) = stops_of_function f ++ stops_of_functions all

-- two lists of places, one behind the other
both_there : (places more : List Place) (spots others : List Spot) → spots_of_places places ≡ spots → spots_of_places more ≡ others → spots_of_places (places ++ more) ≡ spots ++ others
both_there places more spots others h k = map-append (λ (q : Place). q.spot) places more ∙ ap (λ z. z ++ spots_of_places more) h ∙ ap (λ z. spots ++ z) k

module _ (n : ℕ) where
  declarators_there : (all : List DeclaredTree) (scope : List ℕ) → spots_of_places (places_of_declarators n scope all) ≡ stops_of_declarators all
  declarators_there [] scope = refl
  declarators_there (d ∷ all) scope = ap (λ z. d.spot ∷ z) (declarators_there all (scope ++ d.variable ∷ []))

  start_there : (s : TypedStartTree) (scope : List ℕ) → spots_of_places (places_of_start n scope s) ≡ stops_of_start s
  start_there Nothing scope = refl
  start_there (Value spot e) scope = refl
  start_there (Declares all) scope = declarators_there all scope

  head_there : (s : TypedStartTree) (spot : Spot) (c : Option RvalueTree) (scope : List ℕ) → spots_of_places (places_of_head n scope s spot c) ≡ stops_of_head (stops_of_start s) spot c
  head_there s spot None scope = ap (λ z. spot ∷ z) (start_there s scope)
  head_there s spot (Some c) scope = both_there (places_of_start n scope s) (stop n (scope ++ brought_by_start s) spot ∷ []) (stops_of_start s) (spot ∷ []) (start_there s scope) refl

  step_there : (s : Option StepTree) (scope : List ℕ) → spots_of_places (places_of_step n scope s) ≡ stops_of_step s
  step_there None scope = refl
  step_there (Some s) scope = refl

  mutual
    one_there : (s : TypedStatementTree) (scope : List ℕ) → spots_of_places (places_of n scope s) ≡ stops_of s
    one_there (Block all) scope = all_there all scope
    one_there (Declaration all) scope = declarators_there all scope
    one_there (Empty spot) scope = refl
    one_there (Run spot e) scope = refl
    one_there (If spot c chosen) scope = ap (λ z. spot ∷ z) (one_there chosen scope)
    one_there (IfElse spot c chosen other) scope = ap (λ z. spot ∷ z) (both_there (places_of n scope chosen) (places_of n scope other) (stops_of chosen) (stops_of other) (one_there chosen scope) (one_there other scope))
    one_there (While spot c body) scope = ap (λ z. spot ∷ z) (one_there body scope)
    one_there (DoWhile body spot c) scope = both_there (places_of n scope body) (stop n scope spot ∷ []) (stops_of body) (spot ∷ []) (one_there body scope) refl
    one_there (For start spot c step body) scope =
        let inner = scope ++ brought_by_start start in
        both_there (places_of_head n scope start spot c ++ places_of_step n inner step) (places_of n inner body) (stops_of_head (stops_of_start start) spot c ++ stops_of_step step) (stops_of body)
        (both_there (places_of_head n scope start spot c) (places_of_step n inner step) (stops_of_head (stops_of_start start) spot c) (stops_of_step step) (head_there start spot c scope) (step_there step inner)) (one_there body inner)
    one_there (Switch spot e all) scope = ap (λ z. spot ∷ z) (all_there all scope)
    one_there (Break spot) scope = refl
    one_there (Continue spot) scope = refl
    one_there (Return spot e) scope = refl

    all_there : (all : TypedStatementTrees) (scope : List ℕ) → spots_of_places (places_of_all n scope all) ≡ stops_of_all all
    all_there none scope = refl
    all_there (first s rest) scope = both_there (places_of n scope s) (places_of_all n (scope ++ brought s) rest) (stops_of s) (stops_of_all rest) (one_there s scope) (all_there rest (scope ++ brought s))
    all_there (case value rest) scope = all_there rest scope
    all_there (default rest) scope = all_there rest scope

  close_there : (f : TypedFunctionTree) → spots_of_places (close_of n f) ≡ stops_of_close (reaches_end f.body) f.close
  close_there f = by (reaches_end f.body)
    where
      by : (b : Bool) → spots_of_places (if b then stop n (parameters_of f ++ brought_by_body f.body) f.close ∷ [] else []) ≡ stops_of_close b f.close
      by true = refl
      by false = refl

  function_there : (f : TypedFunctionTree) → spots_of_places (places_of_function n f) ≡ stops_of_function f
  function_there f =
      ap (λ z. f.spot ∷ z) (both_there (places_of_all n (parameters_of f) f.body) (close_of n f) (stops_of_all f.body) (stops_of_close (reaches_end f.body) f.close) (all_there f.body (parameters_of f)) (close_there f))

functions_there : (n : ℕ) (fs : List TypedFunctionTree) → spots_of_places (places_of_functions n fs) ≡ stops_of_functions fs
functions_there n [] = refl
functions_there n (f ∷ fs) = both_there (places_of_function n f) (places_of_functions (n + 1) fs) (stops_of_function f) (stops_of_functions fs) (function_there n f) (functions_there (n + 1) fs)

-- The places of a program stand there.
pub program_there : (p : ProgramTree) → spots_of_places (places_of_program p) ≡ stops_of_functions p.functions
program_there p = functions_there 0 p.functions

-- behind functions come others
pub stops_append : (fs gs : List TypedFunctionTree) → stops_of_functions (fs ++ gs) ≡ stops_of_functions fs ++ stops_of_functions gs
stops_append [] gs = refl
stops_append (f ∷ fs) gs = ap (λ z. stops_of_function f ++ z) (stops_append fs gs) ∙ sym (append_assoc (stops_of_function f) (stops_of_functions fs) (stops_of_functions gs))
