-- What the walk over a program's text counts is how many variables are visible at its places.
use Rattle.std.proofs.Common.{◌≡◌, ℕ, ◌+◌, List, [], ◌∷◌, ◌++◌, length, map, Bool, true, false, if◌then◌else◌, Option, Some, None, refl, ap, sym, ◌∙◌, arith}
use Rattle.std.proofs.lemmas.List.Sums.{sum_by-append, sum_by-cons}
use Rattle.debug_records.specs.declared.source.Spot.{Spot}
use Rattle.c_tree.specs.Programs.{AutomaticTree, ProgramTree, TypedFunctionTree}
use Rattle.c_tree.specs.TypedExpressions.{RvalueTree}
use Rattle.c_tree.specs.TypedStatements.{DeclaredTree, TypedStartTree, Nothing, Value, Declares, StepTree, TypedStatementTree, Block, Declaration, Empty, Run, If, IfElse, While, DoWhile, For, Switch, Break, Continue, Return, TypedStatementTrees, none, first, case, default}
use Rattle.c_places.specs.Flow.{reaches_end}
use Rattle.c_places.specs.Places.{Place, stop, visible, brought, brought_by_body, brought_by_start, parameters_of, places_of, places_of_all, places_of_declarators, places_of_start, places_of_head, places_of_step, entry_of, close_of, places_of_function, places_of_functions}
use Rattle.c_type_bounds.specs.Visible.{at_close, at_declared, at_function, at_functions, at_head, at_start, at_statement, at_statements, at_step, behind_all, behind_one, behind_scope, behind_start, behind_statement, behind_statements, visible_at, visible_pairs}
use Rattle.c_type_bounds.proofs.DistinctNames.{as_many}

module _ (all : List AutomaticTree) where
  -- the names behind more variables
  scope_more : (scope more : List ℕ) (names : List (List ℕ)) → behind_scope all (scope ++ more) names ≡ behind_scope all more (behind_scope all scope names)
  scope_more [] more names = refl
  scope_more (x ∷ scope) more names = scope_more scope more (behind_one all x names)

  all_behind : (ds : List DeclaredTree) (names : List (List ℕ)) → behind_all all ds names ≡ behind_scope all (map (λ (d : DeclaredTree). d.variable) ds) names
  all_behind [] names = refl
  all_behind (d ∷ ds) names = all_behind ds (behind_one all d.variable names)

  start_behind : (s : TypedStartTree) (names : List (List ℕ)) → behind_start all s names ≡ behind_scope all (brought_by_start s) names
  start_behind Nothing names = refl
  start_behind (Value spot a) names = refl
  start_behind (Declares ds) names = all_behind ds names

  statement_behind : (s : TypedStatementTree) (names : List (List ℕ)) → behind_statement all s names ≡ behind_scope all (brought s) names
  statement_behind (Declaration ds) names = all_behind ds names
  statement_behind (Block ss) names = refl
  statement_behind (Empty spot) names = refl
  statement_behind (Run spot a) names = refl
  statement_behind (If spot c s) names = refl
  statement_behind (IfElse spot c s t) names = refl
  statement_behind (While spot c s) names = refl
  statement_behind (DoWhile s spot c) names = refl
  statement_behind (For spot start c step s) names = refl
  statement_behind (Switch spot a ss) names = refl
  statement_behind (Break spot) names = refl
  statement_behind (Continue spot) names = refl
  statement_behind (Return spot a) names = refl

  body_behind : (ss : TypedStatementTrees) (names : List (List ℕ)) → behind_statements all ss names ≡ behind_scope all (brought_by_body ss) names
  body_behind none names = refl
  body_behind (first s ss) names =
      body_behind ss (behind_statement all s names) ∙ ap (behind_scope all (brought_by_body ss)) (statement_behind s names) ∙ sym (scope_more (brought s) (brought_by_body ss) names)
  body_behind (case value ss) names = body_behind ss names
  body_behind (default ss) names = body_behind ss names

  -- a place, and more places
  at_cons : (p : Place) (ps : List Place) → visible_at all (p ∷ ps) ≡ length (visible all p.scope) + visible_at all ps
  at_cons p ps = sum_by-cons (λ (place : Place). length (visible all place.scope)) p ps

  at_append : (ps qs : List Place) → visible_at all (ps ++ qs) ≡ visible_at all ps + visible_at all qs
  at_append ps qs = sum_by-append (λ (place : Place). length (visible all place.scope)) ps qs

  module _ (function : ℕ) where
    stop_first : (scope : List ℕ) (spot : Spot) (ps : List Place) → visible_at all (stop function scope spot ∷ ps) ≡ length (behind_scope all scope []) + visible_at all ps
    stop_first scope spot ps = at_cons (stop function scope spot) ps ∙ ap (λ n. n + visible_at all ps) (sym (as_many all scope))

    stop_alone : (scope : List ℕ) (spot : Spot) → length (behind_scope all scope []) ≡ visible_at all (stop function scope spot ∷ [])
    stop_alone scope spot = let one = stop_first scope spot [] in omega (arith, one)

    declarators_counted : (scope : List ℕ) (ds : List DeclaredTree) → at_declared all ds (behind_scope all scope []) ≡ visible_at all (places_of_declarators function scope ds)
    declarators_counted scope [] = refl
    declarators_counted scope (d ∷ ds) =
        let rest = ap (at_declared all ds) (sym (scope_more scope (d.variable ∷ []) [])) ∙ declarators_counted (scope ++ d.variable ∷ []) ds in
        ap (λ n. length (behind_scope all scope []) + n) rest ∙ sym (stop_first scope d.spot (places_of_declarators function (scope ++ d.variable ∷ []) ds))

    start_counted : (scope : List ℕ) (s : TypedStartTree) → at_start all s (behind_scope all scope []) ≡ visible_at all (places_of_start function scope s)
    start_counted scope Nothing = refl
    start_counted scope (Value spot a) = stop_alone scope spot
    start_counted scope (Declares ds) = declarators_counted scope ds

    -- the scope behind the first part of a `for`
    inner : (scope : List ℕ) (s : TypedStartTree) → behind_start all s (behind_scope all scope []) ≡ behind_scope all (scope ++ brought_by_start s) []
    inner scope s = start_behind s (behind_scope all scope []) ∙ sym (scope_more scope (brought_by_start s) [])

    head_counted : (scope : List ℕ) (s : TypedStartTree) (spot : Spot) (c : Option RvalueTree)
        → at_start all s (behind_scope all scope []) + at_head c (behind_start all s (behind_scope all scope [])) (behind_scope all scope []) ≡ visible_at all (places_of_head function scope s spot c)
    head_counted scope s spot None =
        let one = stop_first scope spot (places_of_start function scope s) in
        let start = start_counted scope s in
        omega (arith, one, start)
    head_counted scope s spot (Some c) =
        let both = at_append (places_of_start function scope s) (stop function (scope ++ brought_by_start s) spot ∷ []) in
        let start = start_counted scope s in
        let last = ap length (inner scope s) ∙ stop_alone (scope ++ brought_by_start s) spot in
        omega (arith, both, start, last)

    step_counted : (scope : List ℕ) (step : Option StepTree) → at_step step (behind_scope all scope []) ≡ visible_at all (places_of_step function scope step)
    step_counted scope None = refl
    step_counted scope (Some s) = stop_alone scope s.spot

    -- a `for` with its body
    for_counted : (scope : List ℕ) (start : TypedStartTree) (spot : Spot) (c : Option RvalueTree) (step : Option StepTree) (body : TypedStatementTree)
        → at_statement all body (behind_scope all (scope ++ brought_by_start start) []) ≡ visible_at all (places_of function (scope ++ brought_by_start start) body)
        → at_statement all (For start spot c step body) (behind_scope all scope []) ≡ visible_at all (places_of function scope (For start spot c step body))
    for_counted scope start spot c step body within =
        let names = behind_scope all scope [] in
        let scope_in = scope ++ brought_by_start start in
        let same = inner scope start in
        let head = head_counted scope start spot c in
        let third = ap (at_step step) same ∙ step_counted scope_in step in
        let last = ap (at_statement all body) same ∙ within in
        let parts = at_append (places_of_head function scope start spot c ++ places_of_step function scope_in step) (places_of function scope_in body) in
        let front = at_append (places_of_head function scope start spot c) (places_of_step function scope_in step) in
        omega (arith, head, third, last, parts, front)

    mutual
      statement_counted : (scope : List ℕ) (s : TypedStatementTree) → at_statement all s (behind_scope all scope []) ≡ visible_at all (places_of function scope s)
      statement_counted scope (Block ss) = statements_counted scope ss
      statement_counted scope (Declaration ds) = declarators_counted scope ds
      statement_counted scope (Empty spot) = stop_alone scope spot
      statement_counted scope (Run spot a) = stop_alone scope spot
      statement_counted scope (If spot c s) = ap (λ n. length (behind_scope all scope []) + n) (statement_counted scope s) ∙ sym (stop_first scope spot (places_of function scope s))
      statement_counted scope (IfElse spot c s t) =
          let one = stop_first scope spot (places_of function scope s ++ places_of function scope t) in
          let both = at_append (places_of function scope s) (places_of function scope t) in
          let chosen = statement_counted scope s in
          let other = statement_counted scope t in
          omega (arith, one, both, chosen, other)
      statement_counted scope (While spot c s) = ap (λ n. length (behind_scope all scope []) + n) (statement_counted scope s) ∙ sym (stop_first scope spot (places_of function scope s))
      statement_counted scope (DoWhile s spot c) =
          let both = at_append (places_of function scope s) (stop function scope spot ∷ []) in
          let body = statement_counted scope s in
          let last = stop_alone scope spot in
          omega (arith, both, body, last)
      statement_counted scope (For start spot c step s) = for_counted scope start spot c step s (statement_counted (scope ++ brought_by_start start) s)
      statement_counted scope (Switch spot a ss) = ap (λ n. length (behind_scope all scope []) + n) (statements_counted scope ss) ∙ sym (stop_first scope spot (places_of_all function scope ss))
      statement_counted scope (Break spot) = stop_alone scope spot
      statement_counted scope (Continue spot) = stop_alone scope spot
      statement_counted scope (Return spot a) = stop_alone scope spot

      statements_counted : (scope : List ℕ) (ss : TypedStatementTrees) → at_statements all ss (behind_scope all scope []) ≡ visible_at all (places_of_all function scope ss)
      statements_counted scope none = refl
      statements_counted scope (first s ss) =
          let one = statement_counted scope s in
          let same = statement_behind s (behind_scope all scope []) ∙ sym (scope_more scope (brought s) []) in
          let rest = ap (at_statements all ss) same ∙ statements_counted (scope ++ brought s) ss in
          let both = at_append (places_of function scope s) (places_of_all function (scope ++ brought s) ss) in
          omega (arith, one, rest, both)
      statements_counted scope (case value ss) = statements_counted scope ss
      statements_counted scope (default ss) = statements_counted scope ss

  -- the closing brace of a function, where flow reaches it and where it does not
  close_by : (b : Bool) (function : ℕ) (scope : List ℕ) (spot : Spot) → (if b then length (behind_scope all scope []) else 0) ≡ visible_at all (if b then stop function scope spot ∷ [] else [])
  close_by true function scope spot = stop_alone function scope spot
  close_by false function scope spot = refl

  close_counted : (function : ℕ) (f : TypedFunctionTree) → at_close all f ≡ visible_at all (close_of function f)
  close_counted function f =
      ap (λ (names : List (List ℕ)). if reaches_end f.body then length names else 0) (body_behind f.body (behind_scope all (parameters_of f) []) ∙ sym (scope_more (parameters_of f) (brought_by_body f.body) []))
      ∙ close_by (reaches_end f.body) function (parameters_of f ++ brought_by_body f.body) f.close

  function_counted : (function : ℕ) (f : TypedFunctionTree) → at_function all f ≡ visible_at all (places_of_function function f)
  function_counted function f =
      let entry = at_cons (entry_of function f) (places_of_all function (parameters_of f) f.body ++ close_of function f) in
      let both = at_append (places_of_all function (parameters_of f) f.body) (close_of function f) in
      let body = statements_counted function (parameters_of f) f.body in
      let close = close_counted function f in
      let here : length (visible all (entry_of function f).scope) ≡ 0 = refl in
      omega (arith, entry, both, body, close, here)

  functions_counted : (function : ℕ) (fs : List TypedFunctionTree) → at_functions all fs ≡ visible_at all (places_of_functions function fs)
  functions_counted function [] = refl
  functions_counted function (f ∷ fs) =
      let one = function_counted function f in
      let rest = functions_counted (function + 1) fs in
      let walk = sum_by-cons (at_function all) f fs in
      let both = at_append (places_of_function function f) (places_of_functions (function + 1) fs) in
      omega (arith, one, rest, walk, both)

-- at the places of a program
pub pairs_counted : (p : ProgramTree) → at_functions p.automatics p.functions ≡ visible_pairs p
pairs_counted p = functions_counted p.automatics 0 p.functions
