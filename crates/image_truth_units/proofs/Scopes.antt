-- The variables in scope at a place of a function are the function's.
use Rattle.std.proofs.Common.{◌≡◌, ℕ, zero, suc, ◌+◌, ◌≤◌, ◌<◌, Bool, true, false, Option, Some, None, List, [], ◌∷◌, ◌++◌, length, map, slice_get, refl, ◌∙◌, arith}
use Rattle.std.specs.Prelude.{◌==◌, if◌then◌else◌}
use Rattle.std.specs.List.{AllByRecursion}
use Rattle.std.proofs.lemmas.Bool.{and_parts, eqb-true}
use Rattle.debug_records.specs.declared.source.Spot.{Spot}
use Rattle.c_tree.specs.TypedExpressions.{RvalueTree}
use Rattle.c_tree.specs.TypedStatements.{DeclaredTree, TypedStartTree, Nothing, Value, Declares, StepTree, TypedStatementTree, Block, Declaration, Empty, Run, If, IfElse, While, DoWhile, For, Switch, Break, Continue, Return, TypedStatementTrees, none, first, case, default}
use Rattle.c_tree.specs.Programs.{AutomaticTree, TypedFunctionTree, ProgramTree}
use Rattle.c_places.specs.Flow.{reaches_end}
use Rattle.c_places.specs.Places.{Place, stop, numbers_from, brought, brought_by_start, brought_by_body, parameters_of, close_of, places_of_declarators, places_of_start, places_of_head, places_of_step, places_of, places_of_all, places_of_function, places_of_functions, places_of_program, is_hidden, visible}
use Rattle.c_type_laws.specs.Laws.{IsWellFormed}
use Rattle.c_type_laws.specs.Orders.{is_numbered}
use Rattle.c_type_laws.specs.Declarations.{declared_by, declared_by_start, declared_in, declared_in_all}
use Rattle.graph_build_laws.proofs.Accepted.{FunctionFacts, facts_of}
use Rattle.base_laws.proofs.Lists.{both_all, parts_all}

-- ---- Lists

-- ---- Statements

-- these variables have a property
module _ (P : ℕ → Type 0) (f : ℕ) where
  abbrev Have : List ℕ → Type 0
  Have xs = AllByRecursion P xs

  -- A place is one of the function, and the variables in scope there have the property.
  abbrev Sees : Place → Type 0
  Sees q = (q.function ≡ f) × Have q.scope

  abbrev SeeAll : List Place → Type 0
  SeeAll all = AllByRecursion Sees all

  -- what is declared behind others has it with them
  by_declarators : (all : List DeclaredTree) (vs : List ℕ) → Have (declared_by all vs) → Have vs × Have (map (λ (d : DeclaredTree). d.variable) all)
  by_declarators [] vs h = (h, tt)
  by_declarators (d ∷ more) vs h =
      let rest = by_declarators more (vs ++ d.variable ∷ []) h in
      let own = parts_all P vs (d.variable ∷ []) rest.0 in (own.0, (own.1.0, rest.1))

  by_start : (s : TypedStartTree) (vs : List ℕ) → Have (declared_by_start s vs) → Have vs × Have (brought_by_start s)
  by_start Nothing vs h = (h, tt)
  by_start (Value spot e) vs h = (h, tt)
  by_start (Declares all) vs h = by_declarators all vs h

  mutual
    before_one : (s : TypedStatementTree) (vs : List ℕ) → Have (declared_in s vs) → Have vs
    before_one (Block all) vs h = before_all all vs h
    before_one (Declaration all) vs h = (by_declarators all vs h).0
    before_one (Empty spot) vs h = h
    before_one (Run spot e) vs h = h
    before_one (If spot e s) vs h = before_one s vs h
    before_one (IfElse spot e s r) vs h = before_one s vs (before_one r (declared_in s vs) h)
    before_one (While spot e s) vs h = before_one s vs h
    before_one (DoWhile s spot e) vs h = before_one s vs h
    before_one (For begin spot e step s) vs h = (by_start begin vs (before_one s (declared_by_start begin vs) h)).0
    before_one (Switch spot e all) vs h = before_all all vs h
    before_one (Break spot) vs h = h
    before_one (Continue spot) vs h = h
    before_one (Return spot e) vs h = h

    before_all : (all : TypedStatementTrees) (vs : List ℕ) → Have (declared_in_all all vs) → Have vs
    before_all none vs h = h
    before_all (first s rest) vs h = before_one s vs (before_all rest (declared_in s vs) h)
    before_all (case z rest) vs h = before_all rest vs h
    before_all (default rest) vs h = before_all rest vs h

  brought_have : (s : TypedStatementTree) (vs : List ℕ) → Have (declared_in s vs) → Have (brought s)
  brought_have (Block all) vs h = tt
  brought_have (Declaration all) vs h = (by_declarators all vs h).1
  brought_have (Empty spot) vs h = tt
  brought_have (Run spot e) vs h = tt
  brought_have (If spot e s) vs h = tt
  brought_have (IfElse spot e s r) vs h = tt
  brought_have (While spot e s) vs h = tt
  brought_have (DoWhile s spot e) vs h = tt
  brought_have (For begin spot e step s) vs h = tt
  brought_have (Switch spot e all) vs h = tt
  brought_have (Break spot) vs h = tt
  brought_have (Continue spot) vs h = tt
  brought_have (Return spot e) vs h = tt

  body_have : (all : TypedStatementTrees) (vs : List ℕ) → Have (declared_in_all all vs) → Have (brought_by_body all)
  body_have none vs h = tt
  body_have (first s rest) vs h = both_all P (brought s) (brought_by_body rest) (brought_have s vs (before_all rest (declared_in s vs) h)) (body_have rest (declared_in s vs) h)
  body_have (case z rest) vs h = body_have rest vs h
  body_have (default rest) vs h = body_have rest vs h

  -- what places see
  declarators_see : (scope : List ℕ) (all : List DeclaredTree) → Have scope → Have (map (λ (d : DeclaredTree). d.variable) all) → SeeAll (places_of_declarators f scope all)
  declarators_see scope [] s h = tt
  declarators_see scope (d ∷ all) s h = ((refl, s), declarators_see (scope ++ d.variable ∷ []) all (both_all P scope (d.variable ∷ []) s (h.0, tt)) h.1)

  start_sees : (scope : List ℕ) (b : TypedStartTree) → Have scope → Have (brought_by_start b) → SeeAll (places_of_start f scope b)
  start_sees scope Nothing s h = tt
  start_sees scope (Value spot e) s h = ((refl, s), tt)
  start_sees scope (Declares all) s h = declarators_see scope all s h

  head_sees : (scope : List ℕ) (b : TypedStartTree) (spot : Spot) (c : Option RvalueTree) → Have scope → Have (brought_by_start b) → SeeAll (places_of_head f scope b spot c)
  head_sees scope b spot None s h = ((refl, s), start_sees scope b s h)
  head_sees scope b spot (Some c) s h = both_all Sees (places_of_start f scope b) (stop f (scope ++ brought_by_start b) spot ∷ []) (start_sees scope b s h) ((refl, both_all P scope (brought_by_start b) s h), tt)

  step_sees : (scope : List ℕ) (t : Option StepTree) → Have scope → SeeAll (places_of_step f scope t)
  step_sees scope None s = tt
  step_sees scope (Some t) s = ((refl, s), tt)

  mutual
    statement_sees : (t : TypedStatementTree) (scope vs : List ℕ) → Have scope → Have (declared_in t vs) → SeeAll (places_of f scope t)
    statement_sees (Block all) scope vs s h = statements_see all scope vs s h
    statement_sees (Declaration all) scope vs s h = declarators_see scope all s (by_declarators all vs h).1
    statement_sees (Empty spot) scope vs s h = ((refl, s), tt)
    statement_sees (Run spot e) scope vs s h = ((refl, s), tt)
    statement_sees (If spot e t) scope vs s h = ((refl, s), statement_sees t scope vs s h)
    statement_sees (IfElse spot e t r) scope vs s h = ((refl, s), both_all Sees (places_of f scope t) (places_of f scope r) (statement_sees t scope vs s (before_one r (declared_in t vs) h)) (statement_sees r scope (declared_in t vs) s h))
    statement_sees (While spot e t) scope vs s h = ((refl, s), statement_sees t scope vs s h)
    statement_sees (DoWhile t spot e) scope vs s h = both_all Sees (places_of f scope t) (stop f scope spot ∷ []) (statement_sees t scope vs s h) ((refl, s), tt)
    statement_sees (For begin spot e step t) scope vs s h = (
        let own = (by_start begin vs (before_one t (declared_by_start begin vs) h)).1 in
        let inside = both_all P scope (brought_by_start begin) s own in
        both_all Sees (places_of_head f scope begin spot e ++ places_of_step f (scope ++ brought_by_start begin) step) (places_of f (scope ++ brought_by_start begin) t)
        (both_all Sees (places_of_head f scope begin spot e) (places_of_step f (scope ++ brought_by_start begin) step) (head_sees scope begin spot e s own) (step_sees (scope ++ brought_by_start begin) step inside))
        (statement_sees t (scope ++ brought_by_start begin) (declared_by_start begin vs) inside h))
    statement_sees (Switch spot e all) scope vs s h = ((refl, s), statements_see all scope vs s h)
    statement_sees (Break spot) scope vs s h = ((refl, s), tt)
    statement_sees (Continue spot) scope vs s h = ((refl, s), tt)
    statement_sees (Return spot e) scope vs s h = ((refl, s), tt)

    statements_see : (all : TypedStatementTrees) (scope vs : List ℕ) → Have scope → Have (declared_in_all all vs) → SeeAll (places_of_all f scope all)
    statements_see none scope vs s h = tt
    statements_see (first t rest) scope vs s h = (
        let here = before_all rest (declared_in t vs) h in
        both_all Sees (places_of f scope t) (places_of_all f (scope ++ brought t) rest) (statement_sees t scope vs s here)
        (statements_see rest (scope ++ brought t) (declared_in t vs) (both_all P scope (brought t) s (brought_have t vs here)) h))
    statements_see (case z rest) scope vs s h = statements_see rest scope vs s h
    statements_see (default rest) scope vs s h = statements_see rest scope vs s h

  function_sees : (tree : TypedFunctionTree) → Have (parameters_of tree) → Have (declared_in_all tree.body []) → SeeAll (places_of_function f tree)
  function_sees tree s h = ((refl, tt), both_all Sees (places_of_all f (parameters_of tree) tree.body) (close_of f tree) (statements_see tree.body (parameters_of tree) [] s h) (closed (reaches_end tree.body)))
    where
      closed : (b : Bool) → SeeAll (if b then stop f (parameters_of tree ++ brought_by_body tree.body) tree.close ∷ [] else [])
      closed true = ((refl, both_all P (parameters_of tree) (brought_by_body tree.body) s (body_have tree.body [] h)), tt)
      closed false = tt

-- ---- Functions

-- a variable is one of a function
abbrev pub IsOf : TypedFunctionTree → ℕ → Type 0
IsOf f x = (f.first_variable ≤ x) × (x < f.first_variable + f.variables)

within_numbers : (f : TypedFunctionTree) (base : ℕ) (xs : List ℕ) → is_numbered base xs ≡ true → f.first_variable ≤ base → base + length xs ≤ f.first_variable + f.variables → AllByRecursion (IsOf f) xs
within_numbers f base [] h low high = tt
within_numbers f base (x ∷ xs) h low high =
    let b = and_parts (x == base) (is_numbered (base + 1) xs) h in
    let same = eqb-true x base b.0 in
    ((omega (arith, same, low), omega (arith, same, high)), within_numbers f (base + 1) xs b.1 (omega (arith, low)) (omega (arith, high)))

within_from : (f : TypedFunctionTree) (base count : ℕ) → f.first_variable ≤ base → base + count ≤ f.first_variable + f.variables → AllByRecursion (IsOf f) (numbers_from base count)
within_from f base zero low high = tt
within_from f base (suc count) low high = ((omega (arith, low), omega (arith, high)), within_from f (base + 1) count (omega (arith, low)) (omega (arith, high)))

-- A place is one of a function of these, the first of which has this number, and sees variables of this function alone.
pub record SeesOwn (number : ℕ) (all : List TypedFunctionTree) (q : Place) : Type 0 where
  pub index : ℕ
  pub tree : TypedFunctionTree
  pub is : slice_get all index ≡ Some tree
  pub function : q.function ≡ number + index
  pub own : AllByRecursion (IsOf tree) q.scope

one_sees : (number : ℕ) (tree : TypedFunctionTree) (more : List TypedFunctionTree) (places : List Place) → AllByRecursion (Sees (IsOf tree) number) places → AllByRecursion (SeesOwn number (tree ∷ more)) places
one_sees number tree more [] h = tt
one_sees number tree more (q ∷ places) h =
    let none : number ≡ number + 0 = omega arith in (record { index = 0; tree = tree; is = refl; function = h.0.0 ∙ none; own = h.0.1 }, one_sees number tree more places h.1)

later_see : (number : ℕ) (f : TypedFunctionTree) (more : List TypedFunctionTree) (places : List Place) → AllByRecursion (SeesOwn (number + 1) more) places → AllByRecursion (SeesOwn number (f ∷ more)) places
later_see number f more [] h = tt
later_see number f more (q ∷ places) h =
    let one = h.0 in
    let same : number + 1 + one.index ≡ number + suc one.index = omega arith in
    (record { index = suc one.index; tree = one.tree; is = one.is; function = one.function ∙ same; own = one.own }, later_see number f more places h.1)

functions_see : (p : ProgramTree) (number : ℕ) (all : List TypedFunctionTree) → ((k : ℕ) (f : TypedFunctionTree) → slice_get all k ≡ Some f → FunctionFacts p f) → AllByRecursion (SeesOwn number all) (places_of_functions number all)
functions_see p number [] facts = tt
functions_see p number (f ∷ more) facts =
    let fact = facts 0 f refl in
    let many = fact.declared in
    both_all (SeesOwn number (f ∷ more)) (places_of_function number f) (places_of_functions (number + 1) more)
    (one_sees number f more (places_of_function number f) (function_sees (IsOf f) number f (within_from f f.first_variable f.parameters (omega arith) (omega (arith, many)))
    (within_numbers f (f.first_variable + f.parameters) (declared_in_all f.body []) fact.numbered (omega arith) (omega (arith, many)))))
    (later_see number f more (places_of_functions (number + 1) more) (functions_see p (number + 1) more (λ k g e. facts (suc k) g e)))

-- The variables in scope at a place of a well-formed program are those of the place's function.
pub program_sees : (p : ProgramTree) → IsWellFormed p → AllByRecursion (SeesOwn 0 p.functions) (places_of_program p)
program_sees p formed = functions_see p 0 p.functions (facts_of p formed).functions

-- What is visible is in scope.
pub visible_have : (P : ℕ → Type 0) (all : List AutomaticTree) (scope : List ℕ) → AllByRecursion P scope → AllByRecursion P (visible all scope)
visible_have P all [] h = tt
visible_have P all (x ∷ later) h = by (is_hidden all x later) (visible_have P all later h.1)
  where
    by : (b : Bool) → AllByRecursion P (visible all later) → AllByRecursion P (if b then visible all later else x ∷ visible all later)
    by true rest = rest
    by false rest = (h.0, rest)
