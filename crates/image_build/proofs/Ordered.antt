-- The variables in scope at a place of a function are the function's, and ascend.
use Rattle.std.proofs.Common.{◌≡◌, ℕ, zero, suc, ◌+◌, ◌≤◌, Bool, true, false, Option, Some, None, List, [], ◌∷◌, ◌++◌, length, map, slice_get, refl, ◌∙◌, subst, arith}
use Rattle.std.specs.Prelude.{◌==◌, ◌&&◌, if◌then◌else◌}
use Rattle.std.specs.List.{AllByRecursion}
use Rattle.std.proofs.lemmas.Bool.{and_parts, eqb-true}
use Rattle.std.proofs.lemmas.List.{length-append}
use Rattle.debug_records.specs.declared.source.Spot.{Spot}
use Rattle.c_tree.specs.TypedExpressions.{RvalueTree}
use Rattle.c_tree.specs.TypedStatements as statement
use Rattle.c_tree.specs.TypedStatements.{DeclaredTree, TypedStartTree, Nothing, Value, Declares, StepTree, TypedStatementTree, Block, Declaration, Empty, Run, If, IfElse, While, DoWhile, For, Switch, Break, Continue, Return, TypedStatementTrees, case, default}
use Rattle.c_tree.specs.Programs.{AutomaticTree, TypedFunctionTree, ProgramTree}
use Rattle.c_places.specs.Flow.{reaches_end}
use Rattle.c_places.specs.Places.{Place, stop, numbers_from, brought, brought_by_start, brought_by_body, parameters_of, close_of, places_of_declarators, places_of_start, places_of_head, places_of_step, places_of, places_of_all, places_of_function, places_of_functions, is_hidden, visible}
use Rattle.c_type_laws.specs.Laws.{are_functions, is_function, declares_its_own, are_in_memory, keeps_limits}
use Rattle.c_type_laws.specs.Orders.{is_numbered}
use Rattle.c_type_laws.specs.Declarations.{declared_by, declared_by_start, declared_in, declared_in_all}
use Rattle.c_type_laws.specs.Plain.{are_plain}
use Rattle.c_type_laws.specs.Statements.{are_statements}
use Rattle.c_places.specs.Memory.{kept_by_all}
use Rattle.image_build.proofs.Lists.{Up, up_lower, up_higher, up_both, numbered_parts, both_all}

abbrev variables_of : List DeclaredTree → List ℕ
variables_of all = map (λ (d : DeclaredTree). d.variable) all

-- ---- What is declared goes up by one

module _ (base : ℕ) where
  abbrev Num : List ℕ → Type 0
  Num vs = is_numbered base vs ≡ true

  -- the number behind these
  abbrev top : List ℕ → ℕ
  top vs = base + length vs

  -- some are numbered, and others stand behind them
  abbrev Grows : (vs ws : List ℕ) → Type 0
  Grows vs ws = Num vs × (top vs ≤ top ws)

  grows_on : (vs us ws : List ℕ) → Grows vs us → top us ≤ top ws → Grows vs ws
  grows_on vs us ws g le = let first = g.1 in (g.0, omega (arith, first, le))

  -- one more is declared
  one_more : (vs : List ℕ) (d : ℕ) → d ≡ base + length vs → top (vs ++ d ∷ []) ≡ d + 1
  one_more vs d is = let long = length-append vs (d ∷ []) in omega (arith, is, long)

  by_declarators : (all : List DeclaredTree) (vs : List ℕ) → Num (declared_by all vs) → Grows vs (declared_by all vs) × Up (top vs) (top (declared_by all vs)) (variables_of all)
  by_declarators [] vs h = ((h, omega arith), omega arith)
  by_declarators (d ∷ more) vs h =
      let rest = by_declarators more (vs ++ d.variable ∷ []) h in
      let parts = numbered_parts base vs d.variable rest.0.0 in
      let is = parts.1 in
      let next = one_more vs d.variable is in
      let further = rest.0.1 in
      ((parts.0, omega (arith, is, next, further)), (omega (arith, is), subst (λ n. Up n (top (declared_by more (vs ++ d.variable ∷ []))) (variables_of more)) next rest.1))

  by_start : (s : TypedStartTree) (vs : List ℕ) → Num (declared_by_start s vs) → Grows vs (declared_by_start s vs) × Up (top vs) (top (declared_by_start s vs)) (brought_by_start s)
  by_start Nothing vs h = ((h, omega arith), omega arith)
  by_start (Value spot e) vs h = ((h, omega arith), omega arith)
  by_start (Declares all) vs h = by_declarators all vs h

  mutual
    by_one : (s : TypedStatementTree) (vs : List ℕ) → Num (declared_in s vs) → Grows vs (declared_in s vs)
    by_one (Block all) vs h = by_all all vs h
    by_one (Declaration all) vs h = (by_declarators all vs h).0
    by_one (Empty spot) vs h = (h, omega arith)
    by_one (Run spot e) vs h = (h, omega arith)
    by_one (If spot e s) vs h = by_one s vs h
    by_one (IfElse spot e s t) vs h = let last = by_one t (declared_in s vs) h in grows_on vs (declared_in s vs) (declared_in t (declared_in s vs)) (by_one s vs last.0) last.1
    by_one (While spot e s) vs h = by_one s vs h
    by_one (DoWhile s spot e) vs h = by_one s vs h
    by_one (For begin spot e step s) vs h = let last = by_one s (declared_by_start begin vs) h in grows_on vs (declared_by_start begin vs) (declared_in s (declared_by_start begin vs)) (by_start begin vs last.0).0 last.1
    by_one (Switch spot e all) vs h = by_all all vs h
    by_one (Break spot) vs h = (h, omega arith)
    by_one (Continue spot) vs h = (h, omega arith)
    by_one (Return spot e) vs h = (h, omega arith)

    by_all : (all : TypedStatementTrees) (vs : List ℕ) → Num (declared_in_all all vs) → Grows vs (declared_in_all all vs)
    by_all statement.none vs h = (h, omega arith)
    by_all (statement.first s rest) vs h = let last = by_all rest (declared_in s vs) h in grows_on vs (declared_in s vs) (declared_in_all rest (declared_in s vs)) (by_one s vs last.0) last.1
    by_all (case z rest) vs h = by_all rest vs h
    by_all (default rest) vs h = by_all rest vs h

  brought_up : (s : TypedStatementTree) (vs : List ℕ) → Num (declared_in s vs) → Up (top vs) (top (declared_in s vs)) (brought s)
  brought_up (Block all) vs h = (by_all all vs h).1
  brought_up (Declaration all) vs h = (by_declarators all vs h).1
  brought_up (Empty spot) vs h = omega arith
  brought_up (Run spot e) vs h = omega arith
  brought_up (If spot e s) vs h = (by_one s vs h).1
  brought_up (IfElse spot e s t) vs h = (by_one (IfElse spot e s t) vs h).1
  brought_up (While spot e s) vs h = (by_one s vs h).1
  brought_up (DoWhile s spot e) vs h = (by_one s vs h).1
  brought_up (For begin spot e step s) vs h = (by_one (For begin spot e step s) vs h).1
  brought_up (Switch spot e all) vs h = (by_all all vs h).1
  brought_up (Break spot) vs h = omega arith
  brought_up (Continue spot) vs h = omega arith
  brought_up (Return spot e) vs h = omega arith

  body_up : (all : TypedStatementTrees) (vs : List ℕ) → Num (declared_in_all all vs) → Up (top vs) (top (declared_in_all all vs)) (brought_by_body all)
  body_up statement.none vs h = omega arith
  body_up (statement.first s rest) vs h =
      let last = by_all rest (declared_in s vs) h in
      up_both (top vs) (top (declared_in s vs)) (top (declared_in_all rest (declared_in s vs))) (brought s) (brought_by_body rest) (brought_up s vs last.0) (body_up rest (declared_in s vs) h)
  body_up (case z rest) vs h = body_up rest vs h
  body_up (default rest) vs h = body_up rest vs h

  -- ---- What places see ascends

  module _ (low high f : ℕ) where
    -- a place is one of the function, and the variables in scope there ascend between two numbers
    abbrev pub Sees : Place → Type 0
    Sees q = (q.function ≡ f) × Up low high q.scope

    abbrev SeeAll : List Place → Type 0
    SeeAll all = AllByRecursion Sees all

    sees : (vs scope : List ℕ) → Up low (top vs) scope → top vs ≤ high → Up low high scope
    sees vs scope up le = up_higher low (top vs) high scope up le

    declarators_see : (all : List DeclaredTree) (scope vs : List ℕ) → Up low (top vs) scope → Num (declared_by all vs) → top (declared_by all vs) ≤ high → SeeAll (places_of_declarators f scope all)
    declarators_see [] scope vs up h le = tt
    declarators_see (d ∷ all) scope vs up h le =
        let rest = by_declarators all (vs ++ d.variable ∷ []) h in
        let parts = numbered_parts base vs d.variable rest.0.0 in
        let is = parts.1 in
        let next = one_more vs d.variable is in
        let further = rest.0.1 in (
          (refl, sees vs scope up (omega (arith, is, next, further, le))),
          declarators_see all (scope ++ d.variable ∷ []) (vs ++ d.variable ∷ []) (up_both low (top vs) (top (vs ++ d.variable ∷ [])) scope (d.variable ∷ []) up (omega (arith, is), omega (arith, next))) h le,
        )

    start_sees : (b : TypedStartTree) (scope vs : List ℕ) → Up low (top vs) scope → Num (declared_by_start b vs) → top (declared_by_start b vs) ≤ high → SeeAll (places_of_start f scope b)
    start_sees Nothing scope vs up h le = tt
    start_sees (Value spot e) scope vs up h le = ((refl, sees vs scope up le), tt)
    start_sees (Declares all) scope vs up h le = declarators_see all scope vs up h le

    head_sees : (b : TypedStartTree) (spot : Spot) (c : Option RvalueTree) (scope vs : List ℕ) → Up low (top vs) scope → Num (declared_by_start b vs) → top (declared_by_start b vs) ≤ high → SeeAll (places_of_head f scope b spot c)
    head_sees b spot None scope vs up h le = (let grown = (by_start b vs h).0.1 in ((refl, sees vs scope up (omega (arith, grown, le))), start_sees b scope vs up h le))
    head_sees b spot (Some c) scope vs up h le = (
        let own = (by_start b vs h).1 in
        both_all Sees (places_of_start f scope b) (stop f (scope ++ brought_by_start b) spot ∷ []) (start_sees b scope vs up h le)
        ((refl, sees (declared_by_start b vs) (scope ++ brought_by_start b) (up_both low (top vs) (top (declared_by_start b vs)) scope (brought_by_start b) up own) le), tt))

    step_sees : (t : Option StepTree) (scope : List ℕ) → Up low high scope → SeeAll (places_of_step f scope t)
    step_sees None scope up = tt
    step_sees (Some t) scope up = ((refl, up), tt)

    mutual
      one_sees : (t : TypedStatementTree) (scope vs : List ℕ) → Up low (top vs) scope → Num (declared_in t vs) → top (declared_in t vs) ≤ high → SeeAll (places_of f scope t)
      one_sees (Block all) scope vs up h le = each_sees all scope vs up h le
      one_sees (Declaration all) scope vs up h le = declarators_see all scope vs up h le
      one_sees (Empty spot) scope vs up h le = ((refl, sees vs scope up le), tt)
      one_sees (Run spot e) scope vs up h le = ((refl, sees vs scope up le), tt)
      one_sees (If spot e t) scope vs up h le = (let grown = (by_one t vs h).1 in ((refl, sees vs scope up (omega (arith, grown, le))), one_sees t scope vs up h le))
      one_sees (IfElse spot e t r) scope vs up h le = (
          let last = by_one r (declared_in t vs) h in
          let later = last.1 in
          let grown = (by_one t vs last.0).1 in (
            (refl, sees vs scope up (omega (arith, grown, later, le))),
            both_all Sees (places_of f scope t) (places_of f scope r) (one_sees t scope vs up last.0 (omega (arith, later, le))) (one_sees r scope (declared_in t vs) (up_higher low (top vs) (top (declared_in t vs)) scope up grown) h le),
          ))
      one_sees (While spot e t) scope vs up h le = (let grown = (by_one t vs h).1 in ((refl, sees vs scope up (omega (arith, grown, le))), one_sees t scope vs up h le))
      one_sees (DoWhile t spot e) scope vs up h le = (
          let grown = (by_one t vs h).1 in
          both_all Sees (places_of f scope t) (stop f scope spot ∷ []) (one_sees t scope vs up h le) ((refl, sees vs scope up (omega (arith, grown, le))), tt))
      one_sees (For begin spot e step t) scope vs up h le = (
          let last = by_one t (declared_by_start begin vs) h in
          let later = last.1 in
          let own = (by_start begin vs last.0).1 in
          let inside = up_both low (top vs) (top (declared_by_start begin vs)) scope (brought_by_start begin) up own in
          both_all Sees (places_of_head f scope begin spot e ++ places_of_step f (scope ++ brought_by_start begin) step) (places_of f (scope ++ brought_by_start begin) t)
          (both_all Sees (places_of_head f scope begin spot e) (places_of_step f (scope ++ brought_by_start begin) step) (head_sees begin spot e scope vs up last.0 (omega (arith, later, le)))
          (step_sees step (scope ++ brought_by_start begin) (sees (declared_by_start begin vs) (scope ++ brought_by_start begin) inside (omega (arith, later, le)))))
          (one_sees t (scope ++ brought_by_start begin) (declared_by_start begin vs) inside h le))
      one_sees (Switch spot e all) scope vs up h le = (let grown = (by_all all vs h).1 in ((refl, sees vs scope up (omega (arith, grown, le))), each_sees all scope vs up h le))
      one_sees (Break spot) scope vs up h le = ((refl, sees vs scope up le), tt)
      one_sees (Continue spot) scope vs up h le = ((refl, sees vs scope up le), tt)
      one_sees (Return spot e) scope vs up h le = ((refl, sees vs scope up le), tt)

      each_sees : (all : TypedStatementTrees) (scope vs : List ℕ) → Up low (top vs) scope → Num (declared_in_all all vs) → top (declared_in_all all vs) ≤ high → SeeAll (places_of_all f scope all)
      each_sees statement.none scope vs up h le = tt
      each_sees (statement.first t rest) scope vs up h le = (
          let last = by_all rest (declared_in t vs) h in
          let later = last.1 in
          both_all Sees (places_of f scope t) (places_of_all f (scope ++ brought t) rest) (one_sees t scope vs up last.0 (omega (arith, later, le)))
          (each_sees rest (scope ++ brought t) (declared_in t vs) (up_both low (top vs) (top (declared_in t vs)) scope (brought t) up (brought_up t vs last.0)) h le))
      each_sees (case z rest) scope vs up h le = each_sees rest scope vs up h le
      each_sees (default rest) scope vs up h le = each_sees rest scope vs up h le

-- ---- Functions

up_from : (least count : ℕ) → Up least (least + count) (numbers_from least count)
up_from least zero = omega arith
up_from least (suc count) =
    let rest = up_from (least + 1) count in
    let same : least + 1 + count ≡ least + suc count = omega arith in
    (omega arith, subst (λ n. Up (least + 1) n (numbers_from (least + 1) count)) same rest)

-- a function's declarators declare its variables behind its parameters
record OwnOf (f : TypedFunctionTree) : Type 0 where
  numbered : is_numbered (f.first_variable + f.parameters) (declared_in_all f.body []) ≡ true
  declared : length (declared_in_all f.body []) + f.parameters ≡ f.variables

own_of : (p : ProgramTree) (f : TypedFunctionTree) → is_function p f ≡ true → OwnOf f
own_of p f h =
    let a = and_parts (are_statements p f false false None f.body && declares_its_own f && are_in_memory p.automatics (kept_by_all f.body []) && keeps_limits p.automatics f) (are_plain f.body) h in
    let b = and_parts (are_statements p f false false None f.body && declares_its_own f && are_in_memory p.automatics (kept_by_all f.body [])) (keeps_limits p.automatics f) a.0 in
    let c = and_parts (are_statements p f false false None f.body && declares_its_own f) (are_in_memory p.automatics (kept_by_all f.body [])) b.0 in
    let d = and_parts (are_statements p f false false None f.body) (declares_its_own f) c.0 in
    let own = and_parts (is_numbered (f.first_variable + f.parameters) (declared_in_all f.body [])) (length (declared_in_all f.body []) + f.parameters == f.variables) d.1 in
    record { numbered = own.0; declared = eqb-true (length (declared_in_all f.body []) + f.parameters) f.variables own.1 }

function_sees : (n : ℕ) (tree : TypedFunctionTree) → OwnOf tree → AllByRecursion (Sees (tree.first_variable + tree.parameters) tree.first_variable (tree.first_variable + tree.variables) n) (places_of_function n tree)
function_sees n tree own =
    let base = tree.first_variable + tree.parameters in
    let low = tree.first_variable in
    let high = tree.first_variable + tree.variables in
    let many = own.declared in
    let whole : base + length (declared_in_all tree.body []) ≤ high = omega (arith, many) in
    let start : Up low (base + 0) (parameters_of tree) = up_higher low base (base + 0) (parameters_of tree) (up_from low tree.parameters) (omega arith) in (
      (refl, omega arith),
      both_all (Sees base low high n) (places_of_all n (parameters_of tree) tree.body) (close_of n tree) (each_sees base low high n tree.body (parameters_of tree) [] start own.numbered whole)
          (closed (reaches_end tree.body)
          (up_higher low (base + length (declared_in_all tree.body [])) high (parameters_of tree ++ brought_by_body tree.body) (up_both low (base + 0) (base + length (declared_in_all tree.body [])) (parameters_of tree) (brought_by_body tree.body) start (body_up base tree.body [] own.numbered)) whole)),
    )
  where
    closed : (b : Bool) → Up tree.first_variable (tree.first_variable + tree.variables) (parameters_of tree ++ brought_by_body tree.body)
        → AllByRecursion (Sees (tree.first_variable + tree.parameters) tree.first_variable (tree.first_variable + tree.variables) n) (if b then stop n (parameters_of tree ++ brought_by_body tree.body) tree.close ∷ [] else [])
    closed true up = ((refl, up), tt)
    closed false up = tt

-- A place is one of a function of these, the first of which has this number, and the variables in scope there are this function's, and ascend.
pub record SeesOwn (number : ℕ) (all : List TypedFunctionTree) (q : Place) : Type 0 where
  pub index : ℕ
  pub tree : TypedFunctionTree
  pub is : slice_get all index ≡ Some tree
  pub function : q.function ≡ number + index
  pub own : Up tree.first_variable (tree.first_variable + tree.variables) q.scope

first_sees : (number : ℕ) (tree : TypedFunctionTree) (more : List TypedFunctionTree) (places : List Place) → AllByRecursion (Sees (tree.first_variable + tree.parameters) tree.first_variable (tree.first_variable + tree.variables) number) places → AllByRecursion (SeesOwn number (tree ∷ more)) places
first_sees number tree more [] h = tt
first_sees number tree more (q ∷ places) h =
    let none : number ≡ number + 0 = omega arith in (record { index = 0; tree = tree; is = refl; function = h.0.0 ∙ none; own = h.0.1 }, first_sees number tree more places h.1)

later_see : (number : ℕ) (f : TypedFunctionTree) (more : List TypedFunctionTree) (places : List Place) → AllByRecursion (SeesOwn (number + 1) more) places → AllByRecursion (SeesOwn number (f ∷ more)) places
later_see number f more [] h = tt
later_see number f more (q ∷ places) h =
    let one = h.0 in
    let same : number + 1 + one.index ≡ number + suc one.index = omega arith in
    (record { index = suc one.index; tree = one.tree; is = one.is; function = one.function ∙ same; own = one.own }, later_see number f more places h.1)

pub functions_see : (p : ProgramTree) (number : ℕ) (all : List TypedFunctionTree) → are_functions p all ≡ true → AllByRecursion (SeesOwn number all) (places_of_functions number all)
functions_see p number [] h = tt
functions_see p number (f ∷ more) h =
    let parts = and_parts (is_function p f) (are_functions p more) h in
    both_all (SeesOwn number (f ∷ more)) (places_of_function number f) (places_of_functions (number + 1) more) (first_sees number f more (places_of_function number f) (function_sees number f (own_of p f parts.0)))
    (later_see number f more (places_of_functions (number + 1) more) (functions_see p (number + 1) more parts.1))

-- ---- What is visible

visible_step : (all : List AutomaticTree) (low high x : ℕ) (later : List ℕ) (b : Bool) → low ≤ x → Up (x + 1) high (visible all later) → Up low high (if b then visible all later else x ∷ visible all later)
visible_step all low high x later true le rest = up_lower low (x + 1) high (visible all later) (omega (arith, le)) rest
visible_step all low high x later false le rest = (le, rest)

-- What is visible ascends where what is in scope does.
pub visible_up : (all : List AutomaticTree) (low high : ℕ) (scope : List ℕ) → Up low high scope → Up low high (visible all scope)
visible_up all low high [] up = up
visible_up all low high (x ∷ later) up = visible_step all low high x later (is_hidden all x later) up.0 (visible_up all (x + 1) high later up.1)
