-- The changes that tell of shared registers can be told: they are of scalars, each declared at a place of the program.
use Rattle.std.proofs.Common.{◌≡◌, ◌≢◌, ℕ, zero, suc, ◌+◌, ◌≤◌, ◌<◌, inl, inr, Bool, true, false, Option, Some, None, List, [], ◌∷◌, ◌++◌, length, map, slice_get, refl, sym, ap, ◌∙◌, subst, arith}
use Rattle.std.specs.Prelude.{◌==◌, nat_le, nat_lt, if◌then◌else◌}
use Rattle.std.specs.List.{AllByRecursion}
use Rattle.std.specs.Option.{option_map_or}
use Rattle.std.proofs.lemmas.Bool.{cases_lt}
use Rattle.std.proofs.lemmas.Option.{none-some, same_Some, slice_get_within}
use Rattle.event_runs.specs.Agreement.{Pairs}
use Rattle.debug_records.specs.Change.{IsPassName, letters}
use Rattle.debug_records.specs.declared.change.Kind.TheVariants.{Reused, Sunk}
use Rattle.debug_records.specs.declared.source.Spot.{Spot}
use Rattle.c_tree.specs.declared.types.IntegerType.{IntegerType}
use Rattle.c_tree.specs.TypedExpressions.{RvalueTree}
use Rattle.c_tree.specs.TypedStatements as statement
use Rattle.c_tree.specs.TypedStatements.{DeclaredTree, TypedStartTree, Nothing, Value, Declares, TypedStatementTree, Block, Declaration, Empty, Run, If, IfElse, While, DoWhile, For, Switch, Break, Continue, Return, TypedStatementTrees, case, default}
use Rattle.c_tree.specs.Programs.{AutomaticTree, TypedFunctionTree, ProgramTree}
use Rattle.c_places.specs.Places.{Place, stop, brought, brought_by_start, close_of, place_number_at, parameters_of, places_of, places_of_all, places_of_declarators, places_of_function, places_of_functions, places_of_head, places_of_program, places_of_start, places_of_step}
use Rattle.c_type_laws.specs.Declarations.{declared_by, declared_by_start, declared_in, declared_in_all}
use Rattle.c_type_laws.specs.Expressions.{kind_of}
use Rattle.c_type_laws.specs.Kinds.{is_scalar}
use Rattle.c_type_laws.specs.Laws.{IsWellFormed}
use Rattle.c_type_laws.specs.Orders.{is_numbered}
use Rattle.c_type_laws.specs.Statements.{are_declared, are_statements, declares_as, initialises, is_condition, is_declared, is_label, is_start, is_statement, is_step, is_switch, may_stand, same_spot, tested_type}
use Rattle.graph_core.specs.Graphs.{Graph, Scalar, UnitForm}
use Rattle.graph_core.specs.Paths.{Among, front, behind}
use Rattle.graph_build_names.specs.Names.{names_of, scalar_of}
use Rattle.graph_build.specs.Units.{IsUnitOf, declared_at, function_coding, is_again, scalar_record, scalars_among, variables_in}
use Rattle.graph_build_laws.proofs.Accepted as accepted
use Rattle.graph_homes.specs.declared.home.Home.{Home}
use Rattle.graph_homes.specs.Homed.{HomedForm, home_of}
use Rattle.home_assign.specs.Changes.{HaveChanges, IsSharing, Sharing, homes_pass}
use Rattle.home_assign.specs.Sharing.{change_of}
use Rattle.pass_law.specs.Keeps.{SameFunction}
use Rattle.image_truth_units.specs.Changes.{CanBeTold}
use Rattle.image_truth_units.specs.Units.{HasVariablesIn}
use Rattle.image_truth_units.proofs.Accepted.{facts_of}
use Rattle.image_truth_units.proofs.ImageUnitsWhole.{of_graph}
use Rattle.image_truth_units.proofs.Picked.{picked_at, scalars_picked}
use Rattle.image_truth_units.proofs.ProgramPlaces.{numbered_at}
use Rattle.base_laws.proofs.Booleans.{two_true, three_true, four_true}
use Rattle.base_laws.proofs.Lists.{both_all, each_from, from_map, parts_all}
use Rattle.base_laws.proofs.Numbers.{are_equal, not_less}
use Rattle.image_build.proofs.Carried.{graph_back}

-- ---- The variables that a function declares

-- Positions of places have a property.
module _ (p : ProgramTree) (f : TypedFunctionTree) (number : ℕ) (P : (at : ℕ) → Type 0) where
  -- a place stands at such a position
  abbrev Stands : Place → Type 0
  Stands q = P q.spot.at

  abbrev AllStand : List Place → Type 0
  AllStand all = AllByRecursion Stands all

  -- an automatic variable is declared at such a position
  abbrev IsDeclaredThere : ℕ → Type 0
  IsDeclaredThere x = (a : AutomaticTree) → slice_get p.automatics x ≡ Some a → P a.spot.at

  abbrev AreDeclaredThere : List ℕ → Type 0
  AreDeclaredThere xs = AllByRecursion IsDeclaredThere xs

  declarator : (d : DeclaredTree) → is_declared p f d ≡ true → P d.spot.at → IsDeclaredThere d.variable
  declarator d h here a is =
      let parts = three_true (nat_le (f.first_variable + f.parameters) d.variable) (nat_lt d.variable (f.first_variable + f.variables)) (declares_as p f d (slice_get p.automatics d.variable)) h in
      let found : declares_as p f d (Some a) ≡ true = ap (declares_as p f d) (sym is) ∙ parts.2 in
      let spot = (two_true (same_spot d.spot a.spot) (initialises p f a.of d.initial) found).0 in
      subst P (are_equal d.spot.at a.spot.at (two_true (d.spot.at == a.spot.at) (d.spot.line == a.spot.line) spot).0) here

  declarators : (all : List DeclaredTree) (scope vs : List ℕ) → are_declared p f all ≡ true → AllStand (places_of_declarators number scope all) → AreDeclaredThere vs → AreDeclaredThere (declared_by all vs)
  declarators [] scope vs h stand before = before
  declarators (d ∷ all) scope vs h stand before =
      let parts = two_true (is_declared p f d) (are_declared p f all) h in
      declarators all (scope ++ d.variable ∷ []) (vs ++ d.variable ∷ []) parts.1 stand.1 (both_all IsDeclaredThere vs (d.variable ∷ []) before (declarator d parts.0 stand.0, tt))

  start : (s : TypedStartTree) (scope vs : List ℕ) → is_start p f s ≡ true → AllStand (places_of_start number scope s) → AreDeclaredThere vs → AreDeclaredThere (declared_by_start s vs)
  start Nothing scope vs h stand before = before
  start (Value spot e) scope vs h stand before = before
  start (Declares all) scope vs h stand before = declarators all scope vs h stand before

  start_in_head : (s : TypedStartTree) (scope : List ℕ) (spot : Spot) (c : Option RvalueTree) → AllStand (places_of_head number scope s spot c) → AllStand (places_of_start number scope s)
  start_in_head s scope spot None stand = stand.1
  start_in_head s scope spot (Some c) stand = (parts_all Stands (places_of_start number scope s) (stop number (scope ++ brought_by_start s) spot ∷ []) stand).0

  mutual
    in_one : (b c : Bool) (s : TypedStatementTree) (scope vs : List ℕ) → is_statement p f b c s ≡ true → AllStand (places_of number scope s) → AreDeclaredThere vs → AreDeclaredThere (declared_in s vs)
    in_one b c (Block all) scope vs h stand before = in_all b c None all scope vs h stand before
    in_one b c (Declaration all) scope vs h stand before = declarators all scope vs h stand before
    in_one b c (Empty spot) scope vs h stand before = before
    in_one b c (Run spot e) scope vs h stand before = before
    in_one b c (If spot e s) scope vs h stand before = in_one b c s scope vs (two_true (is_scalar (kind_of p f e)) (is_statement p f b c s) h).1 stand.1 before
    in_one b c (IfElse spot e s r) scope vs h stand before = (
        let parts = three_true (is_scalar (kind_of p f e)) (is_statement p f b c s) (is_statement p f b c r) h in
        let both = parts_all Stands (places_of number scope s) (places_of number scope r) stand.1 in
        in_one b c r scope (declared_in s vs) parts.2 both.1 (in_one b c s scope vs parts.1 both.0 before))
    in_one b c (While spot e s) scope vs h stand before = in_one true true s scope vs (two_true (is_scalar (kind_of p f e)) (is_statement p f true true s) h).1 stand.1 before
    in_one b c (DoWhile s spot e) scope vs h stand before =
        in_one true true s scope vs (two_true (is_scalar (kind_of p f e)) (is_statement p f true true s) h).1 (parts_all Stands (places_of number scope s) (stop number scope spot ∷ []) stand).0 before
    in_one b c (For begin spot e step s) scope vs h stand before = (
        let parts = four_true (is_start p f begin) (is_condition p f e) (is_step p f step) (is_statement p f true true s) h in
        let inside = scope ++ brought_by_start begin in
        let both = parts_all Stands (places_of_head number scope begin spot e ++ places_of_step number inside step) (places_of number inside s) stand in
        let head = (parts_all Stands (places_of_head number scope begin spot e) (places_of_step number inside step) both.0).0 in
        in_one true true s inside (declared_by_start begin vs) parts.3 both.1 (start begin scope vs parts.0 (start_in_head begin scope spot e head) before))
    in_one b c (Switch spot e all) scope vs h stand before =
        in_all true c (tested_type (kind_of p f e)) all scope vs (two_true (is_switch (tested_type (kind_of p f e))) (are_statements p f true c (tested_type (kind_of p f e)) all) h).1 stand.1 before
    in_one b c (Break spot) scope vs h stand before = before
    in_one b c (Continue spot) scope vs h stand before = before
    in_one b c (Return spot e) scope vs h stand before = before

    in_all : (b c : Bool) (o : Option IntegerType) (all : TypedStatementTrees) (scope vs : List ℕ) → are_statements p f b c o all ≡ true → AllStand (places_of_all number scope all) → AreDeclaredThere vs → AreDeclaredThere (declared_in_all all vs)
    in_all b c o statement.none scope vs h stand before = before
    in_all b c o (statement.first s rest) scope vs h stand before = (
        let parts = three_true (may_stand o s) (is_statement p f b c s) (are_statements p f b c o rest) h in
        let both = parts_all Stands (places_of number scope s) (places_of_all number (scope ++ brought s) rest) stand in
        in_all b c o rest (scope ++ brought s) (declared_in s vs) parts.2 both.1 (in_one b c s scope vs parts.1 both.0 before))
    in_all b c o (case z rest) scope vs h stand before = in_all b c o rest scope vs (two_true (is_label o z) (are_statements p f b c o rest) h).1 stand before
    in_all b c o (default rest) scope vs h stand before = in_all b c o rest scope vs (two_true (is_switch o) (are_statements p f b c o rest) h).1 stand before

  -- numbers that follow one another are all that lie between them
  between : (base : ℕ) (all : List ℕ) → is_numbered base all ≡ true → AreDeclaredThere all → (x : ℕ) → base ≤ x → x < base + length all → IsDeclaredThere x
  between base [] h each x low high = absurd (omega (arith, low, high))
  between base (y ∷ all) h each x low high =
      let parts = two_true (y == base) (is_numbered (base + 1) all) h in
      let same : y ≡ base = are_equal y base parts.0 in
      elim (cases_lt base x) [
        | inl less ↦ between (base + 1) all parts.1 each.1 x (omega (arith, less)) (omega (arith, high))
        | inr least ↦ (let e : y ≡ x = omega (arith, same, low, least) in subst IsDeclaredThere e each.0)
      ]

  -- each variable behind the parameters is declared at a place of the function
  pub own_declared : accepted.FunctionFacts p f → AllStand (places_of_function number f) → (x : ℕ) → f.first_variable + f.parameters ≤ x → x < f.first_variable + f.variables → IsDeclaredThere x
  own_declared facts stand x low high =
      let body = (parts_all Stands (places_of_all number (parameters_of f) f.body) (close_of number f) stand.1).0 in
      let many = facts.declared in
      between (f.first_variable + f.parameters) (declared_in_all f.body []) facts.numbered (in_all false false None f.body (parameters_of f) [] facts.typed body tt) x low (omega (arith, high, many))

-- ---- The places of scalars

-- A number is that of a place of a program.
record IsNumber (p : ProgramTree) (place : ℕ) : Type 0 where
  some : 1 ≤ place
  most : place ≤ length (places_of_program p)

-- the places at which the scalars of a unit are declared are places of the program
pub record HasScalarPlaces (p : ProgramTree) (u : UnitForm) : Type 0 where
  pub some : (f k : ℕ) (g : Graph) (s : Scalar) → slice_get u.graphs f ≡ Some g → slice_get g.scalars k ≡ Some s → 1 ≤ s.place
  pub most : (f k : ℕ) (g : Graph) (s : Scalar) → slice_get u.graphs f ≡ Some g → slice_get g.scalars k ≡ Some s → s.place ≤ length (places_of_program p)

-- the places of one of some functions
of_function : (P : Place → Type 0) (number : ℕ) (all : List TypedFunctionTree) (k : ℕ) (f : TypedFunctionTree) → AllByRecursion P (places_of_functions number all) → slice_get all k ≡ Some f → (n : ℕ) × AllByRecursion P (places_of_function n f)
of_function P number [] k f stand is = absurd (none-some f is)
of_function P number (g ∷ all) zero f stand is = (number, subst (λ h. AllByRecursion P (places_of_function number h)) (same_Some g f is) (parts_all P (places_of_function number g) (places_of_functions (number + 1) all) stand).0)
of_function P number (g ∷ all) (suc k) f stand is = of_function P (number + 1) all k f (parts_all P (places_of_function number g) (places_of_functions (number + 1) all) stand).1 is

module _ (p : ProgramTree) (formed : IsWellFormed p) (u : UnitForm) (built : IsUnitOf p u) where
  -- a position has the number of a place
  abbrev IsPosition : ℕ → Type 0
  IsPosition at = IsNumber p (place_number_at (places_of_program p) at)

  all_positions : AllByRecursion (λ (q : Place). IsPosition q.spot.at) (places_of_program p)
  all_positions = each_from (λ (q : Place). IsPosition q.spot.at) (places_of_program p) (λ k q is.
      let number = numbered_at (places_of_program p) k q (facts_of p formed).positions is in
      let within = slice_get_within (places_of_program p) k q is in
      record { some = omega (arith, number); most = omega (arith, number, within) })

  -- where a variable of a function is declared
  declared_number : (f : TypedFunctionTree) (k : ℕ) → slice_get p.functions k ≡ Some f → (x : ℕ) → f.first_variable ≤ x → x < f.first_variable + f.variables → IsNumber p (declared_at p f (place_number_at (places_of_program p) f.spot.at) x)
  declared_number f k is x low high = by (nat_lt x (f.first_variable + f.parameters)) refl (slice_get p.automatics x) refl
    where
      own : (n : ℕ) × AllByRecursion (λ (q : Place). IsPosition q.spot.at) (places_of_function n f)
      own = of_function (λ (q : Place). IsPosition q.spot.at) 0 p.functions k f all_positions is

      entry : IsPosition f.spot.at
      entry = own.1.0

      by : (b : Bool) → nat_lt x (f.first_variable + f.parameters) ≡ b → (o : Option AutomaticTree) → slice_get p.automatics x ≡ o
          → IsNumber p (if b then place_number_at (places_of_program p) f.spot.at else option_map_or (λ (a : AutomaticTree). place_number_at (places_of_program p) a.spot.at) o (place_number_at (places_of_program p) f.spot.at))
      by true e o at = entry
      by false e None at = entry
      by false e (Some a) at = own_declared p f own.0 IsPosition ((accepted.facts_of p formed).functions k f is) own.1 x (not_less x (f.first_variable + f.parameters) e) high a at

  scalar_number : (f k : ℕ) (g : Graph) (s : Scalar) → slice_get u.graphs f ≡ Some g → slice_get g.scalars k ≡ Some s → IsNumber p s.place
  scalar_number f k g s at has =
      let t = of_graph p 0 p.functions f g (ap (λ l. slice_get l f) (sym built.graphs) ∙ at) in
      let n = names_of p t.0 (is_again p t.0) in
      let all = scalars_among n (variables_in t.0) in
      let x = from_map (scalar_record p t.0 (function_coding p t.0 t.1).entry all) all k s (ap (λ (y : Graph). slice_get y.scalars k) t.3 ∙ has) in
      let one = picked_at (scalar_of n) t.0.first_variable t.0.variables k x.0 (ap (λ l. slice_get l k) (sym (scalars_picked n (variables_in t.0))) ∙ x.1) in
      subst (IsNumber p) (ap (λ (y : Scalar). y.place) x.2) (declared_number t.0 f t.2 x.0 one.low one.high)

-- The unit that is built of a program has its scalars declared at the program's places,
pub scalar_places : (p : ProgramTree) → IsWellFormed p → (u : UnitForm) → IsUnitOf p u → HasScalarPlaces p u
scalar_places p formed u built = record {
  some = λ f k g s at has. (scalar_number p formed u built f k g s at has).some;
  most = λ f k g s at has. (scalar_number p formed u built f k g s at has).most;
}

-- and so has each unit with its functions.
pub places_carried : (p : ProgramTree) (u v : UnitForm) → Pairs SameFunction u.graphs v.graphs → HasScalarPlaces p u → HasScalarPlaces p v
places_carried p u v functions has = record {
  some = λ f k h s at is. (let r = back f h at in has.some f k r.0 s r.1 (scalar r.0 h r.2 k s is));
  most = λ f k h s at is. (let r = back f h at in has.most f k r.0 s r.1 (scalar r.0 h r.2 k s is));
}
  where
    back : (f : ℕ) (h : Graph) → slice_get v.graphs f ≡ Some h → (g : Graph) × (slice_get u.graphs f ≡ Some g) × SameFunction g h
    back = graph_back u.graphs v.graphs functions

    scalar : (g h : Graph) → SameFunction g h → (k : ℕ) (s : Scalar) → slice_get h.scalars k ≡ Some s → slice_get g.scalars k ≡ Some s
    scalar g h same k s is = ap (λ l. slice_get l k) (sym same.scalars) ∙ is

-- ---- The changes

not_sunk : Reused ≢ Sunk
not_sunk e = cc

homes_called : IsPassName (letters homes_pass)
homes_called = let many : length (letters homes_pass) ≡ 5 = refl in record { some = omega (arith, many); most = omega (arith, many); lower_case = refl }

module _ (p : ProgramTree) (u : UnitForm) (variables : HasVariablesIn p u) (places : HasScalarPlaces p u) (home : (function name : ℕ) → Home) where
  one_told : (s : Sharing) → IsSharing u.log u.graphs home s → CanBeTold p (change_of homes_pass s.scalar)
  one_told s is =
      let variable = variables.scalars s.function s.number is.graph s.scalar is.is is.of in
      let number = variable.number_is in
      let within = slice_get_within p.automatics variable.variable variable.tree variable.is in
      record {
        called = homes_called;
        place_some = places.some s.function s.number is.graph s.scalar is.is is.of;
        place_most = places.most s.function s.number is.graph s.scalar is.is is.of;
        variable = omega (arith, number, within);
        unsunk = not_sunk;
      }

  all_told : (all : List Sharing) → ((s : Sharing) → Among s all → IsSharing u.log u.graphs home s) → AllByRecursion (CanBeTold p) (map (λ (s : Sharing). change_of homes_pass s.scalar) all)
  all_told [] each = tt
  all_told (s ∷ all) each = (one_told s (each s front), all_told all (λ t among. each t (behind among)))

-- AN IMAGE CAN TELL OF EACH CHANGE THAT TELLS OF A SHARED REGISTER, of a unit with the program's variables and places, where it can of each change before.
pub shared_told : (p : ProgramTree) (u : UnitForm) (h : HomedForm) → HasVariablesIn p u → HasScalarPlaces p u → HaveChanges u h → AllByRecursion (CanBeTold p) u.log → AllByRecursion (CanBeTold p) h.unit.log
shared_told p u h variables places changes before =
    subst (AllByRecursion (CanBeTold p)) (sym changes.log)
    (both_all (CanBeTold p) u.log (map (λ (s : Sharing). change_of homes_pass s.scalar) changes.sharings) before (all_told p u variables places (home_of h) changes.sharings changes.only))
