-- What places assign keeps its rules.
use Rattle.std.proofs.Common.{◌≡◌, ℕ, zero, suc, ◌+◌, ◌≤◌, ◌<◌, Bool, true, false, Option, Some, None, List, [], ◌∷◌, ◌++◌, length, map, slice_get, refl, sym, ap, ◌∙◌, subst, arith}
use Rattle.std.specs.Prelude.{◌↔◌, AllPairs, nat_lt, if◌then◌else◌}
use Rattle.std.specs.List.{AllByRecursion, Contains}
use Rattle.std.proofs.lemmas.Option.{none-some, same_Some}
use Rattle.places.specs.declared.flow.Assignment.{Assignment}
use Rattle.places.specs.declared.table.PlaceRow.{PlaceRow}
use Rattle.places.specs.Flow.{IsAssignmentBefore}
use Rattle.c_tree.specs.declared.object_type.Object.{Object}
use Rattle.c_tree.specs.declared.object_type.Object.TheVariants as object
use Rattle.c_tree.specs.TypedExpressions.{RvalueTree, LvalueTree, ArgumentTrees, Constant, Null, Load, Decay, AddressOf, Convert, Discard, Signed, Not, Arithmetic, Compare, ComparePointers, Move, MoveFrom, Difference, And, Or, Conditional, Comma, Assign, Update, UpdatePointer, Step, StepPointer, Call, Named, Target, Element, ElementFrom}
use Rattle.c_tree.specs.TypedExpressions as expression
use Rattle.c_tree.specs.TypedStatements.{InitialTree, Zero, Scalar, Elements, Literal, DeclaredTree, TypedStartTree, Nothing, Value, Declares, StepTree, TypedStatementTree, Block, Declaration, Empty, Run, If, IfElse, While, DoWhile, For, Switch, Break, Continue, Return, TypedStatementTrees, case, default}
use Rattle.c_tree.specs.TypedStatements as statement
use Rattle.c_tree.specs.Programs.{ProgramTree, TypedFunctionTree}
use Rattle.debug_records.specs.declared.source.Spot.{Spot}
use Rattle.c_type_laws.specs.Laws.{IsWellFormed}
use Rattle.c_places.specs.Places.{Place, brought, brought_by_start, close_of, place_number_at, numbers_from, parameters_of, places_of, places_of_all, places_of_declarators, places_of_function, places_of_functions, places_of_head, places_of_program, places_of_start, places_of_step, stop}
use Rattle.c_flow.specs.declared.assigned.Assigned.{Assigned}
use Rattle.c_flow.specs.Assigns.{among, assigned_objects, assigned_by, assigned_by_all, assigned_by_declarators, assigned_by_entry, assigned_by_function, assigned_by_functions, assigned_by_initial, assigned_by_option, assigned_by_program, assigned_by_start, assigned_by_statements, assigned_by_step, assigned_by_values, assigned_within, assigns_object, assignments_of_program, named_object, numbered_assigned, numbered_for, variable_number}
use Rattle.graph_build_laws.proofs.Targets.{AllFit, fit_back, fit_front}
use Rattle.graph_homes.specs.Homed.{HomedForm}
use Rattle.rv_emit_tables.specs.Emitted.{EmittedForm}
use Rattle.image_form.specs.Form.{Form}
use Rattle.image_form.specs.RulesOfChanges.{AssignedRules, IsPairBefore}
use Rattle.image_form.specs.RulesOfFunctions.{IsPlaceNumber}
use Rattle.image_form.specs.declared.tables.AssignedPair.{AssignedPair}
use Rattle.image_build_tables.specs.Tables.{assigned_pair}
use Rattle.image_truth_units.proofs.Accepted.{facts_of, is_less}
use Rattle.image_truth_units.proofs.Fits.{variables_many}
use Rattle.image_truth_units.proofs.Flow.{AreIn, IsPosition, contained, contains, first_in, fit_all, numbered_low, pairs_next, second_in}
use Rattle.image_truth_units.proofs.Functions.{places_many}
use Rattle.image_truth_units.proofs.Given.{Given}
use Rattle.image_truth_units.proofs.Lists.{all_at, all_from, from_map, next_from}
use Rattle.image_truth_units.proofs.ProgramPlaces.{both_all, numbered_at}

-- What holds of the positions of places holds of those at which something is assigned.
module _ (number : ℕ) (Fits : ℕ → Type 0) where
  abbrev At : Assigned → Type 0
  At a = Fits a.at

  abbrev AreAt : List Assigned → Type 0
  AreAt all = AllByRecursion At all

  two : (xs ys : List Assigned) → AreAt xs → AreAt ys → AreAt (xs ++ ys)
  two xs ys one other = both_all At xs ys one other

  target_at : (at : ℕ) → Fits at → (l : LvalueTree) → AreAt (named_object at l)
  target_at at fits (Named o of) = (fits, tt)
  target_at at fits (Target of p) = tt
  target_at at fits (Element of p i) = tt
  target_at at fits (ElementFrom of i p) = tt

  mutual
    value_at : (at : ℕ) → Fits at → (e : RvalueTree) → AreAt (assigned_objects at e)
    value_at at fits (Constant value type) = tt
    value_at at fits Null = tt
    value_at at fits (Load scalar l) = within_at at fits l
    value_at at fits (Decay l) = within_at at fits l
    value_at at fits (AddressOf l) = within_at at fits l
    value_at at fits (Convert to a) = value_at at fits a
    value_at at fits (Discard a) = value_at at fits a
    value_at at fits (Signed sign type a) = value_at at fits a
    value_at at fits (Not a) = value_at at fits a
    value_at at fits (Arithmetic o type a b) = two (assigned_objects at a) (assigned_objects at b) (value_at at fits a) (value_at at fits b)
    value_at at fits (Compare o type a b) = two (assigned_objects at a) (assigned_objects at b) (value_at at fits a) (value_at at fits b)
    value_at at fits (ComparePointers o a b) = two (assigned_objects at a) (assigned_objects at b) (value_at at fits a) (value_at at fits b)
    value_at at fits (Move direction element p n) = two (assigned_objects at p) (assigned_objects at n) (value_at at fits p) (value_at at fits n)
    value_at at fits (MoveFrom n element p) = two (assigned_objects at n) (assigned_objects at p) (value_at at fits n) (value_at at fits p)
    value_at at fits (Difference element a b) = two (assigned_objects at a) (assigned_objects at b) (value_at at fits a) (value_at at fits b)
    value_at at fits (And a b) = two (assigned_objects at a) (assigned_objects at b) (value_at at fits a) (value_at at fits b)
    value_at at fits (Or a b) = two (assigned_objects at a) (assigned_objects at b) (value_at at fits a) (value_at at fits b)
    value_at at fits (Conditional c a b) = two (assigned_objects at c ++ assigned_objects at a) (assigned_objects at b) (two (assigned_objects at c) (assigned_objects at a) (value_at at fits c) (value_at at fits a)) (value_at at fits b)
    value_at at fits (Comma a b) = two (assigned_objects at a) (assigned_objects at b) (value_at at fits a) (value_at at fits b)
    value_at at fits (Assign scalar l a) = two (named_object at l ++ assigned_within at l) (assigned_objects at a) (two (named_object at l) (assigned_within at l) (target_at at fits l) (within_at at fits l)) (value_at at fits a)
    value_at at fits (Update o target type l a) = two (named_object at l ++ assigned_within at l) (assigned_objects at a) (two (named_object at l) (assigned_within at l) (target_at at fits l) (within_at at fits l)) (value_at at fits a)
    value_at at fits (UpdatePointer direction element l n) = two (named_object at l ++ assigned_within at l) (assigned_objects at n) (two (named_object at l) (assigned_within at l) (target_at at fits l) (within_at at fits l)) (value_at at fits n)
    value_at at fits (Step direction given target type l) = two (named_object at l) (assigned_within at l) (target_at at fits l) (within_at at fits l)
    value_at at fits (StepPointer direction given element l) = two (named_object at l) (assigned_within at l) (target_at at fits l) (within_at at fits l)
    value_at at fits (Call callee all) = all_values_at at fits all

    within_at : (at : ℕ) → Fits at → (l : LvalueTree) → AreAt (assigned_within at l)
    within_at at fits (Named object of) = tt
    within_at at fits (Target of p) = value_at at fits p
    within_at at fits (Element of p i) = two (assigned_objects at p) (assigned_objects at i) (value_at at fits p) (value_at at fits i)
    within_at at fits (ElementFrom of i p) = two (assigned_objects at i) (assigned_objects at p) (value_at at fits i) (value_at at fits p)

    all_values_at : (at : ℕ) → Fits at → (all : ArgumentTrees) → AreAt (assigned_by_all at all)
    all_values_at at fits expression.none = tt
    all_values_at at fits (expression.first a rest) = two (assigned_objects at a) (assigned_by_all at rest) (value_at at fits a) (all_values_at at fits rest)

  elements_at : (at : ℕ) → Fits at → (all : List RvalueTree) → AreAt (assigned_by_values at all)
  elements_at at fits [] = tt
  elements_at at fits (a ∷ rest) = two (assigned_objects at a) (assigned_by_values at rest) (value_at at fits a) (elements_at at fits rest)

  initial_at : (at : ℕ) → Fits at → (i : InitialTree) → AreAt (assigned_by_initial at i)
  initial_at at fits Zero = tt
  initial_at at fits (Scalar a) = value_at at fits a
  initial_at at fits (Elements all) = elements_at at fits all
  initial_at at fits (Literal k) = tt

  option_at : (at : ℕ) → Fits at → (e : Option RvalueTree) → AreAt (assigned_by_option at e)
  option_at at fits None = tt
  option_at at fits (Some e) = value_at at fits e

  declared_at : (scope : List ℕ) (all : List DeclaredTree) → AllFit number Fits (places_of_declarators number scope all) → AreAt (assigned_by_declarators all)
  declared_at scope [] fits = tt
  declared_at scope (d ∷ all) fits = (fits.0, two (assigned_by_initial d.spot.at d.initial) (assigned_by_declarators all) (initial_at d.spot.at fits.0 d.initial) (declared_at (scope ++ d.variable ∷ []) all fits.1))

  start_at : (scope : List ℕ) (s : TypedStartTree) → AllFit number Fits (places_of_start number scope s) → AreAt (assigned_by_start s)
  start_at scope Nothing fits = tt
  start_at scope (Value spot e) fits = value_at spot.at fits.0 e
  start_at scope (Declares all) fits = declared_at scope all fits

  step_at : (scope : List ℕ) (s : Option StepTree) → AllFit number Fits (places_of_step number scope s) → AreAt (assigned_by_step s)
  step_at scope None fits = tt
  step_at scope (Some s) fits = value_at s.spot.at fits.0 s.value

  -- of a `for` the first part and its condition
  head_at : (scope : List ℕ) (start : TypedStartTree) (spot : Spot) (c : Option RvalueTree) → AllFit number Fits (places_of_head number scope start spot c) → AreAt (assigned_by_start start) × AreAt (assigned_by_option spot.at c)
  head_at scope start spot None fits = (start_at scope start fits.1, tt)
  head_at scope start spot (Some c) fits =
      let own = places_of_start number scope start in
      let rest = stop number (scope ++ brought_by_start start) spot ∷ [] in
      (start_at scope start (fit_front number Fits own rest fits), value_at spot.at (fit_back number Fits own rest fits).0 c)

  mutual
    statement_at : (scope : List ℕ) (s : TypedStatementTree) → AllFit number Fits (places_of number scope s) → AreAt (assigned_by s)
    statement_at scope (Block all) fits = statements_at scope all fits
    statement_at scope (Declaration all) fits = declared_at scope all fits
    statement_at scope (Empty spot) fits = tt
    statement_at scope (Run spot e) fits = value_at spot.at fits.0 e
    statement_at scope (If spot c chosen) fits = two (assigned_objects spot.at c) (assigned_by chosen) (value_at spot.at fits.0 c) (statement_at scope chosen fits.1)
    statement_at scope (IfElse spot c chosen other) fits =
        two (assigned_objects spot.at c ++ assigned_by chosen) (assigned_by other)
        (two (assigned_objects spot.at c) (assigned_by chosen) (value_at spot.at fits.0 c) (statement_at scope chosen (fit_front number Fits (places_of number scope chosen) (places_of number scope other) fits.1)))
        (statement_at scope other (fit_back number Fits (places_of number scope chosen) (places_of number scope other) fits.1))
    statement_at scope (While spot c body) fits = two (assigned_objects spot.at c) (assigned_by body) (value_at spot.at fits.0 c) (statement_at scope body fits.1)
    statement_at scope (DoWhile body spot c) fits =
        two (assigned_objects spot.at c) (assigned_by body) (value_at spot.at (fit_back number Fits (places_of number scope body) (stop number scope spot ∷ []) fits).0 c)
        (statement_at scope body (fit_front number Fits (places_of number scope body) (stop number scope spot ∷ []) fits))
    statement_at scope (For start spot c step body) fits =
        let inside = scope ++ brought_by_start start in
        let head = places_of_head number scope start spot c in
        let round = places_of_step number inside step in
        let before = fit_front number Fits (head ++ round) (places_of number inside body) fits in
        let parts = head_at scope start spot c (fit_front number Fits head round before) in
        two (assigned_by_start start ++ assigned_by_option spot.at c ++ assigned_by_step step) (assigned_by body)
        (two (assigned_by_start start ++ assigned_by_option spot.at c) (assigned_by_step step) (two (assigned_by_start start) (assigned_by_option spot.at c) parts.0 parts.1) (step_at inside step (fit_back number Fits head round before)))
        (statement_at inside body (fit_back number Fits (head ++ round) (places_of number inside body) fits))
    statement_at scope (Switch spot e all) fits = two (assigned_objects spot.at e) (assigned_by_statements all) (value_at spot.at fits.0 e) (statements_at scope all fits.1)
    statement_at scope (Break spot) fits = tt
    statement_at scope (Continue spot) fits = tt
    statement_at scope (Return spot e) fits = option_at spot.at fits.0 e

    statements_at : (scope : List ℕ) (all : TypedStatementTrees) → AllFit number Fits (places_of_all number scope all) → AreAt (assigned_by_statements all)
    statements_at scope statement.none fits = tt
    statements_at scope (statement.first s rest) fits =
        two (assigned_by s) (assigned_by_statements rest) (statement_at scope s (fit_front number Fits (places_of number scope s) (places_of_all number (scope ++ brought s) rest) fits))
        (statements_at (scope ++ brought s) rest (fit_back number Fits (places_of number scope s) (places_of_all number (scope ++ brought s) rest) fits))
    statements_at scope (case value rest) fits = statements_at scope rest fits
    statements_at scope (default rest) fits = statements_at scope rest fits

  parameters_at : (at : ℕ) → Fits at → (xs : List ℕ) → AreAt (map (λ (x : ℕ). assigns_object at (object.Automatic x)) xs)
  parameters_at at fits [] = tt
  parameters_at at fits (x ∷ xs) = (fits, parameters_at at fits xs)

  pub function_at : (f : TypedFunctionTree) → AllFit number Fits (places_of_function number f) → AreAt (assigned_by_function f)
  function_at f fits =
      two (assigned_by_entry f) (assigned_by_statements f.body) (parameters_at f.spot.at fits.0 (numbers_from f.first_variable f.parameters))
      (statements_at (parameters_of f) f.body (fit_front number Fits (places_of_all number (parameters_of f) f.body) (close_of number f) fits.1))

functions_at : (all : List Place) (number : ℕ) (fs : List TypedFunctionTree) → AreIn all (places_of_functions number fs) → AllByRecursion (λ (a : Assigned). IsPosition all a.at) (assigned_by_functions fs)
functions_at all number [] each = tt
functions_at all number (f ∷ fs) each =
    both_all (λ (a : Assigned). IsPosition all a.at) (assigned_by_function f) (assigned_by_functions fs)
    (function_at number (IsPosition all) f (fit_all all (places_of_function number f) number (first_in all (places_of_function number f) (places_of_functions (number + 1) fs) each)))
    (functions_at all (number + 1) fs (second_in all (places_of_function number f) (places_of_functions (number + 1) fs) each))

-- ---- By numbers

among_low : (count behind n x most : ℕ) → behind + count ≤ most → among count behind n ≡ Some x → x < most
among_low count behind n x most fits is = by (nat_lt n count) refl is
  where
    by : (b : Bool) → nat_lt n count ≡ b → (if b then Some (behind + n) else None) ≡ Some x → x < most
    by true test is = let less = is_less n count test in let same : behind + n ≡ x = same_Some (behind + n) x is in omega (arith, less, same, fits)
    by false test is = absurd (none-some x is)

variable_low : (p : ProgramTree) (o : Object) (x : ℕ) → variable_number p o ≡ Some x → x < length p.statics + length p.literals + length p.automatics
variable_low p (object.Static n) x is = among_low (length p.statics) 0 n x (length p.statics + length p.literals + length p.automatics) (omega arith) is
variable_low p (object.Literal n) x is = among_low (length p.literals) (length p.statics) n x (length p.statics + length p.literals + length p.automatics) (omega arith) is
variable_low p (object.Automatic n) x is = among_low (length p.automatics) (length p.statics + length p.literals) n x (length p.statics + length p.literals + length p.automatics) (omega arith) is

-- An assignment by numbers is of a position and an object.
record IsNumbered (p : ProgramTree) (places : List Place) (all : List Assigned) (x : Assignment) : Type 0 where
  pub index : ℕ
  pub from : Assigned
  pub is : slice_get all index ≡ Some from
  pub place : place_number_at places from.at ≡ x.place.0
  pub variable : variable_number p from.object ≡ Some x.var.0

one_numbered : (p : ProgramTree) (places : List Place) (a : Assigned) (all : List Assigned) (x : Assignment) → ((k : ℕ) → slice_get (numbered_assigned p places all) k ≡ Some x → IsNumbered p places all x) → (o : Option ℕ) → variable_number p a.object ≡ o
    → (i : ℕ) → slice_get (numbered_for (place_number_at places a.at) o ++ numbered_assigned p places all) i ≡ Some x → IsNumbered p places (a ∷ all) x
one_numbered p places a all x rest None none i is = let r = rest i is in record { index = suc r.index; from = r.from; is = r.is; place = r.place; variable = r.variable }
one_numbered p places a all x rest (Some y) some zero is =
    let made : Assignment = record { place = record { 0 = place_number_at places a.at }; var = record { 0 = y } } in
    let same : made ≡ x = same_Some made x is in
    record { index = 0; from = a; is = refl; place = ap (λ (z : Assignment). z.place.0) same; variable = some ∙ ap (λ (z : Assignment). Some z.var.0) same }
one_numbered p places a all x rest (Some y) some (suc i) is = let r = rest i is in record { index = suc r.index; from = r.from; is = r.is; place = r.place; variable = r.variable }

numbered_of : (p : ProgramTree) (places : List Place) (all : List Assigned) (i : ℕ) (x : Assignment) → slice_get (numbered_assigned p places all) i ≡ Some x → IsNumbered p places all x
numbered_of p places [] i x is = absurd (none-some x is)
numbered_of p places (a ∷ all) i x is = one_numbered p places a all x (λ k at. numbered_of p places all k x at) (variable_number p a.object) refl i is

-- a place that assigns is one of the program's
pub assignment_placed : (p : ProgramTree) → IsWellFormed p → (a : Assignment) → Contains (assignments_of_program p) a → (1 ≤ a.place.0) × (a.place.0 ≤ length (places_of_program p))
assignment_placed p formed a there =
    let at = contained (assignments_of_program p) a there in
    let of = numbered_of p (places_of_program p) (assigned_by_program p) at.0 a at.1 in
    let position = all_at (λ (b : Assigned). IsPosition (places_of_program p) b.at) (assigned_by_program p) of.index of.from (functions_at (places_of_program p) 0 p.functions (λ q k is. (k, q, is, refl))) of.is in
    let low = numbered_low p of.from.at (λ k q is. numbered_at (places_of_program p) k q (facts_of p formed).positions is) position in
    let place = of.place in
    let one = low.0 in let two = low.1 in
    (omega (arith, one, place), omega (arith, two, place))

module _ (p : ProgramTree) (h : HomedForm) (e : EmittedForm) (rows : List PlaceRow) (m : Form) (given : Given p h e rows m) (assignments : (a : Assignment) → Contains h.unit.assignments a ↔ Contains (assignments_of_program p) a) (ordered : AllPairs IsAssignmentBefore h.unit.assignments) where
  is_assignment : (i : ℕ) (x : AssignedPair) → slice_get m.assigned i ≡ Some x → (a : Assignment) × (slice_get h.unit.assignments i ≡ Some a) × (assigned_pair a ≡ x)
  is_assignment i x is = from_map assigned_pair h.unit.assignments i x (ap (λ l. slice_get l i) (sym given.tables.assigned) ∙ is)

  assignment_fits : (a : Assignment) (i : ℕ) → slice_get h.unit.assignments i ≡ Some a → IsPlaceNumber m a.place.0 × (a.var.0 < length m.variables)
  assignment_fits a i is =
      let many = places_many p h e rows m given in
      let variables = variables_many p h e rows m given in
      let there : Contains (assignments_of_program p) a = (assignments a).0 (contains h.unit.assignments i a is) in
      let at = contained (assignments_of_program p) a there in
      let of = numbered_of p (places_of_program p) (assigned_by_program p) at.0 a at.1 in
      let placed = assignment_placed p given.formed a there in
      let one = placed.0 in let two = placed.1 in
      let less = variable_low p of.from.object a.var.0 of.variable in
      ((one, omega (arith, two, many)), omega (arith, less, variables))

  -- WHAT PLACES ASSIGN KEEPS ITS RULES.
  pub assigned_rules : AssignedRules m
  assigned_rules = record {
    each = all_from (λ (x : AssignedPair). IsPlaceNumber m x.place × (x.variable < length m.variables)) m.assigned (λ i x is. let a = is_assignment i x is in subst (λ (y : AssignedPair). IsPlaceNumber m y.place × (y.variable < length m.variables)) a.2 (assignment_fits a.0 i a.1));
    ascend = next_from (λ (x y : AssignedPair). IsPairBefore x.place x.variable y.place y.variable) m.assigned (λ i x y is at.
        let a = is_assignment i x is in
        let b = is_assignment (suc i) y at in
        subst (λ (z : AssignedPair). IsPairBefore z.place z.variable y.place y.variable) a.2 (subst (λ (z : AssignedPair). IsPairBefore a.0.place.0 a.0.var.0 z.place z.variable) b.2 (pairs_next IsAssignmentBefore h.unit.assignments ordered i a.0 b.0 a.1 b.1)));
  }
