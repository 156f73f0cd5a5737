-- How many steps a program's flow has, and how many assignments its places make: no more than its weight allows.
use Rattle.std.proofs.Common.{◌≡◌, ℕ, zero, suc, ◌+◌, ◌*◌, ◌≤◌, ◌<◌, inl, inr, Bool, true, false, Option, Some, None, List, [], ◌∷◌, ◌++◌, length, slice_get, refl, sym, ap, ◌∙◌, subst, arith}
use Rattle.std.specs.Prelude.{◌↔◌, AllPairs, slice_index_or, if◌then◌else◌}
use Rattle.std.specs.List.{Contains}
use Rattle.std.proofs.lemmas.List.{length-append, length-map}
use Rattle.std.proofs.lemmas.Option.{none-some, slice_get_within}
use Rattle.places.specs.declared.flow.Assignment.{Assignment}
use Rattle.places.specs.declared.flow.FlowStep.{FlowStep}
use Rattle.places.specs.Flow.{AreInOrder, IsAssignmentBefore, IsStepBefore}
use Rattle.c_tree.specs.declared.object_type.Object.TheVariants as object
use Rattle.c_tree.specs.TypedExpressions.{RvalueTree, LvalueTree, ArgumentTrees, Constant, Null, Load, Decay, AddressOf, Convert, Discard, Signed, Not, Arithmetic, Compare, ComparePointers, Move, MoveFrom, Difference, And, Or, Conditional, Comma, Assign, Update, UpdatePointer, Step, StepPointer, Call, Named, Target, Element, ElementFrom}
use Rattle.c_tree.specs.TypedExpressions as expression
use Rattle.c_tree.specs.TypedStatements.{InitialTree, Zero, Scalar, Elements, Literal, DeclaredTree, TypedStartTree, Nothing, Value, Declares, StepTree, TypedStatementTree, Block, Declaration, Empty, Run, If, IfElse, While, DoWhile, For, Switch, Break, Continue, Return, TypedStatementTrees, case, default}
use Rattle.c_tree.specs.TypedStatements as statement
use Rattle.c_tree.specs.Programs.{ProgramTree, TypedFunctionTree}
use Rattle.c_places.specs.Flow.{has_default}
use Rattle.c_places.specs.Places.{Place, place_number_at, numbers_from, places_of_program}
use Rattle.c_flow.specs.declared.assigned.Assigned.{Assigned}
use Rattle.c_flow.specs.declared.edge.Ways.{Ways}
use Rattle.c_flow.specs.Assigns.{assigned_objects, assigned_by, assigned_by_all, assigned_by_declarators, assigned_by_entry, assigned_by_function, assigned_by_functions, assigned_by_initial, assigned_by_option, assigned_by_program, assigned_by_start, assigned_by_statements, assigned_by_step, assigned_by_values, assigned_within, assigns_object, assignments_of_program, named_object, numbered_assigned, numbered_for, variable_number}
use Rattle.c_flow.specs.Flow.{ways_before, edge, flow_of, flow_of_all, flow_of_declarators, flow_of_function, flow_of_functions, flow_of_program, flow_of_start, flow_of_step, flow_out, flow_past, flow_to_labels, flow_step_of, round_of, start_place, start_of_all, start_of_declarators, steps_of_program, ways_of_body, within_loop, within_switch}
use Rattle.c_type_laws.specs.Nodes.{nodes, place_nodes, argument_nodes, element_nodes, initial_nodes, declared_nodes, start_nodes, option_nodes, step_nodes, statement_nodes, statements_nodes}
use Rattle.c_type_laws.specs.Laws.{IsWellFormed, weight_of}
use Rattle.graph_build_laws.proofs.WellFormed.{laws_of}
use Rattle.image_truth_units.proofs.Flow.{contained, contains, or_there}

-- ---- Lists whose elements differ

-- a list without the element at an index
abbrev left_without : {A : Type 0} → List A → ℕ → List A
left_without [] i = []
left_without (y ∷ ys) zero = ys
left_without (y ∷ ys) (suc i) = y ∷ left_without ys i

one_less : {A : Type 0} (ys : List A) (i : ℕ) (y : A) → slice_get ys i ≡ Some y → length ys ≡ 1 + length (left_without ys i)
one_less [] i y is = absurd (none-some y is)
one_less (x ∷ ys) zero y is = omega arith
one_less (x ∷ ys) (suc i) y is = let rest = one_less ys i y is in omega (arith, rest)

-- the others are still in it
still_there : {A : Type 0} (ys : List A) (i k : ℕ) (z : A) → slice_get ys k ≡ Some z → (k ≡ i → ⊥) → (j : ℕ) × (slice_get (left_without ys i) j ≡ Some z)
still_there [] i k z is other = absurd (none-some z is)
still_there (y ∷ ys) zero zero z is other = absurd (other refl)
still_there (y ∷ ys) zero (suc k) z is other = (k, is)
still_there (y ∷ ys) (suc i) zero z is other = (0, is)
still_there (y ∷ ys) (suc i) (suc k) z is other = let r = still_there ys i k z is (λ e. other (ap (λ (n : ℕ). suc n) e)) in (suc r.0, r.1)

-- Elements that all differ and are in another list are no more than that has.
no_more : {A : Type 0} (xs ys : List A) → ((i : ℕ) (x : A) → slice_get xs i ≡ Some x → (j : ℕ) × (slice_get ys j ≡ Some x)) → ((i j : ℕ) (x : A) → i < j → slice_get xs i ≡ Some x → slice_get xs j ≡ Some x → ⊥) → length xs ≤ length ys
no_more [] ys has differ = omega arith
no_more (x ∷ xs) ys has differ =
    let here = has 0 x refl in
    let less = one_less ys here.0 x here.1 in
    let rest = no_more xs (left_without ys here.0) (λ i z is.
    let there = has (suc i) z is in
    still_there ys here.0 there.0 z there.1 (λ e. differ 0 (suc i) z (omega arith) (sym here.1 ∙ ap (slice_get ys) (sym e) ∙ there.1) is))
    (λ i j z low one two. differ (suc i) (suc j) z (omega (arith, low)) one two)
    in
    omega (arith, less, rest)

-- So are those of which each comes before those behind it.
in_order_few : {A : Type 0} (R : A → A → Type 0) → ((x : A) → R x x → ⊥) → (xs ys : List A) → AllPairs R xs → ((x : A) → Contains xs x → Contains ys x) → length xs ≤ length ys
in_order_few R never xs ys pairs has =
    no_more xs ys (λ i x is. contained ys x (has x (contains xs i x is)))
    (λ i j x low one two. never x (subst (λ z. R z x) (or_there xs i x x one) (subst (λ z. R (slice_index_or xs i x) z) (or_there xs j x x two) (pairs i j x low (slice_get_within xs j x two)))))

-- ---- Steps

-- an edge is one step or none
one_edge : (from : ℕ) (to : Option ℕ) → length (edge from to) ≤ 1
one_edge from None = omega arith
one_edge from (Some to) = omega arith

declared_steps : (all : List DeclaredTree) (next : Option ℕ) → length (flow_of_declarators all next) ≤ declared_nodes all
declared_steps [] next = omega arith
declared_steps (d ∷ all) next =
    let own = one_edge d.spot.at (start_of_declarators all next) in
    let rest = declared_steps all next in
    omega (arith, length-append (edge d.spot.at (start_of_declarators all next)) (flow_of_declarators all next), own, rest)

start_steps : (s : TypedStartTree) (head : ℕ) → length (flow_of_start s head) ≤ 1 + start_nodes s
start_steps Nothing head = omega arith
start_steps (Value spot e) head = omega arith
start_steps (Declares all) head = let own = declared_steps all (Some head) in omega (arith, own)

step_steps : (s : Option StepTree) (head : ℕ) → length (flow_of_step s head) ≤ 1
step_steps None head = omega arith
step_steps (Some s) head = omega arith

out_steps : (c : Option RvalueTree) (head : ℕ) (next : Option ℕ) → length (flow_out c head next) ≤ 1
out_steps None head next = omega arith
out_steps (Some c) head next = one_edge head next

past_steps : (from : ℕ) (all : TypedStatementTrees) (next : Option ℕ) → length (flow_past from all next) ≤ 1
past_steps from all next = go (has_default all)
  where
    go : (b : Bool) → length (if b then [] else edge from next) ≤ 1
    go true = omega arith
    go false = one_edge from next

mutual
  statement_steps : (w : Ways) (s : TypedStatementTree) → length (flow_of w s) ≤ 4 * statement_nodes s
  statement_steps w (Block all) = let rest = labelled_steps w 0 None all in omega (arith, rest)
  statement_steps w (Declaration all) = let own = declared_steps all w.next in omega (arith, own)
  statement_steps w (Empty spot) = let own = one_edge spot.at w.next in omega (arith, own)
  statement_steps w (Run spot e) = let own = one_edge spot.at w.next in omega (arith, own)
  statement_steps w (If spot c chosen) =
      let one = edge spot.at (start_place chosen w.next) in
      let two = edge spot.at w.next in
      let a = one_edge spot.at (start_place chosen w.next) in
      let b = one_edge spot.at w.next in
      let rest = statement_steps w chosen in
      omega (arith, length-append (one ++ two) (flow_of w chosen), length-append one two, a, b, rest)
  statement_steps w (IfElse spot c chosen other) =
      let one = edge spot.at (start_place chosen w.next) in
      let two = edge spot.at (start_place other w.next) in
      let a = one_edge spot.at (start_place chosen w.next) in
      let b = one_edge spot.at (start_place other w.next) in
      let first = statement_steps w chosen in
      let second = statement_steps w other in
      omega (arith, length-append (one ++ two ++ flow_of w chosen) (flow_of w other), length-append (one ++ two) (flow_of w chosen), length-append one two, a, b, first, second)
  statement_steps w (While spot c body) =
      let one = edge spot.at (start_place body (Some spot.at)) in
      let two = edge spot.at w.next in
      let a = one_edge spot.at (start_place body (Some spot.at)) in
      let b = one_edge spot.at w.next in
      let rest = statement_steps (within_loop spot.at w) body in
      omega (arith, length-append (one ++ two) (flow_of (within_loop spot.at w) body), length-append one two, a, b, rest)
  statement_steps w (DoWhile body spot c) =
      let one = edge spot.at (start_place body (Some spot.at)) in
      let two = edge spot.at w.next in
      let a = one_edge spot.at (start_place body (Some spot.at)) in
      let b = one_edge spot.at w.next in
      let rest = statement_steps (within_loop spot.at w) body in
      omega (arith, length-append (one ++ two) (flow_of (within_loop spot.at w) body), length-append one two, a, b, rest)
  statement_steps w (For begin spot c step body) =
      let own = flow_of_start begin spot.at in
      let into = edge spot.at (start_place body (Some (round_of step spot.at))) in
      let out = flow_out c spot.at w.next in
      let round = flow_of_step step spot.at in
      let inner = flow_of (within_loop (round_of step spot.at) w) body in
      let a = start_steps begin spot.at in
      let b = one_edge spot.at (start_place body (Some (round_of step spot.at))) in
      let d = out_steps c spot.at w.next in
      let e = step_steps step spot.at in
      let rest = statement_steps (within_loop (round_of step spot.at) w) body in
      omega (arith, length-append (own ++ into ++ out ++ round) inner, length-append (own ++ into ++ out) round, length-append (own ++ into) out, length-append own into, a, b, d, e, rest)
  statement_steps w (Switch spot e all) =
      let labels = flow_to_labels spot.at all w.next in
      let past = flow_past spot.at all w.next in
      let a = past_steps spot.at all w.next in
      let rest = labelled_steps (within_switch w) spot.at w.next all in
      omega (arith, length-append (labels ++ past) (flow_of_all (within_switch w) all), length-append labels past, a, rest)
  statement_steps w (Break spot) = let own = one_edge spot.at w.by_break in omega (arith, own)
  statement_steps w (Continue spot) = let own = one_edge spot.at w.by_continue in omega (arith, own)
  statement_steps w (Return spot e) = omega arith

  -- the steps to labels and those of the statements
  labelled_steps : (w : Ways) (from : ℕ) (next : Option ℕ) (all : TypedStatementTrees) → length (flow_to_labels from all next) + length (flow_of_all w all) ≤ 4 * statements_nodes all
  labelled_steps w from next statement.none = omega arith
  labelled_steps w from next (statement.first s rest) =
      let own = statement_steps (ways_before rest w) s in
      let more = labelled_steps w from next rest in
      omega (arith, length-append (flow_of (ways_before rest w) s) (flow_of_all w rest), own, more)
  labelled_steps w from next (case value rest) =
      let own = one_edge from (start_of_all rest next) in
      let more = labelled_steps w from next rest in
      omega (arith, length-append (edge from (start_of_all rest next)) (flow_to_labels from rest next), own, more)
  labelled_steps w from next (default rest) =
      let own = one_edge from (start_of_all rest next) in
      let more = labelled_steps w from next rest in
      omega (arith, length-append (edge from (start_of_all rest next)) (flow_to_labels from rest next), own, more)

function_steps : (f : TypedFunctionTree) → length (flow_of_function f) ≤ 1 + 4 * statements_nodes f.body
function_steps f =
    let ways = ways_of_body f in
    let own = one_edge f.spot.at (start_of_all f.body ways.next) in
    let rest = labelled_steps ways 0 None f.body in
    omega (arith, length-append (edge f.spot.at (start_of_all f.body ways.next)) (flow_of_all ways f.body), own, rest)

functions_steps : (all : List TypedFunctionTree) → ((k : ℕ) (f : TypedFunctionTree) → slice_get all k ≡ Some f → 2 + f.parameters + statements_nodes f.body ≤ f.weight) → length (flow_of_functions all) ≤ 4 * weight_of all
functions_steps [] light = omega arith
functions_steps (f ∷ all) light =
    let own = function_steps f in
    let weight = light 0 f refl in
    let rest = functions_steps all (λ k g is. light (suc k) g is) in
    omega (arith, length-append (flow_of_function f) (flow_of_functions all), own, weight, rest)

never_before_step : (s : FlowStep) → IsStepBefore s s → ⊥
never_before_step s (inl less) = omega (arith, less)
never_before_step s (inr same) = let less = same.1 in omega (arith, less)

-- THE STEPS OF A PROGRAM ARE FEW.
pub steps_few : (p : ProgramTree) → IsWellFormed p → (steps : List FlowStep) → ((s : FlowStep) → Contains steps s ↔ Contains (steps_of_program p) s) → AreInOrder steps → length steps ≤ 160000
steps_few p formed steps same ordered =
    let laws = laws_of p formed in
    let few = in_order_few IsStepBefore never_before_step steps (steps_of_program p) ordered (λ s has. (same s).0 has) in
    let many = length-map (flow_of_program p) (flow_step_of (places_of_program p)) in
    let light = functions_steps p.functions (λ k f is. (laws.functions k f is).nodes) in
    let weights = laws.weights in
    let weight = laws.weight in
    omega (arith, few, many, light, weights, weight)

-- ---- Assignments

module _ (at : ℕ) where
  named_few : (l : LvalueTree) → length (named_object at l) ≤ 1
  named_few (Named object of) = omega arith
  named_few (Target of p) = omega arith
  named_few (Element of p i) = omega arith
  named_few (ElementFrom of i p) = omega arith

  -- of two parts
  two_few : (xs ys : List Assigned) (m n : ℕ) → length xs ≤ m → length ys ≤ n → length (xs ++ ys) ≤ m + n
  two_few xs ys m n a b = omega (arith, length-append xs ys, a, b)

  mutual
    value_few : (e : RvalueTree) → length (assigned_objects at e) ≤ nodes e
    value_few (Constant value type) = omega arith
    value_few Null = omega arith
    value_few (Load scalar l) = within_few l
    value_few (Decay l) = within_few l
    value_few (AddressOf l) = let a = within_few l in omega (arith, a)
    value_few (Convert to a) = value_few a
    value_few (Discard a) = let x = value_few a in omega (arith, x)
    value_few (Signed sign type a) = let x = value_few a in omega (arith, x)
    value_few (Not a) = let x = value_few a in omega (arith, x)
    value_few (Arithmetic o type a b) = let x = two_few (assigned_objects at a) (assigned_objects at b) (nodes a) (nodes b) (value_few a) (value_few b) in omega (arith, x)
    value_few (Compare o type a b) = let x = two_few (assigned_objects at a) (assigned_objects at b) (nodes a) (nodes b) (value_few a) (value_few b) in omega (arith, x)
    value_few (ComparePointers o a b) = let x = two_few (assigned_objects at a) (assigned_objects at b) (nodes a) (nodes b) (value_few a) (value_few b) in omega (arith, x)
    value_few (Move direction element p n) = let x = two_few (assigned_objects at p) (assigned_objects at n) (nodes p) (nodes n) (value_few p) (value_few n) in omega (arith, x)
    value_few (MoveFrom n element p) = let x = two_few (assigned_objects at n) (assigned_objects at p) (nodes n) (nodes p) (value_few n) (value_few p) in omega (arith, x)
    value_few (Difference element a b) = let x = two_few (assigned_objects at a) (assigned_objects at b) (nodes a) (nodes b) (value_few a) (value_few b) in omega (arith, x)
    value_few (And a b) = let x = two_few (assigned_objects at a) (assigned_objects at b) (nodes a) (nodes b) (value_few a) (value_few b) in omega (arith, x)
    value_few (Or a b) = let x = two_few (assigned_objects at a) (assigned_objects at b) (nodes a) (nodes b) (value_few a) (value_few b) in omega (arith, x)
    value_few (Conditional c a b) =
        let x = two_few (assigned_objects at c) (assigned_objects at a) (nodes c) (nodes a) (value_few c) (value_few a) in
        let y = two_few (assigned_objects at c ++ assigned_objects at a) (assigned_objects at b) (nodes c + nodes a) (nodes b) x (value_few b) in
        omega (arith, y)
    value_few (Comma a b) = let x = two_few (assigned_objects at a) (assigned_objects at b) (nodes a) (nodes b) (value_few a) (value_few b) in omega (arith, x)
    value_few (Assign scalar l a) =
        let x = two_few (named_object at l) (assigned_within at l) 1 (place_nodes l) (named_few l) (within_few l) in
        let y = two_few (named_object at l ++ assigned_within at l) (assigned_objects at a) (1 + place_nodes l) (nodes a) x (value_few a) in
        omega (arith, y)
    value_few (Update o target type l a) =
        let x = two_few (named_object at l) (assigned_within at l) 1 (place_nodes l) (named_few l) (within_few l) in
        let y = two_few (named_object at l ++ assigned_within at l) (assigned_objects at a) (1 + place_nodes l) (nodes a) x (value_few a) in
        omega (arith, y)
    value_few (UpdatePointer direction element l n) =
        let x = two_few (named_object at l) (assigned_within at l) 1 (place_nodes l) (named_few l) (within_few l) in
        let y = two_few (named_object at l ++ assigned_within at l) (assigned_objects at n) (1 + place_nodes l) (nodes n) x (value_few n) in
        omega (arith, y)
    value_few (Step direction given target type l) = let x = two_few (named_object at l) (assigned_within at l) 1 (place_nodes l) (named_few l) (within_few l) in omega (arith, x)
    value_few (StepPointer direction given element l) = let x = two_few (named_object at l) (assigned_within at l) 1 (place_nodes l) (named_few l) (within_few l) in omega (arith, x)
    value_few (Call callee all) = let x = arguments_few all in omega (arith, x)

    within_few : (l : LvalueTree) → length (assigned_within at l) ≤ place_nodes l
    within_few (Named object of) = omega arith
    within_few (Target of p) = let x = value_few p in omega (arith, x)
    within_few (Element of p i) = let x = two_few (assigned_objects at p) (assigned_objects at i) (nodes p) (nodes i) (value_few p) (value_few i) in omega (arith, x)
    within_few (ElementFrom of i p) = let x = two_few (assigned_objects at i) (assigned_objects at p) (nodes i) (nodes p) (value_few i) (value_few p) in omega (arith, x)

    arguments_few : (all : ArgumentTrees) → length (assigned_by_all at all) ≤ argument_nodes all
    arguments_few expression.none = omega arith
    arguments_few (expression.first a rest) = two_few (assigned_objects at a) (assigned_by_all at rest) (nodes a) (argument_nodes rest) (value_few a) (arguments_few rest)

  elements_few : (all : List RvalueTree) → length (assigned_by_values at all) ≤ element_nodes all
  elements_few [] = omega arith
  elements_few (a ∷ rest) = two_few (assigned_objects at a) (assigned_by_values at rest) (nodes a) (element_nodes rest) (value_few a) (elements_few rest)

  initial_few : (i : InitialTree) → length (assigned_by_initial at i) ≤ initial_nodes i
  initial_few Zero = omega arith
  initial_few (Scalar a) = value_few a
  initial_few (Elements all) = let x = elements_few all in omega (arith, x)
  initial_few (Literal k) = omega arith

  option_few : (e : Option RvalueTree) → length (assigned_by_option at e) ≤ option_nodes e
  option_few None = omega arith
  option_few (Some e) = value_few e

declared_few : (all : List DeclaredTree) → length (assigned_by_declarators all) ≤ declared_nodes all
declared_few [] = omega arith
declared_few (d ∷ all) =
    let own = initial_few d.spot.at d.initial in
    let rest = declared_few all in
    omega (arith, length-append (assigned_by_initial d.spot.at d.initial) (assigned_by_declarators all), own, rest)

start_few : (s : TypedStartTree) → length (assigned_by_start s) ≤ start_nodes s
start_few Nothing = omega arith
start_few (Value spot e) = value_few spot.at e
start_few (Declares all) = declared_few all

step_few : (s : Option StepTree) → length (assigned_by_step s) ≤ step_nodes s
step_few None = omega arith
step_few (Some s) = value_few s.spot.at s.value

mutual
  statement_few : (s : TypedStatementTree) → length (assigned_by s) ≤ statement_nodes s
  statement_few (Block all) = let x = statements_few all in omega (arith, x)
  statement_few (Declaration all) = declared_few all
  statement_few (Empty spot) = omega arith
  statement_few (Run spot e) = let x = value_few spot.at e in omega (arith, x)
  statement_few (If spot c chosen) =
      let x = value_few spot.at c in
      let y = statement_few chosen in
      omega (arith, length-append (assigned_objects spot.at c) (assigned_by chosen), x, y)
  statement_few (IfElse spot c chosen other) =
      let x = value_few spot.at c in
      let y = statement_few chosen in
      let z = statement_few other in
      omega (arith, length-append (assigned_objects spot.at c ++ assigned_by chosen) (assigned_by other), length-append (assigned_objects spot.at c) (assigned_by chosen), x, y, z)
  statement_few (While spot c body) =
      let x = value_few spot.at c in
      let y = statement_few body in
      omega (arith, length-append (assigned_objects spot.at c) (assigned_by body), x, y)
  statement_few (DoWhile body spot c) =
      let x = value_few spot.at c in
      let y = statement_few body in
      omega (arith, length-append (assigned_objects spot.at c) (assigned_by body), x, y)
  statement_few (For begin spot c step body) =
      let one = assigned_by_start begin in
      let two = assigned_by_option spot.at c in
      let three = assigned_by_step step in
      let x = start_few begin in
      let y = option_few spot.at c in
      let z = step_few step in
      let rest = statement_few body in
      omega (arith, length-append (one ++ two ++ three) (assigned_by body), length-append (one ++ two) three, length-append one two, x, y, z, rest)
  statement_few (Switch spot e all) =
      let x = value_few spot.at e in
      let y = statements_few all in
      omega (arith, length-append (assigned_objects spot.at e) (assigned_by_statements all), x, y)
  statement_few (Break spot) = omega arith
  statement_few (Continue spot) = omega arith
  statement_few (Return spot e) = let x = option_few spot.at e in omega (arith, x)

  statements_few : (all : TypedStatementTrees) → length (assigned_by_statements all) ≤ statements_nodes all
  statements_few statement.none = omega arith
  statements_few (statement.first s rest) =
      let own = statement_few s in
      let more = statements_few rest in
      omega (arith, length-append (assigned_by s) (assigned_by_statements rest), own, more)
  statements_few (case value rest) = let more = statements_few rest in omega (arith, more)
  statements_few (default rest) = let more = statements_few rest in omega (arith, more)

so_many_numbers : (least count : ℕ) → length (numbers_from least count) ≡ count
so_many_numbers least zero = refl
so_many_numbers least (suc count) = let rest = so_many_numbers (least + 1) count in omega (arith, rest)

function_few : (f : TypedFunctionTree) → length (assigned_by_function f) ≤ f.parameters + statements_nodes f.body
function_few f =
    let entry : ℕ → Assigned = λ x. assigns_object f.spot.at (object.Automatic x) in
    let parameters = numbers_from f.first_variable f.parameters in
    let own : length (assigned_by_entry f) ≡ length parameters = length-map parameters entry in
    let many = so_many_numbers f.first_variable f.parameters in
    let rest = statements_few f.body in
    omega (arith, length-append (assigned_by_entry f) (assigned_by_statements f.body), own, many, rest)

functions_few : (all : List TypedFunctionTree) → ((k : ℕ) (f : TypedFunctionTree) → slice_get all k ≡ Some f → 2 + f.parameters + statements_nodes f.body ≤ f.weight) → length (assigned_by_functions all) ≤ weight_of all
functions_few [] light = omega arith
functions_few (f ∷ all) light =
    let own = function_few f in
    let weight = light 0 f refl in
    let rest = functions_few all (λ k g is. light (suc k) g is) in
    omega (arith, length-append (assigned_by_function f) (assigned_by_functions all), own, weight, rest)

one_number : (place : ℕ) (o : Option ℕ) → length (numbered_for place o) ≤ 1
one_number place None = omega arith
one_number place (Some x) = omega arith

numbered_few : (p : ProgramTree) (places : List Place) (all : List Assigned) → length (numbered_assigned p places all) ≤ length all
numbered_few p places [] = omega arith
numbered_few p places (a ∷ all) =
    let own = one_number (place_number_at places a.at) (variable_number p a.object) in
    let rest = numbered_few p places all in
    omega (arith, length-append (numbered_for (place_number_at places a.at) (variable_number p a.object)) (numbered_assigned p places all), own, rest)

never_before_assignment : (a : Assignment) → IsAssignmentBefore a a → ⊥
never_before_assignment a (inl less) = omega (arith, less)
never_before_assignment a (inr same) = let less = same.1 in omega (arith, less)

-- THE ASSIGNMENTS OF A PROGRAM ARE FEW.
pub assigned_few : (p : ProgramTree) → IsWellFormed p → (assignments : List Assignment) → ((a : Assignment) → Contains assignments a ↔ Contains (assignments_of_program p) a) → AllPairs IsAssignmentBefore assignments → length assignments ≤ 40000
assigned_few p formed assignments same ordered =
    let laws = laws_of p formed in
    let few = in_order_few IsAssignmentBefore never_before_assignment assignments (assignments_of_program p) ordered (λ a has. (same a).0 has) in
    let many = numbered_few p (places_of_program p) (assigned_by_program p) in
    let light = functions_few p.functions (λ k f is. (laws.functions k f is).nodes) in
    let weights = laws.weights in
    let weight = laws.weight in
    omega (arith, few, many, light, weights, weight)
