-- In a well-formed program a variable is known at each place where it is visible, at no entry of a function, and where it comes to be known along a step, the place before assigns it.
use Rattle.std.proofs.Common.{◌≡◌, ℕ, zero, suc, ◌+◌, ◌≤◌, ◌<◌, ◌⊎◌, inl, inr, Bool, true, false, Some, None, Option, List, [], ◌∷◌, ◌++◌, length, map, slice_get, refl, sym, ap, ◌∙◌, subst, arith}
use Rattle.std.specs.Prelude.{◌==◌, ◌&&◌, ◌↔◌, nat_lt, if◌then◌else◌, option_map}
use Rattle.std.specs.List.{AllByRecursion, Contains}
use Rattle.std.proofs.lemmas.Bool.{and_parts}
use Rattle.std.proofs.lemmas.Bool.Decides.{nat_tests}
use Rattle.std.proofs.lemmas.List.Elements.{Contains-append_left, Contains-append_right, Contains-push}
use Rattle.std.proofs.lemmas.Option.{none-some, slice_get-map}
use Rattle.places.specs.declared.flow.FlowStep.{FlowStep}
use Rattle.places.specs.declared.flow.Assignment.{Assignment}
use Rattle.places.specs.Flow.{can_go, assigns}
use Rattle.places.proofs.Searched.{StepOf, step_of}
use Rattle.c_tree.specs.declared.object_type.Object.TheVariants as object
use Rattle.c_tree.specs.Programs.{AutomaticTree, TypedFunctionTree, ProgramTree}
use Rattle.c_type_laws.specs.Statements.{are_statements}
use Rattle.c_type_laws.specs.Laws.{IsWellFormed, are_functions, is_function, declares_its_own, are_in_memory, keeps_limits, objects_ascend, follow, is_main, are_objects, is_within, places_ascend, is_sound}
use Rattle.c_type_laws.specs.Orders.{ascends, ascends_behind, never_falls}
use Rattle.c_type_laws.specs.Parameters.{parameters_single}
use Rattle.c_type_laws.specs.Plain.{are_plain}
use Rattle.c_places.specs.Memory.{kept_by_all}
use Rattle.c_places.specs.Places.{Place, entry_of, places_of_program, count_before, place_number_at as number_at, is_hidden, visible}
use Rattle.c_flow.specs.Rows.{Row, numbers_of, flow_row, rows_of_program, variable_if}
use Rattle.c_flow.specs.declared.edge.Edge.{Edge}
use Rattle.c_flow.specs.declared.assigned.Assigned.{Assigned}
use Rattle.c_flow.specs.Flow.{flow_of_program, flow_step_of, steps_of_program}
use Rattle.c_flow.specs.Assigns.{assigns_object, assigned_by_program, assignments_of_program, numbered_assigned, numbered_for, variable_number}
use Rattle.graph_core.specs.Paths.{Among, front, behind}
use Rattle.graph_core_weights.proofs.Passing.{some_same}
use Rattle.image_build.proofs.Known.{known_of_function, known_of_functions, known_of_program, wider_at, wider_back, wider_program}
use Rattle.image_build.proofs.Scopes.{IsPlaced, ArePlaced, IsSound, AreSound, functions_sound}
use Rattle.base_laws.proofs.Lists.{any_at, member_at as at_of}
use Rattle.base_laws.proofs.Numbers.{is_less, less, not_before as not_less}

-- ---- Laws

abbrev IsTyped : ProgramTree → TypedFunctionTree → Type 0
IsTyped p f = are_statements p f false false None f.body ≡ true

functions_typed : (p : ProgramTree) (all : List TypedFunctionTree) → are_functions p all ≡ true → AllByRecursion (IsTyped p) all
functions_typed p [] h = tt
functions_typed p (f ∷ all) h =
    let one = and_parts (is_function p f) (are_functions p all) h in
    let a = and_parts (are_statements p f false false None f.body && declares_its_own f && are_in_memory p.automatics (kept_by_all f.body []) && keeps_limits p.automatics f) (are_plain f.body) one.0 in
    let b = and_parts (are_statements p f false false None f.body && declares_its_own f && are_in_memory p.automatics (kept_by_all f.body [])) (keeps_limits p.automatics f) a.0 in
    let c = and_parts (are_statements p f false false None f.body && declares_its_own f) (are_in_memory p.automatics (kept_by_all f.body [])) b.0 in
    let d = and_parts (are_statements p f false false None f.body) (declares_its_own f) c.0 in
    (d.0, functions_typed p all one.1)

abbrev spots : List Place → List ℕ
spots all = map (λ (q : Place). q.spot.at) all

record LawsOf (p : ProgramTree) : Type 0 where
  typed : AllByRecursion (IsTyped p) p.functions
  ascend : ascends (spots (places_of_program p)) ≡ true

laws_of : (p : ProgramTree) → IsWellFormed p → LawsOf p
laws_of p h =
    let follows = follow 0 (length p.automatics) p.functions in
    let main = is_main (slice_get p.functions p.main) in
    let singles = parameters_single p.automatics p.functions in
    let last = and_parts (objects_ascend p && follows && main && are_objects p && are_functions p p.functions && is_within p && places_ascend (places_of_program p) && singles) (is_sound p) h in
    let a = and_parts (objects_ascend p && follows && main && are_objects p && are_functions p p.functions && is_within p && places_ascend (places_of_program p)) singles last.0 in
    let b = and_parts (objects_ascend p && follows && main && are_objects p && are_functions p p.functions && is_within p) (places_ascend (places_of_program p)) a.0 in
    let c = and_parts (objects_ascend p && follows && main && are_objects p && are_functions p p.functions) (is_within p) b.0 in
    let d = and_parts (objects_ascend p && follows && main && are_objects p) (are_functions p p.functions) c.0 in
    record {
      typed = functions_typed p p.functions d.1;
      ascend = (and_parts (ascends (spots (places_of_program p))) (never_falls 1 (map (λ (q : Place). q.spot.line) (places_of_program p))) b.1).0;
    }

-- ---- Places are numbered from 1

counted_none : (last at : ℕ) (all : List Place) → at ≤ last → ascends_behind last (spots all) ≡ true → count_before at all ≡ 0
counted_none last at [] le h = refl
counted_none last at (q ∷ all) le h =
    let law = and_parts (nat_lt last q.spot.at) (ascends_behind q.spot.at (spots all)) h in
    let lt = is_less last q.spot.at law.0 in
    by_test (nat_lt q.spot.at at) (not_less q.spot.at at (omega (arith, lt, le))) (counted_none q.spot.at at all (omega (arith, lt, le)) law.1)
  where
    by_test : (b : Bool) → b ≡ false → count_before at all ≡ 0 → (if b then count_before at all + 1 else count_before at all) ≡ 0
    by_test true e n = cc
    by_test false e n = n

counted_same : (q : Place) (all : List Place) → ascends_behind q.spot.at (spots all) ≡ true → count_before q.spot.at (q ∷ all) ≡ 0
counted_same q all h = by_test (nat_lt q.spot.at q.spot.at) (not_less q.spot.at q.spot.at (omega arith)) (counted_none q.spot.at q.spot.at all (omega arith) h)
  where
    by_test : (b : Bool) → b ≡ false → count_before q.spot.at all ≡ 0 → (if b then count_before q.spot.at all + 1 else count_before q.spot.at all) ≡ 0
    by_test true e n = cc
    by_test false e n = n

counted_more : (x : Place) (at k : ℕ) (all : List Place) → x.spot.at < at → count_before at all ≡ k → count_before at (x ∷ all) ≡ suc k
counted_more x at k all lt n = by_test (nat_lt x.spot.at at) (less x.spot.at at lt)
  where
    by_test : (b : Bool) → b ≡ true → (if b then count_before at all + 1 else count_before at all) ≡ suc k
    by_test true e = omega (arith, n)
    by_test false e = cc

counted_from : (last : ℕ) (all : List Place) (k : ℕ) (q : Place) → ascends_behind last (spots all) ≡ true → slice_get all k ≡ Some q → (last < q.spot.at) × (count_before q.spot.at all ≡ k)
counted_from last [] k q h e = cc
counted_from last (x ∷ all) zero q h e =
    let law = and_parts (nat_lt last x.spot.at) (ascends_behind x.spot.at (spots all)) h in
    subst (λ (y : Place). (last < y.spot.at) × (count_before y.spot.at (x ∷ all) ≡ 0)) (some_same e) (is_less last x.spot.at law.0, counted_same x all law.1)
counted_from last (x ∷ all) (suc k) q h e =
    let law = and_parts (nat_lt last x.spot.at) (ascends_behind x.spot.at (spots all)) h in
    let rest = counted_from x.spot.at all k q law.1 e in
    let first = is_less last x.spot.at law.0 in
    let next = rest.0 in
    (omega (arith, first, next), counted_more x q.spot.at k all next rest.1)

counted : (all : List Place) (k : ℕ) (q : Place) → ascends (spots all) ≡ true → slice_get all k ≡ Some q → count_before q.spot.at all ≡ k
counted [] k q h e = cc
counted (x ∷ all) zero q h e = subst (λ (y : Place). count_before y.spot.at (x ∷ all) ≡ 0) (some_same e) (counted_same x all h)
counted (x ∷ all) (suc k) q h e = let rest = counted_from x.spot.at all k q h e in counted_more x q.spot.at k all rest.0 rest.1

-- ---- What is known at the numbers of places

-- A variable of the program is known at the place of a number.
pub record IsKnown (p : ProgramTree) (number variable : ℕ) : Type 0 where
  pub index : ℕ
  pub place : Place
  pub x : ℕ
  pub is : slice_get (known_of_program p) index ≡ Some place
  pub here : number ≡ index + 1
  pub among : Among x place.scope
  pub of : variable_number p (object.Automatic x) ≡ Some variable

module _ (p : ProgramTree) (formed : IsWellFormed p) where
  places : List Place
  places = places_of_program p

  known : List Place
  known = known_of_program p

  -- at a position
  record IsIn (at x : ℕ) : Type 0 where
    index : ℕ
    place : Place
    is : slice_get (known_of_program p) index ≡ Some place
    number : number_at (places_of_program p) at ≡ index + 1
    among : Among x place.scope

  abbrev Assigns : (at x : ℕ) → Type 0
  Assigns at x = Among (assigns_object at (object.Automatic x)) (assigned_by_program p)

  known_number : (k : ℕ) (q : Place) → slice_get (known_of_program p) k ≡ Some q → number_at (places_of_program p) q.spot.at ≡ k + 1
  known_number k q is =
      let back = wider_back (places_of_program p) (known_of_program p) (wider_program p) k q is in
      let count : count_before back.0.spot.at (places_of_program p) ≡ k = counted (places_of_program p) k back.0 (laws_of p formed).ascend back.1 in
      ap (number_at (places_of_program p)) back.2 ∙ ap (λ n. n + 1) count

  placed_at : (k : ℕ) (q : Place) → slice_get (known_of_program p) k ≡ Some q → IsPlaced IsIn Assigns q
  placed_at k q is = record { only = λ x i. same x i; all = λ x a. record { index = k; place = q; is = is; number = known_number k q is; among = a } }
    where
      same : (x : ℕ) → IsIn q.spot.at x → Among x q.scope
      same x i =
          let one = i.number in
          let other = known_number k q is in
          let index : i.index ≡ k = omega (arith, one, other) in
          let place : i.place ≡ q = some_same (sym i.is ∙ ap (slice_get (known_of_program p)) index ∙ is) in
          subst (λ (y : Place). Among x y.scope) place i.among

  each_placed : (all : List Place) → ((k : ℕ) (q : Place) → slice_get all k ≡ Some q → IsPlaced IsIn Assigns q) → ArePlaced IsIn Assigns all
  each_placed [] h = tt
  each_placed (q ∷ all) h = (h 0 q refl, each_placed all (λ k y e. h (suc k) y e))

  flow_sound : AreSound IsIn Assigns (flow_of_program p)
  flow_sound = functions_sound IsIn Assigns p 0 p.functions (laws_of p formed).typed (each_placed (known_of_program p) placed_at) (λ at x a. a)

  -- what is assigned at a position is assigned at the place of its number
  assigned_there : (all : List Assigned) (at x variable : ℕ) → Among (assigns_object at (object.Automatic x)) all → variable_number p (object.Automatic x) ≡ Some variable
      → Contains (numbered_assigned p (places_of_program p) all) (record { place = record { 0 = number_at (places_of_program p) at }; var = record { 0 = variable } })
  assigned_there [] at x variable a of = elim a [ ]
  assigned_there (b ∷ all) at x variable front of =
      Contains-append_left (numbered_for (number_at (places_of_program p) at) (variable_number p (object.Automatic x))) (numbered_assigned p (places_of_program p) all) (record { place = record { 0 = number_at (places_of_program p) at }; var = record { 0 = variable } })
      (subst (λ (o : Option ℕ). Contains (numbered_for (number_at (places_of_program p) at) o) (record { place = record { 0 = number_at (places_of_program p) at }; var = record { 0 = variable } })) (sym of)
      (Contains-push [] (record { place = record { 0 = number_at (places_of_program p) at }; var = record { 0 = variable } })))
  assigned_there (b ∷ all) at x variable (behind a) of =
      Contains-append_right (numbered_for (number_at (places_of_program p) b.at) (variable_number p b.object)) (numbered_assigned p (places_of_program p) all) (record { place = record { 0 = number_at (places_of_program p) at }; var = record { 0 = variable } }) (assigned_there all at x variable a of)

  -- along an edge
  along : (e : Edge) (variable : ℕ) → IsSound IsIn Assigns e → IsKnown p (number_at (places_of_program p) e.to) variable
      → IsKnown p (number_at (places_of_program p) e.from) variable ⊎ Contains (assignments_of_program p) (record { place = record { 0 = number_at (places_of_program p) e.from }; var = record { 0 = variable } })
  along e variable sound k = elim (sound k.x (record { index = k.index; place = k.place; is = k.is; number = k.here; among = k.among })) [
    | inl i ↦ inl (record { index = i.index; place = i.place; x = k.x; is = i.is; here = i.number; among = i.among; of = k.of })
    | inr a ↦ inr (assigned_there (assigned_by_program p) e.from k.x variable a k.of)
  ]

  step_there : (all : List Edge) → AreSound IsIn Assigns all → (j : ℕ) (s : FlowStep) → slice_get (map (flow_step_of (places_of_program p)) all) j ≡ Some s → (variable : ℕ) → IsKnown p s.to.0 variable
      → IsKnown p s.from.0 variable ⊎ Contains (assignments_of_program p) (record { place = s.from; var = record { 0 = variable } })
  step_there [] sound j s is variable k = cc
  step_there (e ∷ all) sound zero s is variable k =
      subst (λ (t : FlowStep). IsKnown p t.to.0 variable → IsKnown p t.from.0 variable ⊎ Contains (assignments_of_program p) (record { place = t.from; var = record { 0 = variable } })) (some_same is) (λ i. along e variable sound.0 i) k
  step_there (e ∷ all) sound (suc j) s is variable k = step_there all sound.1 j s is variable k

-- ---- As units have it

same_test : (a b c d : ℕ) → a ≡ c → b ≡ d → (a == c && b == d) ≡ true
same_test a b c d one other = grind (arith, nat_tests)

-- Steps and assignments are a program's.
pub record HaveFlowOf (p : ProgramTree) (steps : List FlowStep) (assignments : List Assignment) : Type 0 where
  pub steps_are : (s : FlowStep) → Contains steps s ↔ Contains (steps_of_program p) s
  pub assignments_are : (a : Assignment) → Contains assignments a ↔ Contains (assignments_of_program p) a

module _ (p : ProgramTree) (formed : IsWellFormed p) (steps : List FlowStep) (assignments : List Assignment) (flow : HaveFlowOf p steps assignments) where
  -- Where a variable comes to be known along a step, the place before assigns it.
  pub comes_known : (from to variable : ℕ) → can_go steps from to ≡ true → IsKnown p to variable → IsKnown p from variable ⊎ (assigns assignments from variable ≡ true)
  comes_known from to variable goes known = by_step (elim_step there)
    where
      s : StepOf steps from to
      s = step_of steps from to goes

      in_steps : Contains steps s.step
      in_steps = at_contains steps s.index s.step s.is
        where
          at_contains : (xs : List FlowStep) (k : ℕ) (y : FlowStep) → slice_get xs k ≡ Some y → Contains xs y
          at_contains [] k y e = absurd (none-some y e)
          at_contains (x ∷ xs) zero y e = subst (λ (z : FlowStep). Contains (x ∷ xs) z) (some_same e) (0, omega arith, refl)
          at_contains (x ∷ xs) (suc k) y e = let r = at_contains xs k y e in let lt = r.1 in (suc r.0, omega (arith, lt), r.2)

      there : (j : ℕ) × (slice_get (steps_of_program p) j ≡ Some s.step)
      there = at_of (steps_of_program p) s.step ((flow.steps_are s.step).0 in_steps)

      elim_step : (j : ℕ) × (slice_get (steps_of_program p) j ≡ Some s.step) → IsKnown p s.step.from.0 variable ⊎ Contains (assignments_of_program p) (record { place = s.step.from; var = record { 0 = variable } })
      elim_step t = step_there p formed (flow_of_program p) (flow_sound p formed) t.0 s.step t.1 variable (subst (λ n. IsKnown p n variable) (sym s.to) known)

      by_step : IsKnown p s.step.from.0 variable ⊎ Contains (assignments_of_program p) (record { place = s.step.from; var = record { 0 = variable } }) → IsKnown p from variable ⊎ (assigns assignments from variable ≡ true)
      by_step (inl k) = inl (subst (λ n. IsKnown p n variable) s.from k)
      by_step (inr c) =
          let a : Assignment = record { place = s.step.from; var = record { 0 = variable } } in
          let found = at_of assignments a ((flow.assignments_are a).1 c) in
          inr (any_at (λ (b : Assignment). b.place.0 == from && b.var.0 == variable) assignments found.0 a found.1 (same_test s.step.from.0 variable from variable s.from refl))

-- Nothing is known at the entry of a function.
pub none_known : (p : ProgramTree) → IsWellFormed p → (f : ℕ) (tree : TypedFunctionTree) (variable : ℕ) → slice_get p.functions f ≡ Some tree → IsKnown p (number_at (places_of_program p) tree.spot.at) variable → ⊥
none_known p formed f tree variable is k = by_place (entry_at 0 p.functions f tree is)
  where
    -- the entry's place is among them
    entry_at : (n : ℕ) (all : List TypedFunctionTree) (j : ℕ) (t : TypedFunctionTree) → slice_get all j ≡ Some t → (i : ℕ) × (m : ℕ) × (slice_get (known_of_functions n all) i ≡ Some (entry_of m t))
    entry_at n [] j t e = cc
    entry_at n (x ∷ all) zero t e = (0, n, ap (λ (y : TypedFunctionTree). Some (entry_of n y)) (some_same e))
    entry_at n (x ∷ all) (suc j) t e = let r = entry_at (n + 1) all j t e in let b = got_behind (known_of_function n x) (known_of_functions (n + 1) all) r.0 (entry_of r.1 t) r.2 in (b.0, r.1, b.1)
      where
        got_behind : (xs ys : List Place) (i : ℕ) (y : Place) → slice_get ys i ≡ Some y → (h : ℕ) × (slice_get (xs ++ ys) h ≡ Some y)
        got_behind [] ys i y g = (i, g)
        got_behind (z ∷ xs) ys i y g = let r = got_behind xs ys i y g in (suc r.0, r.1)

    nothing : Among k.x [] → ⊥
    nothing a = elim a [ ]

    by_place : (i : ℕ) × (m : ℕ) × (slice_get (known_of_functions 0 p.functions) i ≡ Some (entry_of m tree)) → ⊥
    by_place r =
        let number = known_number p formed r.0 (entry_of r.1 tree) r.2 in
        let here = k.here in
        let index : k.index ≡ r.0 = omega (arith, number, here) in
        let place : k.place ≡ entry_of r.1 tree = some_same (sym k.is ∙ ap (slice_get (known_of_program p)) index ∙ r.2) in
        nothing (subst (λ (y : Place). Among k.x y.scope) place k.among)

-- ---- What is visible is known

visible_step : (all : List AutomaticTree) (y : ℕ) (later : List ℕ) (x : ℕ) (b : Bool) → (Among x (visible all later) → Among x later) → Among x (if b then visible all later else y ∷ visible all later) → Among x (y ∷ later)
visible_step all y later x true rest h = behind (rest h)
visible_step all y later x false rest front = front
visible_step all y later x false rest (behind h) = behind (rest h)

visible_among : (all : List AutomaticTree) (scope : List ℕ) (x : ℕ) → Among x (visible all scope) → Among x scope
visible_among all [] x a = a
visible_among all (y ∷ later) x a = visible_step all y later x (is_hidden all y later) (λ h. visible_among all later x h) a

-- one of these variables has a number
record IsNumberOf (p : ProgramTree) (xs : List ℕ) (variable : ℕ) : Type 0 where
  x : ℕ
  among : Among x xs
  of : variable_number p (object.Automatic x) ≡ Some variable

number_step : (p : ProgramTree) (x : ℕ) (xs : List ℕ) (variable : ℕ) (o : Option ℕ) → variable_number p (object.Automatic x) ≡ o → (Among variable (numbers_of p xs) → IsNumberOf p xs variable) → Among variable (variable_if o ++ numbers_of p xs) → IsNumberOf p (x ∷ xs) variable
number_step p x xs variable None e rest h = let r = rest h in record { x = r.x; among = behind r.among; of = r.of }
number_step p x xs variable (Some n) e rest front = record { x = x; among = front; of = e }
number_step p x xs variable (Some n) e rest (behind h) = (let r = rest h in record { x = r.x; among = behind r.among; of = r.of })

number_among : (p : ProgramTree) (xs : List ℕ) (variable : ℕ) → Among variable (numbers_of p xs) → IsNumberOf p xs variable
number_among p [] variable a = elim a [ ]
number_among p (x ∷ xs) variable a = number_step p x xs variable (variable_number p (object.Automatic x)) refl (λ h. number_among p xs variable h) a

-- A variable that is visible at a place is known there.
pub visible_known : (p : ProgramTree) (k variable : ℕ) (row : Row) → slice_get (rows_of_program p) k ≡ Some row → Among variable row.visible → IsKnown p (k + 1) variable
visible_known p k variable row is among = by_place (slice_get (places_of_program p) k) refl
  where
    by_place : (o : Option Place) → slice_get (places_of_program p) k ≡ o → IsKnown p (k + 1) variable
    by_place None e = absurd (none-some row (sym (slice_get-map (flow_row p) (places_of_program p) k ∙ ap (λ o. option_map (flow_row p) o) e) ∙ is))
    by_place (Some q) e =
        let same : flow_row p q ≡ row = some_same (sym (slice_get-map (flow_row p) (places_of_program p) k ∙ ap (λ o. option_map (flow_row p) o) e) ∙ is) in
        let number = number_among p (visible p.automatics q.scope) variable (subst (λ (r : Row). Among variable r.visible) (sym same) among) in
        let there = wider_at (places_of_program p) (known_of_program p) (wider_program p) k q e in
        record { index = k; place = there.place; x = number.x; is = there.is; here = refl; among = there.more number.x (visible_among p.automatics q.scope number.x number.among); of = number.of }
