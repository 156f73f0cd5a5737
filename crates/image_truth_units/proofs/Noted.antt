-- Each path from the marker of a place that assigns a scalar's variable, and from each write of the scalar, notes it before the next marker.
use Rattle.std.proofs.Common.{◌≡◌, ◌⊎◌, inl, inr, ℕ, zero, suc, ◌+◌, ◌<◌, Bool, true, false, Option, Some, None, List, [], ◌∷◌, ◌++◌, length, map, slice_get, refl, sym, ap, ◌∙◌, subst, arith, if◌then◌else◌, ◌==◌}
use Rattle.std.specs.Prelude.{◌||◌, ◌&&◌, nat_lt}
use Rattle.std.proofs.lemmas.Bool.Decides.{nat_tests}
use Rattle.places.specs.declared.flow.Assignment.{Assignment}
use Rattle.places.specs.Flow.{assigns}
use Rattle.c_tree.specs.declared.object_type.Object as designator
use Rattle.c_tree.specs.declared.object_type.Object.TheVariants as object
use Rattle.c_tree.specs.Programs.{AutomaticTree, TypedFunctionTree, ProgramTree}
use Rattle.c_type_laws.specs.Laws.{is_in_memory}
use Rattle.c_places.specs.Places.{Place, numbers_from, parameters_of, entry_of, close_of, places_of_all, places_of_function, places_of_functions, places_of_program, place_number_at}
use Rattle.c_flow.specs.declared.assigned.Assigned.{Assigned}
use Rattle.c_flow.specs.Assigns.{assigns_object, assigned_by_entry, assigned_by_statements, assigned_by_function, assigned_by_functions, assigned_by_program, among, variable_number, numbered_for, numbered_assigned, assignments_of_program}
use Rattle.c_flow.specs.Flow.{start_of_all, ways_of_body}
use Rattle.graph_core.specs.Graphs as unit
use Rattle.graph_core.specs.Graphs.{Instruction, Marker, Note, Move, Operate, Truncate, Same, Address, Load, Store, Zero, CopyWords, Call, End, Block, Graph, UnitForm}
use Rattle.graph_core.specs.Uses.{targets_of}
use Rattle.graph_core.specs.Paths.{History, Among, front, behind, Path, is_marker, notes, writes, unnoted, owed, owed_by}
use Rattle.graph_build_names.specs.Names.{names_of, scalar_of}
use Rattle.graph_build_steps.specs.Drafts.{Made, ending}
use Rattle.graph_build_statements.specs.Coding.{Coding, Part, place_of, going}
use Rattle.graph_build.specs.Units.{variable_of, note_if, note_parameters, add_close, body_part, is_again, block_count, graph_of}
use Rattle.graph_build_laws.specs.Passing.{Grows}
use Rattle.graph_build_laws.specs.Surely.{Notes, now, later, over}
use Rattle.graph_build_laws.proofs.Ascending.{Ascend, AllAscend, numbered_in}
use Rattle.graph_build_laws.proofs.GraphMarkingPieces.{grows_none}
use Rattle.graph_build_laws.proofs.GraphMarkingStatements.{AreMadeOf, made_more}
use Rattle.graph_build_laws.proofs.Accepted.{ProgramFacts}
use Rattle.graph_build_laws.proofs.Homes.{named_outside}
use Rattle.image_truth_units.proofs.Due as due
use Rattle.image_truth_units.proofs.Fitting.{statements_fit}
use Rattle.image_truth_units.proofs.UnitFactsFunctions.{noted_inner}
use Rattle.image_truth_units.proofs.Graphs.{code, g, whole, of_blocks, marker_noted}
use Rattle.image_truth_units.proofs.Growing.{going_grows}
use Rattle.image_truth_units.proofs.Owing.{N, Owns, HasN, step_on, note_is, statements_owe}
use Rattle.image_truth_units.proofs.Positions.{At, at_front, at_back, split_among, above, apart, same_assigned, ascend_front, ascend_back, Within, joined, statements_within}
use Rattle.image_truth_units.proofs.Walking.{IsKept, walked}
use Rattle.base_laws.proofs.Booleans.{or_cases, two_true}
use Rattle.base_laws.proofs.Numbers.{are_equal as same_name, false_true}
use Rattle.base_laws.proofs.Options.{none_is, some_same}

-- ---- where the variable of an assignment of the unit is assigned

-- A unit has no other assignments than those of a program.
abbrev pub HasOnly : ProgramTree → UnitForm → Type 0
HasOnly p u = (a : Assignment) → Among a u.assignments → Among a (assignments_of_program p)

assigned_one : (all : List Assignment) (q x : ℕ) → assigns all q x ≡ true → (a : Assignment) × Among a all × (a.place.0 ≡ q) × (a.var.0 ≡ x)
assigned_one [] q x h = absurd (false_true h)
assigned_one (a ∷ all) q x h = by (or_cases ((a.place.0 == q) && (a.var.0 == x)) (assigns all q x) h) (assigned_one all q x)
  where
    by : ((a.place.0 == q) && (a.var.0 == x) ≡ true) ⊎ (assigns all q x ≡ true) → (assigns all q x ≡ true → (b : Assignment) × Among b all × (b.place.0 ≡ q) × (b.var.0 ≡ x)) → (b : Assignment) × Among b (a ∷ all) × (b.place.0 ≡ q) × (b.var.0 ≡ x)
    by (inl e) again = let k = two_true (a.place.0 == q) (a.var.0 == x) e in (a, front, same_name a.place.0 q k.0, same_name a.var.0 x k.1)
    by (inr e) again = let r = again e in (r.0, behind r.1, r.2, r.3)

only_one : {A : Type 0} (a b : A) → Among a (b ∷ []) → a ≡ b
only_one a b front = refl
only_one a b (behind h) = elim h [ ]

-- what an assignment by numbers is of
unnumbered : (p : ProgramTree) (places : List Place) (all : List Assigned) (a : Assignment) → Among a (numbered_assigned p places all) → (b : Assigned) × Among b all × (place_number_at places b.at ≡ a.place.0) × (variable_number p b.object ≡ Some a.var.0)
unnumbered p places [] a h = elim h [ ]
unnumbered p places (b ∷ all) a h = by (split_among a (numbered_for (place_number_at places b.at) (variable_number p b.object)) (numbered_assigned p places all) h) (unnumbered p places all a)
  where
    one : (o : Option ℕ) → variable_number p b.object ≡ o → Among a (numbered_for (place_number_at places b.at) o) → (place_number_at places b.at ≡ a.place.0) × (variable_number p b.object ≡ Some a.var.0)
    one None e k = elim k [ ]
    one (Some m) e k =
        let same = only_one a (record { place = record { 0 = place_number_at places b.at }; var = record { 0 = m } }) k in (sym (ap (λ (z : Assignment). z.place.0) same), e ∙ ap (λ (z : Assignment). Some z.var.0) (sym same))

    by : Among a (numbered_for (place_number_at places b.at) (variable_number p b.object)) ⊎ Among a (numbered_assigned p places all) →
        (Among a (numbered_assigned p places all) → (d : Assigned) × Among d all × (place_number_at places d.at ≡ a.place.0) × (variable_number p d.object ≡ Some a.var.0)) →
        (d : Assigned) × Among d (b ∷ all) × (place_number_at places d.at ≡ a.place.0) × (variable_number p d.object ≡ Some a.var.0)
    by (inl k) again = let r = one (variable_number p b.object) refl k in (b, front, r.0, r.1)
    by (inr k) again = let r = again k in (r.0, behind r.1, r.2, r.3)

-- the object of a variable's number
among_is : (count base number m : ℕ) → among count base number ≡ Some m → (number < count) × (m ≡ base + number)
among_is count base number m h = by (nat_lt number count) refl h
  where
    lt : nat_lt number count ≡ true → number < count
    lt e = grind (arith, nat_tests)

    by : (b : Bool) → nat_lt number count ≡ b → (if b then Some (base + number) else None) ≡ Some m → (number < count) × (m ≡ base + number)
    by true e h = (lt e, sym (some_same h))
    by false e h = absurd (none_is h)

automatic_is : (p : ProgramTree) (o : designator.Object) (v : ℕ) → variable_number p o ≡ Some (variable_of p v) → o ≡ object.Automatic v
automatic_is p (object.Static i) v h = let r = among_is (length p.statics) 0 i (variable_of p v) h in absurd (omega (arith, r.0, r.1))
automatic_is p (object.Literal i) v h = let r = among_is (length p.literals) (length p.statics) i (variable_of p v) h in absurd (omega (arith, r.0, r.1))
automatic_is p (object.Automatic w) v h =
    let r = among_is (length p.automatics) (length p.statics + length p.literals) w (variable_of p v) h in
    let same : w ≡ v = omega (arith, r.1) in ap object.Automatic same

-- positions of places that ascend have numbers of their own
got_there : (places : List Place) (q : Place) → Among q places → (j : ℕ) × (slice_get places j ≡ Some q)
got_there [] q h = elim h [ ]
got_there (q ∷ places) r front = (0, refl)
got_there (q ∷ places) r (behind h) = let k = got_there places r h in (suc k.0, k.1)

one_position : (places : List Place) → AllAscend places → (a b : ℕ) → At a places → At b places → place_number_at places a ≡ place_number_at places b → a ≡ b
one_position places up a b (q, h, e) (r, k, d) same =
    let i = got_there places q h in
    let j = got_there places r k in
    let m = numbered_in places up i.0 q i.1 in
    let n = numbered_in places up j.0 r j.1 in
    let numbers : place_number_at places q.spot.at ≡ place_number_at places r.spot.at = ap (place_number_at places) e ∙ same ∙ sym (ap (place_number_at places) d) in
    let index : i.0 ≡ j.0 = omega (arith, m, n, numbers) in
    let place : q ≡ r = some_same (sym i.1 ∙ ap (slice_get places) index ∙ j.1) in
    sym e ∙ ap (λ (z : Place). z.spot.at) place ∙ d

-- ---- the parts of a function and of a program

entry_at : (f : TypedFunctionTree) (all : List ℕ) (a : Assigned) → Among a (map (λ (y : ℕ). assigns_object f.spot.at (object.Automatic y)) all) → a.at ≡ f.spot.at
entry_at f [] a h = elim h [ ]
entry_at f (y ∷ all) a front = refl
entry_at f (y ∷ all) a (behind h) = entry_at f all a h

body_within : (number : ℕ) (f : TypedFunctionTree) → Within (assigned_by_statements f.body) (places_of_all number (parameters_of f) f.body ++ close_of number f)
body_within number f a h = at_front a.at (places_of_all number (parameters_of f) f.body) (close_of number f) (statements_within number f.body (parameters_of f) a h)

entry_within : (number : ℕ) (f : TypedFunctionTree) → Within (assigned_by_entry f) (entry_of number f ∷ [])
entry_within number f a h = (entry_of number f, front, sym (entry_at f (numbers_from f.first_variable f.parameters) a h))

function_within : (number : ℕ) (f : TypedFunctionTree) → Within (assigned_by_function f) (places_of_function number f)
function_within number f =
    joined (assigned_by_entry f) (assigned_by_statements f.body) (entry_of number f ∷ []) (places_of_all number (parameters_of f) f.body ++ close_of number f) (entry_within number f) (body_within number f)

functions_within : (number : ℕ) (all : List TypedFunctionTree) → Within (assigned_by_functions all) (places_of_functions number all)
functions_within number [] = λ a h. elim h [ ]
functions_within number (f ∷ all) = joined (assigned_by_function f) (assigned_by_functions all) (places_of_function number f) (places_of_functions (number + 1) all) (function_within number f) (functions_within (number + 1) all)

-- places that ascend, in parts
all_front : (xs ys : List Place) → AllAscend (xs ++ ys) → AllAscend xs
all_front [] ys h = tt
all_front (q ∷ xs) ys h = ascend_front q.spot.at xs ys h

none_less : (last : ℕ) (places : List Place) → Ascend last places → AllAscend places
none_less last [] h = tt
none_less last (q ∷ places) h = h.1

all_back : (xs ys : List Place) → AllAscend (xs ++ ys) → AllAscend ys
all_back [] ys h = h
all_back (q ∷ xs) ys h = let r = ascend_back q.spot.at xs ys h in none_less r.0 ys r.1

apart_all : (xs ys : List Place) (at : ℕ) → AllAscend (xs ++ ys) → At at xs → At at ys → ⊥
apart_all [] ys at h k l = elim k.1 [ ]
apart_all (q ∷ xs) ys at h (r, front, e) l = let m = above q.spot.at (xs ++ ys) at h (at_back at xs ys l) in omega (arith, m, e)
apart_all (q ∷ xs) ys at h (r, behind a, e) l = apart q.spot.at xs ys at h (r, a, e) l

places_in : (number : ℕ) (all : List TypedFunctionTree) (k : ℕ) (f : TypedFunctionTree) → slice_get all k ≡ Some f → (at : ℕ) → At at (places_of_function (number + k) f) → At at (places_of_functions number all)
places_in number [] k f e at h = absurd (none_is e)
places_in number (d ∷ all) zero f e at h =
    let none : number + 0 ≡ number = omega arith in
    at_front at (places_of_function number d) (places_of_functions (number + 1) all) (subst (λ (z : TypedFunctionTree). At at (places_of_function number z)) (sym (some_same e)) (subst (λ m. At at (places_of_function m f)) none h))
places_in number (d ∷ all) (suc k) f e at h =
    let one : number + suc k ≡ number + 1 + k = omega arith in
    at_back at (places_of_function number d) (places_of_functions (number + 1) all) (places_in (number + 1) all k f e at (subst (λ m. At at (places_of_function m f)) one h))

-- what a program assigns at a position of a function the function assigns
in_function : (number : ℕ) (all : List TypedFunctionTree) (k : ℕ) (f : TypedFunctionTree) → slice_get all k ≡ Some f → AllAscend (places_of_functions number all) → (a : Assigned) → At a.at (places_of_function (number + k) f) → Among a (assigned_by_functions all) → Among a (assigned_by_function f)
in_function number [] k f e up a at h = absurd (none_is e)
in_function number (d ∷ all) zero f e up a at h = by (split_among a (assigned_by_function d) (assigned_by_functions all) h)
  where
    here : At a.at (places_of_function number d)
    here = let none : number + 0 ≡ number = omega arith in subst (λ (z : TypedFunctionTree). At a.at (places_of_function number z)) (sym (some_same e)) (subst (λ m. At a.at (places_of_function m f)) none at)

    by : Among a (assigned_by_function d) ⊎ Among a (assigned_by_functions all) → Among a (assigned_by_function f)
    by (inl m) = subst (λ (z : TypedFunctionTree). Among a (assigned_by_function z)) (some_same e) m
    by (inr m) = absurd (apart_all (places_of_function number d) (places_of_functions (number + 1) all) a.at up here (functions_within (number + 1) all a m))
in_function number (d ∷ all) (suc k) f e up a at h = by (split_among a (assigned_by_function d) (assigned_by_functions all) h) (in_function (number + 1) all k f e (all_back (places_of_function number d) (places_of_functions (number + 1) all) up) a)
  where
    there : At a.at (places_of_function (number + 1 + k) f)
    there = let one : number + suc k ≡ number + 1 + k = omega arith in subst (λ m. At a.at (places_of_function m f)) one at

    by : Among a (assigned_by_function d) ⊎ Among a (assigned_by_functions all) → (At a.at (places_of_function (number + 1 + k) f) → Among a (assigned_by_functions all) → Among a (assigned_by_function f)) → Among a (assigned_by_function f)
    by (inl m) again = absurd (apart_all (places_of_function number d) (places_of_functions (number + 1) all) a.at up (function_within number d a m) (places_in (number + 1) all k f e a.at there))
    by (inr m) again = again there m

-- ---- the scalar of a function's variable

module _ (p : ProgramTree) (u : UnitForm) (facts : ProgramFacts p) (only : HasOnly p u) (k : ℕ) (f : TypedFunctionTree) (is : slice_get p.functions k ≡ Some f) (is_main : Bool) (counted : length (graph_of p f is_main).blocks ≡ block_count p f is_main)
    (x v : ℕ) (few : x < (code p k f is is_main facts.ascend counted).scalars) (named : scalar_of (names_of p f (is_again p f)) v ≡ Some x) where
  abbrev c : Coding
  c = code p k f is is_main facts.ascend counted

  abbrev graph : Graph
  graph = graph_of p f is_main

  abbrev places : List Place
  places = places_of_program p

  -- a place assigns the variable
  abbrev A : ℕ → Bool
  A q = assigns u.assignments q (variable_of p v)

  outside : (w j : ℕ) → scalar_of c.names w ≡ Some j → is_in_memory (slice_get p.automatics w) ≡ true → ⊥
  outside w j e h = by (slice_get p.automatics w) refl h
    where
      by : (o : Option AutomaticTree) → slice_get p.automatics w ≡ o → is_in_memory o ≡ true → ⊥
      by None g h = cc
      by (Some a) g h = false_true (sym (named_outside p f (is_again p f) w j a e g) ∙ h)

  abbrev X : ℕ → Assigned
  X at = assigns_object at (object.Automatic v)

  -- where a place of the function assigns the variable, the function assigns it at its position
  owned : (at : ℕ) → At at (places_of_function (0 + k) f) → A (place_of c at) ≡ true → Among (X at) (assigned_by_function f)
  owned at there a =
      let r = assigned_one u.assignments (place_of c at) (variable_of p v) a in
      let b = unnumbered p places (assigned_by_program p) r.0 (only r.0 r.1) in
      let object_is : b.0.object ≡ object.Automatic v = automatic_is p b.0.object v (b.3 ∙ ap (λ m. Some m) r.3) in
      let at_is : b.0.at ≡ at = one_position places facts.ascend b.0.at at (functions_within 0 p.functions b.0 b.1) (places_in 0 p.functions k f is at there) (b.2 ∙ r.2) in
      let same : b.0 ≡ X at = ap (λ (o : designator.Object). record { at = b.0.at; object = o }) object_is ∙ ap (λ m. assigns_object m (object.Automatic v)) at_is in
      in_function 0 p.functions k f is facts.ascend (X at) there (subst (λ (d : Assigned). Among d (assigned_by_functions p.functions)) same b.1)

  abbrev own : List Place
  own = places_of_function (0 + k) f

  abbrev body_places : List Place
  body_places = places_of_all (0 + k) (parameters_of f) f.body

  abbrev close_places : List Place
  close_places = close_of (0 + k) f

  own_ascend : (number : ℕ) (all : List TypedFunctionTree) (j : ℕ) (d : TypedFunctionTree) → slice_get all j ≡ Some d → AllAscend (places_of_functions number all) → AllAscend (places_of_function (number + j) d)
  own_ascend number [] j d e up = absurd (none_is e)
  own_ascend number (h ∷ all) zero d e up =
      let none : number ≡ number + 0 = omega arith in
      subst (λ m. AllAscend (places_of_function m d)) none (subst (λ (z : TypedFunctionTree). AllAscend (places_of_function number z)) (some_same e) (all_front (places_of_function number h) (places_of_functions (number + 1) all) up))
  own_ascend number (h ∷ all) (suc j) d e up =
      let one : number + 1 + j ≡ number + suc j = omega arith in
      subst (λ m. AllAscend (places_of_function m d)) one (own_ascend (number + 1) all j d e (all_back (places_of_function number h) (places_of_functions (number + 1) all) up))

  ascend : Ascend f.spot.at (body_places ++ close_places)
  ascend = own_ascend 0 p.functions k f is facts.ascend

  abbrev HasN' : (q : ℕ) → Made → Type 0
  HasN' q m = HasN c graph.blocks x v named A p.automatics outside (0 + k) q m

  abbrev N' : Made → Type 0
  N' m = N c graph.blocks x v named A p.automatics outside (0 + k) m

  -- behind the entry
  behind_entry : (at : ℕ) → At at (body_places ++ close_places) → A (place_of c at) ≡ true → Among (X at) (assigned_by_statements f.body)
  behind_entry at there a = by (split_among (X at) (assigned_by_entry f) (assigned_by_statements f.body) (owned at (at_back at (entry_of (0 + k) f ∷ []) (body_places ++ close_places) there) a))
    where
      by : Among (X at) (assigned_by_entry f) ⊎ Among (X at) (assigned_by_statements f.body) → Among (X at) (assigned_by_statements f.body)
      by (inl m) = let low = above f.spot.at (body_places ++ close_places) at ascend there in let e = entry_at f (numbers_from f.first_variable f.parameters) (X at) m in absurd (omega (arith, low, e))
      by (inr m) = m

  body_owns : Owns c graph.blocks x v named A p.automatics outside (0 + k) (assigned_by_statements f.body) body_places
  body_owns at there a = behind_entry at (at_front at body_places close_places there) a

  close_none : (at : ℕ) → At at close_places → A (place_of c at) ≡ true → ⊥
  close_none at there a = apart f.spot.at body_places close_places at ascend (statements_within (0 + k) f.body (parameters_of f) (X at) (behind_entry at (at_back at body_places close_places there) a)) there

  at_entry : A (place_of c f.spot.at) ≡ true → Among (X f.spot.at) (assigned_by_entry f)
  at_entry a = by (split_among (X f.spot.at) (assigned_by_entry f) (assigned_by_statements f.body) (owned f.spot.at (entry_of (0 + k) f, front, refl) a))
    where
      by : Among (X f.spot.at) (assigned_by_entry f) ⊎ Among (X f.spot.at) (assigned_by_statements f.body) → Among (X f.spot.at) (assigned_by_entry f)
      by (inl m) = m
      by (inr m) = let low = above f.spot.at (body_places ++ close_places) f.spot.at ascend (body_within (0 + k) f (X f.spot.at) m) in absurd (omega (arith, low))

  parameter_is : (all : List ℕ) → Among (X f.spot.at) (map (λ (y : ℕ). assigns_object f.spot.at (object.Automatic y)) all) → Among v all
  parameter_is [] h = elim h [ ]
  parameter_is (w ∷ all) h = by (split_among (X f.spot.at) (assigns_object f.spot.at (object.Automatic w) ∷ []) (map (λ (y : ℕ). assigns_object f.spot.at (object.Automatic y)) all) h) (parameter_is all)
    where
      inside : (a : Assigned) → Among (X f.spot.at) (a ∷ []) → X f.spot.at ≡ a
      inside a front = refl
      inside a (behind m) = elim m [ ]

      same : X f.spot.at ≡ assigns_object f.spot.at (object.Automatic w) → v ≡ w
      same e = same_assigned f.spot.at v w e

      by : Among (X f.spot.at) (assigns_object f.spot.at (object.Automatic w) ∷ []) ⊎ Among (X f.spot.at) (map (λ (y : ℕ). assigns_object f.spot.at (object.Automatic y)) all) →
          (Among (X f.spot.at) (map (λ (y : ℕ). assigns_object f.spot.at (object.Automatic y)) all) → Among v all) → Among v (w ∷ all)
      by (inl m) again = subst (λ y. Among v (y ∷ all)) (same (inside (assigns_object f.spot.at (object.Automatic w)) m)) front
      by (inr m) again = behind (again m)

  noted_parameter : (all : List ℕ) (m : Made) → Among v all → N' (note_parameters c.names all m)
  noted_parameter [] m h = elim h [ ]
  noted_parameter (w ∷ all) m front = subst (λ o. N' (note_if c.names o (note_parameters c.names all m))) (sym named) (note_is c graph.blocks x v named A p.automatics outside (0 + k) (note_parameters c.names all m))
  noted_parameter (w ∷ all) m (behind h) = by (scalar_of c.names w) (noted_parameter all m h)
    where
      by : (o : Option ℕ) → N' (note_parameters c.names all m) → N' (note_if c.names o (note_parameters c.names all m))
      by None h = h
      by (Some y) h = step_on c graph.blocks x v named A p.automatics outside (0 + k) (Note y (unit.Is (unit.Of (unit.Name y)))) (note_parameters c.names all m) refl h

  abbrev empty : Part
  empty = record { placed = []; inner = [] }

  close_owes : (b : Bool) → ((at : ℕ) → At at (if b then Rattle.c_places.specs.Places.stop (0 + k) (parameters_of f ++ Rattle.c_places.specs.Places.brought_by_body f.body) f.close ∷ [] else []) → A (place_of c at) ≡ true → ⊥) →
      let part = add_close c is_main (if b then Some f.close.at else None) empty in AreMadeOf HasN' part.inner part.placed
  close_owes false h = tt
  close_owes true h =
      let m = ending (unit.Return (if is_main then Some (unit.Constant 0) else None)) [] in
      (record { place = place_of c f.close.at; made = m; no_place = refl; instructions = refl; ends = refl; grown = grows_none []; has = λ a. absurd (h f.close.at (Rattle.c_places.specs.Places.stop (0 + k) (parameters_of f ++ Rattle.c_places.specs.Places.brought_by_body f.body) f.close, front, refl) a) }, tt)

  owed_hold : AreMadeOf HasN' (whole p k f is is_main facts.ascend counted).inner (whole p k f is is_main facts.ascend counted).placed
  owed_hold =
      let own_facts = facts.functions k f is in
      let ways = ways_of_body f in
      let closing = add_close c is_main ways.next empty in
      let body = body_part c f is_main in
      let to = start_of_all f.body ways.next in
      let go = going c to body.inner in
      let first = note_parameters c.names (parameters_of f) go in
      let grows : Grows body.inner first.inner = subst (λ (l : List Block). Grows body.inner l) (sym (noted_inner c.names (parameters_of f) go)) (going_grows c to body.inner) in
      let closes : AreMadeOf HasN' closing.inner closing.placed = close_owes (Rattle.c_places.specs.Flow.reaches_end f.body) close_none in
      let fits = statements_fit p f c.names facts.arrays (λ w j a e g. named_outside p f (is_again p f) w j a e g) false false None f.body own_facts.typed in
      let rest : AreMadeOf HasN' body.inner body.placed =
      (statements_owe c graph.blocks x v named A p.automatics outside (0 + k) f.body (parameters_of f) f.spot.at c.scalars ways closing [] fits own_facts.kept (ascend_front f.spot.at body_places close_places ascend) body_owns).1 closes in
      (record { place = place_of c f.spot.at; made = first; no_place = refl; instructions = refl; ends = refl; grown = grows_none first.inner; has = λ a. noted_parameter (parameters_of f) go (parameter_is (parameters_of f) (at_entry a)) }, made_more HasN' body.inner first.inner grows body.placed rest)

  -- ---- along paths

  abbrev Behind : (q : ℕ) → List Instruction → End → Type 0
  Behind q rest e = A q ≡ true → Notes graph.blocks x rest e

  abbrev Inv : History → List Instruction → End → Type 0
  Inv h rest e = owed A x h ≡ true → (unnoted x h ≡ true) ⊎ Notes graph.blocks x rest e

  owed_step : (i : Instruction) (b : Bool) → is_marker i ≡ false → owed_by A x i b ≡ due.waiting x i b
  owed_step (Marker q) b h = cc
  owed_step (Note y w) b h = refl
  owed_step (Move y a) b h = refl
  owed_step (Operate y o a d) b h = refl
  owed_step (Truncate y t a) b h = refl
  owed_step (Same y a d) b h = refl
  owed_step (Address y o) b h = refl
  owed_step (Load y e l) b h = refl
  owed_step (Store e l a) b h = refl
  owed_step (Zero o j) b h = refl
  owed_step (CopyWords o d j) b h = refl
  owed_step (Call y t all) b h = refl

  -- what is owed behind an instruction
  waiting_is : (i : Instruction) (b : Bool) → due.waiting x i b ≡ true → (notes x i ≡ false) × ((writes x i ≡ true) ⊎ (b ≡ true))
  waiting_is i b h = by (notes x i) refl h
    where
      by : (n : Bool) → notes x i ≡ n → (if n then false else writes x i || b) ≡ true → (notes x i ≡ false) × ((writes x i ≡ true) ⊎ (b ≡ true))
      by true e h = absurd (false_true h)
      by false e h = (e, or_cases (writes x i) b h)

  waits_by : (i : Instruction) (b : Bool) → notes x i ≡ false → (writes x i ≡ true) ⊎ (b ≡ true) → due.waiting x i b ≡ true
  waits_by i b off (inl w) = ap (λ n. if n then false else writes x i || b) off ∙ ap (λ n. n || b) w
  waits_by i b off (inr w) = ap (λ n. if n then false else writes x i || b) off ∙ or_right (writes x i) b w
    where
      or_right : (a d : Bool) → d ≡ true → a || d ≡ true
      or_right true d e = refl
      or_right false d e = e

  notes_on : (i : Instruction) (rest : List Instruction) (e : End) → notes x i ≡ false → Notes graph.blocks x (i ∷ rest) e → Notes graph.blocks x rest e
  notes_on (Note y w) rest e off now = absurd (false_true (sym off ∙ same_is))
    where
      same_is : (x == x) ≡ true
      same_is = grind (arith, nat_tests)
  notes_on i rest e off (later m k) = k

  notes_over : (e : End) (l : ℕ) (b : Block) → Among l (targets_of e) → slice_get graph.blocks l ≡ Some b → Notes graph.blocks x [] e → Notes graph.blocks x b.instructions b.end
  notes_over e l b a at (over k) = k l a b at

  step_owed : (h : History) (i : Instruction) (rest : List Instruction) (e : End) → Inv h (i ∷ rest) e → (notes x i ≡ false) × ((writes x i ≡ true) ⊎ (owed A x h ≡ true)) → (due.waiting x i (unnoted x h) ≡ true) ⊎ Notes graph.blocks x rest e
  step_owed h i rest e inv (off, inl w) = inl (waits_by i (unnoted x h) off (inl w))
  step_owed h i rest e inv (off, inr o) = by (inv o)
    where
      by : (unnoted x h ≡ true) ⊎ Notes graph.blocks x (i ∷ rest) e → (due.waiting x i (unnoted x h) ≡ true) ⊎ Notes graph.blocks x rest e
      by (inl w) = inl (waits_by i (unnoted x h) off (inr w))
      by (inr k) = inr (notes_on i rest e off k)

  over_owed : (h : History) (e : End) (l : ℕ) (b : Block) → Among l (targets_of e) → slice_get graph.blocks l ≡ Some b → (unnoted x h ≡ true) ⊎ Notes graph.blocks x [] e → (unnoted x h ≡ true) ⊎ Notes graph.blocks x b.instructions b.end
  over_owed h e l b a at (inl w) = inl w
  over_owed h e l b a at (inr k) = inr (notes_over e l b a at k)

  owed_kept : IsKept graph Behind Inv
  owed_kept = record {
    begins = λ b e o. absurd (false_true o);
    mark = λ h n w q rest e has inv o. inr (has o);
    step = λ h n w i rest e off inv o. step_owed h i rest e inv (waiting_is i (owed A x h) (sym (owed_step i (owed A x h) off) ∙ o));
    over = λ h e l b a at inv o. over_owed h e l b a at (inv o);
  }

  -- At each marker nothing is owed.
  pub nothing_owed : (h : History) (n q : ℕ) (rest : List Instruction) (e : End) → Path graph h n (Marker q ∷ rest) e → owed A x h ≡ false
  nothing_owed h n q rest e way = by (owed A x h) refl
    where
      inv : Inv h (Marker q ∷ rest) e
      inv = walked graph Behind (of_blocks p k f is is_main facts.ascend counted HasN' Behind (λ r m st has a. has a st) owed_hold) Inv owed_kept h n (Marker q ∷ rest) e way

      clash : (unnoted x h ≡ true) ⊎ Notes graph.blocks x (Marker q ∷ rest) e → ⊥
      clash (inl w) = false_true (sym (marker_noted p k f is is_main facts.ascend counted x few h n q rest e way) ∙ w)
      clash (inr (later m j)) = absurd (false_true (sym m))

      by : (b : Bool) → owed A x h ≡ b → owed A x h ≡ false
      by true o = absurd (clash (inv o))
      by false o = o
