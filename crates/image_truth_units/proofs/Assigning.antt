-- What the places of a function assign, its unit's graph may write there.
use Rattle.std.proofs.Common.{◌≡◌, ℕ, zero, suc, ◌+◌, ◌≤◌, ◌<◌, Bool, true, Option, Some, None, List, [], ◌∷◌, ◌++◌, length, map, slice_get, refl, sym, ap, ◌∙◌, subst, arith, if◌then◌else◌, ◌==◌}
use Rattle.std.specs.Prelude.{◌||◌, ◌&&◌, nat_lt, option_map}
use Rattle.std.proofs.lemmas.Bool.Decides.{nat_tests}
use Rattle.places.specs.declared.flow.Assignment.{Assignment}
use Rattle.places.specs.Flow.{assigns}
use Rattle.c_tree.specs.declared.object_type.Object.TheVariants as object
use Rattle.c_tree.specs.Programs.{TypedFunctionTree, ProgramTree}
use Rattle.c_places.specs.Places.{Place, numbers_from, parameters_of, places_of_program, place_number_at}
use Rattle.c_flow.specs.declared.assigned.Assigned.{Assigned}
use Rattle.c_flow.specs.Assigns.{assigns_object, assigned_by_entry, assigned_by_statements, assigned_by_function, assigned_by_functions, assigned_by_program, among, variable_number, numbered_for, numbered_assigned, assignments_of_program}
use Rattle.graph_core.specs.Graphs.{Scalar, Graph, UnitForm}
use Rattle.graph_core.specs.Paths.{Among, front, behind}
use Rattle.graph_core.specs.WellMarked.{IsVariable}
use Rattle.graph_build_names.specs.Names.{Names, names_of, scalar_of}
use Rattle.graph_build_statements.specs.Coding.{Coding, place_of}
use Rattle.graph_build.specs.Units.{add_if_some, scalars_among, variables_in, variable_of, scalar_record, is_again, function_coding, graph_of}
use Rattle.graph_build_laws.proofs.Homes.{one_name}
use Rattle.graph_build_laws.proofs.GraphProgramScalars.{scalar_at, mapped_at}
use Rattle.image_truth_units.proofs.UnitFactsAssigned.{among_front, among_back}
use Rattle.base_laws.proofs.Booleans.{or_right}
use Rattle.base_laws.proofs.Numbers.{same_step as same_two}
use Rattle.base_laws.proofs.Options.{none_is, some_same}

-- an assignment among these is one that there is
pub assigned_true : (all : List Assignment) (a : Assignment) → Among a all → assigns all a.place.0 a.var.0 ≡ true
assigned_true [] a h = elim h [ ]
assigned_true (b ∷ all) a front = ap (λ c. c || assigns all a.place.0 a.var.0) (same_two a.place.0 a.var.0)
assigned_true (b ∷ all) a (behind h) = or_right ((b.place.0 == a.place.0) && (b.var.0 == a.var.0)) (assigns all a.place.0 a.var.0) (assigned_true all a h)

-- what a function assigns its program does
in_program : (all : List TypedFunctionTree) (k : ℕ) (f : TypedFunctionTree) → slice_get all k ≡ Some f → (a : Assigned) → Among a (assigned_by_function f) → Among a (assigned_by_functions all)
in_program [] k f at a h = absurd (none_is at)
in_program (g ∷ all) zero f at a h = among_front a (assigned_by_function g) (assigned_by_functions all) (subst (λ (z : TypedFunctionTree). Among a (assigned_by_function z)) (sym (some_same at)) h)
in_program (g ∷ all) (suc k) f at a h = among_back a (assigned_by_function g) (assigned_by_functions all) (in_program all k f at a h)

numbered_is : (p : ProgramTree) (places : List Place) (all : List Assigned) (a : Assigned) (x : ℕ) → Among a all → variable_number p a.object ≡ Some x → Among (record { place = record { 0 = place_number_at places a.at }; var = record { 0 = x } }) (numbered_assigned p places all)
numbered_is p places [] a x h e = elim h [ ]
numbered_is p places (b ∷ all) a x front e =
    subst (λ o. Among (record { place = record { 0 = place_number_at places a.at }; var = record { 0 = x } }) (numbered_for (place_number_at places a.at) o ++ numbered_assigned p places all)) (sym e) front
numbered_is p places (b ∷ all) a x (behind h) e =
    among_back (record { place = record { 0 = place_number_at places a.at }; var = record { 0 = x } }) (numbered_for (place_number_at places b.at) (variable_number p b.object)) (numbered_assigned p places all) (numbered_is p places all a x h e)

-- a variable among the scalars is one of these
among_below : (n : Names) (base count j x : ℕ) → slice_get (scalars_among n (numbers_from base count)) j ≡ Some x → x < base + count
among_below n base zero j x e = absurd (none_is e)
among_below n base (suc count) j x e = by (scalar_of n base) j e (λ i h. among_below n (base + 1) count i x h)
  where
    later : x < base + 1 + count → x < base + suc count
    later h = omega (arith, h)

    first : Some base ≡ Some x → x < base + suc count
    first h = omega (arith, some_same h)

    by : (o : Option ℕ) (i : ℕ) → slice_get (add_if_some o base (scalars_among n (numbers_from (base + 1) count))) i ≡ Some x → ((i : ℕ) → slice_get (scalars_among n (numbers_from (base + 1) count)) i ≡ Some x → x < base + 1 + count) → x < base + suc count
    by None i h again = later (again i h)
    by (Some y) zero h again = first h
    by (Some y) (suc i) h again = later (again i h)

-- A unit has each assignment of a program.
abbrev pub HasAssignments : ProgramTree → UnitForm → Type 0
HasAssignments p u = (a : Assignment) → Among a (assignments_of_program p) → Among a u.assignments

module _ (p : ProgramTree) (u : UnitForm) (has : HasAssignments p u) (k : ℕ) (f : TypedFunctionTree) (is : slice_get p.functions k ≡ Some f) (within : f.first_variable + f.variables ≤ length p.automatics) (is_main : Bool) where
  abbrev pub code : Coding
  code = function_coding p f is_main

  abbrev pub g : Graph
  g = graph_of p f is_main

  abbrev pub n : Names
  n = names_of p f (is_again p f)

  -- a place assigns the variable of a scalar
  abbrev pub May : (q y : ℕ) → Type 0
  May q y = (variable : ℕ) → IsVariable g y variable → assigns u.assignments q variable ≡ true

  -- the variable of a scalar
  pub record OfScalar (y variable : ℕ) : Type 0 where
    pub own : ℕ
    pub named : scalar_of n own ≡ Some y
    pub number : variable_of p own ≡ variable
    pub below : own < length p.automatics

  got_scalar : (o : Option Scalar) (variable : ℕ) → option_map (λ (s : Scalar). s.variable) o ≡ Some variable → (s : Scalar) × (o ≡ Some s) × (s.variable ≡ variable)
  got_scalar None variable e = absurd (none_is e)
  got_scalar (Some s) variable e = (s, refl, some_same e)

  pub of_scalar : (y variable : ℕ) → IsVariable g y variable → OfScalar y variable
  of_scalar y variable e =
      let scalars = scalars_among n (variables_in f) in
      let s = got_scalar (slice_get g.scalars y) variable e in
      let m = mapped_at (scalar_record p f code.entry scalars) scalars y s.0 s.1 in
      record {
        own = m.0;
        named = scalar_at p f (is_again p f) y m.0 m.1;
        number = ap (λ (z : Scalar). z.variable) m.2 ∙ s.2;
        below = omega (arith, among_below n f.first_variable f.variables y m.0 m.1, within);
      }

  is_less : (a b : ℕ) → a < b → nat_lt a b ≡ true
  is_less a b h = grind (arith, nat_tests, h)

  automatic_number : (v : ℕ) → v < length p.automatics → variable_number p (object.Automatic v) ≡ Some (variable_of p v)
  automatic_number v lt = ap (λ b. if b then Some (length p.statics + length p.literals + v) else None) (is_less v (length p.automatics) lt)

  -- What a function's places assign they may write.
  pub may_be : (a : Assigned) → Among a (assigned_by_function f) → (v y : ℕ) → a.object ≡ object.Automatic v → scalar_of n v ≡ Some y → May (place_of code a.at) y
  may_be a among v y is_object named variable e =
      let s = of_scalar y variable e in
      let same : v ≡ s.own = one_name p f (is_again p f) v s.own y named s.named in
      let lt : v < length p.automatics = subst (λ w. w < length p.automatics) (sym same) s.below in
      let number : variable_number p a.object ≡ Some (variable_of p v) = ap (variable_number p) is_object ∙ automatic_number v lt in
      let it : Assignment = record { place = record { 0 = place_number_at (places_of_program p) a.at }; var = record { 0 = variable_of p v } } in
      let there : Among it u.assignments = has it (numbered_is p (places_of_program p) (assigned_by_program p) a (variable_of p v) (in_program p.functions k f is a among) number) in
      subst (λ w. assigns u.assignments (place_of code a.at) w ≡ true) (ap (variable_of p) same ∙ s.number) (assigned_true u.assignments it there)

  -- so are statements
  pub may_statements : (a : Assigned) → Among a (assigned_by_statements f.body) → (v y : ℕ) → a.object ≡ object.Automatic v → scalar_of n v ≡ Some y → May (place_of code a.at) y
  may_statements a among v y is_object named = may_be a (among_back a (assigned_by_entry f) (assigned_by_statements f.body) among) v y is_object named

  mapped_among : (all : List ℕ) (v : ℕ) → Among v all → Among (assigns_object f.spot.at (object.Automatic v)) (map (λ (x : ℕ). assigns_object f.spot.at (object.Automatic x)) all)
  mapped_among [] v h = elim h [ ]
  mapped_among (w ∷ all) v front = front
  mapped_among (w ∷ all) v (behind h) = behind (mapped_among all v h)

  -- and the entry's parameters
  pub may_entry : (v y : ℕ) → Among v (parameters_of f) → scalar_of n v ≡ Some y → May code.entry y
  may_entry v y a named = may_be (assigns_object f.spot.at (object.Automatic v)) (among_front (assigns_object f.spot.at (object.Automatic v)) (assigned_by_entry f) (assigned_by_statements f.body) (mapped_among (parameters_of f) v a)) v y refl named
