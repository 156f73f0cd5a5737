-- What a well-formed program tells of its functions, its variables and its objects.
use Rattle.std.proofs.Common.{◌≡◌, ℕ, zero, suc, ◌+◌, ◌≤◌, ◌<◌, Bool, true, false, Option, Some, None, List, [], ◌∷◌, length, map, slice_get, refl, subst, arith, if◌then◌else◌}
use Rattle.std.specs.Prelude.{◌&&◌, ◌==◌, nat_le, nat_lt, is_none}
use Rattle.debug_records.specs.declared.code.Code.{Code}
use Rattle.debug_records.specs.declared.code.TheConstants.Code.{PROGRAM_WEIGHT, STATIC_OBJECTS, VISIBLE_PAIRS}
use Rattle.c_tree.specs.Programs.{AutomaticTree, TypedFunctionTree, ProgramTree}
use Rattle.c_places.specs.Memory.{kept_by_all}
use Rattle.c_places.specs.Places.{Place, places_of_program}
use Rattle.c_type_bounds.specs.Bounds.{memory_room, objects_room, program_breach, variables_of}
use Rattle.c_type_bounds.specs.Visible.{visible_pairs}
use Rattle.c_type_laws.specs.Statements.{are_statements}
use Rattle.c_type_laws.specs.Orders.{ascends, ascends_behind, is_numbered, never_falls}
use Rattle.c_type_laws.specs.Declarations.{declared_in_all}
use Rattle.c_type_laws.specs.Parameters.{parameters_single}
use Rattle.c_type_laws.specs.Plain.{are_plain}
use Rattle.c_type_laws.specs.Statics.{literals_sound, statics_sound}
use Rattle.c_type_laws.specs.Objects.{is_kept_array, arrays_are_kept, are_ended, are_static}
use Rattle.c_type_laws.specs.Laws.{IsWellFormed, objects_ascend, follow, is_main, are_objects, are_functions, is_function, declares_its_own, are_in_memory, keeps_limits, is_within, is_sound, weight_of, places_ascend}
use Rattle.c_type_laws.specs.Weighing.{weighed_statements}
use Rattle.graph_build_laws.proofs.WellFormed.{and_both}
use Rattle.graph_build_laws.proofs.Ascending.{Ascend, AllAscend}
use Rattle.base_laws.proofs.Numbers.{are_equal, at_most, is_less, not_less}
use Rattle.base_laws.proofs.Options.{some_same}

-- What is known of a function.
pub record FunctionFacts (p : ProgramTree) (f : TypedFunctionTree) : Type 0 where
  pub typed : are_statements p f false false None f.body ≡ true
  pub numbered : is_numbered (f.first_variable + f.parameters) (declared_in_all f.body []) ≡ true
  pub declared : length (declared_in_all f.body []) + f.parameters ≡ f.variables
  pub kept : are_in_memory p.automatics (kept_by_all f.body []) ≡ true
  pub room : memory_room (variables_of f p.automatics) ≤ 4096
  pub plain : are_plain f.body ≡ true

function_facts : (p : ProgramTree) (f : TypedFunctionTree) → is_function p f ≡ true → FunctionFacts p f
function_facts p f h =
    let whole = and_both (are_statements p f false false None f.body && declares_its_own f && are_in_memory p.automatics (kept_by_all f.body []) && keeps_limits p.automatics f) (are_plain f.body) h in
    let a = and_both (are_statements p f false false None f.body && declares_its_own f && are_in_memory p.automatics (kept_by_all f.body [])) (keeps_limits p.automatics f) whole.0 in
    let b = and_both (are_statements p f false false None f.body && declares_its_own f) (are_in_memory p.automatics (kept_by_all f.body [])) a.0 in
    let c = and_both (are_statements p f false false None f.body) (declares_its_own f) b.0 in
    let own = and_both (is_numbered (f.first_variable + f.parameters) (declared_in_all f.body [])) (length (declared_in_all f.body []) + f.parameters == f.variables) c.1 in
    let x = and_both (nat_le (2 + f.parameters + weighed_statements f.body) f.weight && nat_le f.weight 3000 && nat_le f.parameters 8) (nat_le (memory_room (variables_of f p.automatics)) 4096) a.1 in record {
      typed = c.0;
      numbered = own.0;
      declared = are_equal (length (declared_in_all f.body []) + f.parameters) f.variables own.1;
      kept = b.1;
      room = at_most (memory_room (variables_of f p.automatics)) 4096 x.1;
      plain = whole.1;
    }

functions_facts : (p : ProgramTree) (all : List TypedFunctionTree) → are_functions p all ≡ true → (k : ℕ) (f : TypedFunctionTree) → slice_get all k ≡ Some f → FunctionFacts p f
functions_facts p [] h k f e = cc
functions_facts p (g ∷ all) h zero f e = subst (FunctionFacts p) (some_same e) (function_facts p g (and_both (is_function p g) (are_functions p all) h).0)
functions_facts p (g ∷ all) h (suc k) f e = functions_facts p all (and_both (is_function p g) (are_functions p all) h).1 k f e

-- functions' variables follow one another, each function's before the last variable
follow_ends : (next count : ℕ) (all : List TypedFunctionTree) → follow next count all ≡ true → next ≤ count
follow_ends next count [] h = omega (arith, are_equal next count h)
follow_ends next count (f ∷ more) h = omega (arith, follow_ends (next + f.variables) count more (and_both (f.first_variable == next) (follow (next + f.variables) count more) h).1)

follow_within : (next count : ℕ) (all : List TypedFunctionTree) → follow next count all ≡ true → (k : ℕ) (f : TypedFunctionTree) → slice_get all k ≡ Some f → f.first_variable + f.variables ≤ count
follow_within next count [] h k f e = cc
follow_within next count (g ∷ more) h zero f e =
    let b = and_both (g.first_variable == next) (follow (next + g.variables) count more) h in
    subst (λ z. z.first_variable + z.variables ≤ count) (some_same e) (omega (arith, are_equal g.first_variable next b.0, follow_ends (next + g.variables) count more b.1))
follow_within next count (g ∷ more) h (suc k) f e = follow_within (next + g.variables) count more (and_both (g.first_variable == next) (follow (next + g.variables) count more) h).1 k f e

-- A variable is one of a function's.
pub record OfSome (all : List TypedFunctionTree) (x : ℕ) : Type 0 where
  pub number : ℕ
  pub function : TypedFunctionTree
  pub is : slice_get all number ≡ Some function
  pub from : function.first_variable ≤ x
  pub below : x < function.first_variable + function.variables

follow_owner : (next count : ℕ) (all : List TypedFunctionTree) → follow next count all ≡ true → (x : ℕ) → next ≤ x → x < count → OfSome all x
follow_owner next count [] h x le lt = absurd (omega (arith, are_equal next count h, le, lt))
follow_owner next count (g ∷ more) h x le lt =
    let b = and_both (g.first_variable == next) (follow (next + g.variables) count more) h in
    by (are_equal g.first_variable next b.0) (nat_lt x (next + g.variables)) refl (λ ge. follow_owner (next + g.variables) count more b.1 x ge lt)
  where
    by : g.first_variable ≡ next → (c : Bool) → nat_lt x (next + g.variables) ≡ c → (next + g.variables ≤ x → OfSome more x) → OfSome (g ∷ more) x
    by first true e later = record { number = 0; function = g; is = refl; from = omega (arith, first, le); below = omega (arith, first, is_less x (next + g.variables) e) }
    by first false e later = let r = later (not_less x (next + g.variables) e) in record { number = suc r.number; function = r.function; is = r.is; from = r.from; below = r.below }

-- an array is in memory, and has elements
arrays_at : (all : List AutomaticTree) → arrays_are_kept all ≡ true → (x : ℕ) (a : AutomaticTree) → slice_get all x ≡ Some a → is_kept_array a.in_memory a.of ≡ true
arrays_at [] h x a e = cc
arrays_at (c ∷ all) h zero a e = subst (λ z. is_kept_array z.in_memory z.of ≡ true) (some_same e) (and_both (is_kept_array c.in_memory c.of) (arrays_are_kept all) h).0
arrays_at (c ∷ all) h (suc x) a e = arrays_at all (and_both (is_kept_array c.in_memory c.of) (arrays_are_kept all) h).1 x a e

abbrev spots : List Place → List ℕ
spots all = map (λ (q : Place). q.spot.at) all

ascend_behind : (last : ℕ) (all : List Place) → ascends_behind last (spots all) ≡ true → Ascend last all
ascend_behind last [] h = tt
ascend_behind last (q ∷ all) h = let b = and_both (nat_lt last q.spot.at) (ascends_behind q.spot.at (spots all)) h in (is_less last q.spot.at b.0, ascend_behind q.spot.at all b.1)

all_ascend : (all : List Place) → ascends (spots all) ≡ true → AllAscend all
all_ascend [] h = tt
all_ascend (q ∷ all) h = ascend_behind q.spot.at all h

-- What is known of a program.
pub record ProgramFacts (p : ProgramTree) : Type 0 where
  pub functions : (k : ℕ) (f : TypedFunctionTree) → slice_get p.functions k ≡ Some f → FunctionFacts p f
  pub within : (k : ℕ) (f : TypedFunctionTree) → slice_get p.functions k ≡ Some f → f.first_variable + f.variables ≤ length p.automatics
  pub owned : (x : ℕ) → x < length p.automatics → OfSome p.functions x
  pub main : is_main (slice_get p.functions p.main) ≡ true
  pub arrays : (x : ℕ) (a : AutomaticTree) → slice_get p.automatics x ≡ Some a → is_kept_array a.in_memory a.of ≡ true
  pub statics : are_static p p.statics ≡ true
  pub singles : parameters_single p.automatics p.functions ≡ true
  pub sound : is_sound p ≡ true
  pub room : objects_room p ≤ 1048576
  pub ascend : AllAscend (places_of_program p)

if_none : (b : Bool) (code : Code) (rest : Option Code) → is_none (if b then Some code else rest) ≡ true → (b ≡ false) × (is_none rest ≡ true)
if_none true code rest h = cc
if_none false code rest h = (refl, h)

program_room : (p : ProgramTree) → is_none (program_breach p) ≡ true → objects_room p ≤ 1048576
program_room p h =
    let visible = if nat_lt 1000000 (visible_pairs p) then Some VISIBLE_PAIRS else None in
    let rest = if nat_lt 1048576 (objects_room p) then Some STATIC_OBJECTS else visible in
    not_less 1048576 (objects_room p) (if_none (nat_lt 1048576 (objects_room p)) STATIC_OBJECTS visible (if_none (nat_lt 40000 p.weight) PROGRAM_WEIGHT rest h).1).0

pub facts_of : (p : ProgramTree) → IsWellFormed p → ProgramFacts p
facts_of p h =
    let follows = follow 0 (length p.automatics) p.functions in
    let main = is_main (slice_get p.functions p.main) in
    let singles = parameters_single p.automatics p.functions in
    let last = and_both (objects_ascend p && follows && main && are_objects p && are_functions p p.functions && is_within p && places_ascend (places_of_program p) && singles) (is_sound p) h in
    let front = and_both (objects_ascend p && follows && main && are_objects p && are_functions p p.functions && is_within p && places_ascend (places_of_program p)) singles last.0 in
    let a = and_both (objects_ascend p && follows && main && are_objects p && are_functions p p.functions && is_within p) (places_ascend (places_of_program p)) front.0 in
    let b = and_both (objects_ascend p && follows && main && are_objects p && are_functions p p.functions) (is_within p) a.0 in
    let c = and_both (objects_ascend p && follows && main && are_objects p) (are_functions p p.functions) b.0 in
    let d = and_both (objects_ascend p && follows && main) (are_objects p) c.0 in
    let e = and_both (objects_ascend p && follows) main d.0 in
    let g = and_both (objects_ascend p) follows e.0 in
    let o = and_both (arrays_are_kept p.automatics && are_static p p.statics && are_ended p.literals) (are_ended p.array_literals) d.1 in
    let q = and_both (arrays_are_kept p.automatics && are_static p p.statics) (are_ended p.literals) o.0 in
    let r = and_both (arrays_are_kept p.automatics) (are_static p p.statics) q.0 in
    let w = and_both (nat_le (length p.functions) 256 && nat_le (weight_of p.functions) p.weight) (is_none (program_breach p)) b.1 in record {
      functions = functions_facts p p.functions c.1;
      within = follow_within 0 (length p.automatics) p.functions g.1;
      owned = λ x lt. follow_owner 0 (length p.automatics) p.functions g.1 x (omega arith) lt;
      main = e.1;
      arrays = arrays_at p.automatics r.0;
      statics = r.1;
      singles = front.1;
      sound = last.1;
      room = program_room p w.1;
      ascend = all_ascend (places_of_program p) (and_both (ascends (spots (places_of_program p))) (never_falls 1 (map (λ (q : Place). q.spot.line) (places_of_program p))) a.1).0;
    }
