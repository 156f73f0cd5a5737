-- The places and variables of a well formed program fit in numbers of 32 bits: a program has no more of them than it weighs, and its static objects take room.
use Rattle.std.proofs.Common.{◌≡◌, ◌≤◌, ◌<◌, ℕ, suc, ◌+◌, ◌*◌, ◌/◌, ◌^◌, List, [], ◌∷◌, ◌++◌, length, nat_le, nat_lt, Bool, true, false, ◌&&◌, Option, Some, None, refl, ap, arith, length-append}
use Rattle.std.specs.Prelude.{◌==◌, if◌then◌else◌, is_none, All, slice_get}
use Rattle.std.proofs.lemmas.Bool.{eqb-true}
use Rattle.std.proofs.lemmas.List.{length-map}
use Rattle.std.proofs.lemmas.List.Elements.{All-nil, All-cons}
use Rattle.std.proofs.lemmas.List.Sums.{sum_by-cons}
use Rattle.debug_records.specs.declared.source.Spot.{Spot}
use Rattle.debug_records.specs.declared.code.Code.{Code}
use Rattle.debug_records.specs.declared.code.TheConstants.Code.{PROGRAM_WEIGHT, STATIC_OBJECTS, VISIBLE_PAIRS}
use Rattle.c_tree.specs.TypedExpressions.{RvalueTree, LvalueTree, Constant, Null, Load, Decay, AddressOf, Convert, Discard, Signed, Not, Arithmetic, Compare, ComparePointers, Move, MoveFrom, Difference, And, Or, Conditional, Comma, Assign, Update, UpdatePointer, Step, StepPointer, Call, Named, Target, Element, ElementFrom}
use Rattle.c_tree.specs.TypedStatements.{DeclaredTree, TypedStartTree, Nothing, Value, Declares, StepTree, TypedStatementTree, Block, Declaration, Empty, Run, If, IfElse, While, DoWhile, For, Switch, Break, Continue, Return, TypedStatementTrees, none, first, case, default}
use Rattle.c_tree.specs.Programs.{StaticTree, LiteralTree, TypedFunctionTree, ProgramTree}
use Rattle.c_places.specs.Flow.{reaches_end}
use Rattle.c_places.specs.Memory.{kept_by_all}
use Rattle.c_places.specs.Places.{Place, places_of_program}
use Rattle.c_type_rules.specs.Integers.{room, object_size}
use Rattle.c_type_bounds.specs.Visible.{visible_pairs}
use Rattle.c_type_bounds.specs.Bounds.{memory_room, variables_of, own_room, static_room, text_room, literal_room, objects_room, program_breach}
use Rattle.c_type_laws.specs.Statements.{are_statements}
use Rattle.c_type_laws.specs.Nodes.{nodes, place_nodes, declared_nodes, start_nodes, step_nodes, statement_nodes, statements_nodes}
use Rattle.c_type_laws.specs.Weighing.{weighed_statements}
use Rattle.c_type_laws.proofs.Weighing.{statements_weighed}
use Rattle.c_type_laws.specs.Orders.{is_numbered}
use Rattle.c_type_laws.specs.Declarations.{declared_by, declared_by_start, declared_in, declared_in_all}
use Rattle.c_type_laws.specs.Parameters.{parameters_single}
use Rattle.c_type_laws.specs.Plain.{are_plain}
use Rattle.c_type_laws.specs.Laws.{places_ascend, objects_ascend, are_in_memory, declares_its_own, keeps_limits, is_function, are_functions, follow, is_main, weight_of, is_within, are_objects, is_sound, IsWellFormed}
use Rattle.c_flow.specs.Tables.{Fits32}
use Rattle.c_source.proofs.Same.{two_true}
use Rattle.c_source.proofs.Stops.{stops_of_declarators, stops_of_start, stops_of_head, stops_of_step, stops_of, stops_of_all, stops_of_close, stops_of_function, stops_of_functions, program_there}
use Rattle.base_laws.proofs.Numbers.{at_most as le_is, not_less as not_more}

-- an expression has a node
mutual
  nodes_some : (e : RvalueTree) → 1 ≤ nodes e
  nodes_some (Constant z t) = omega arith
  nodes_some Null = omega arith
  nodes_some (Load s l) = place_some l
  nodes_some (Decay l) = place_some l
  nodes_some (AddressOf l) = omega arith
  nodes_some (Convert t e) = nodes_some e
  nodes_some (Discard e) = omega arith
  nodes_some (Signed o t e) = omega arith
  nodes_some (Not e) = omega arith
  nodes_some (Arithmetic o t a b) = omega arith
  nodes_some (Compare o t a b) = omega arith
  nodes_some (ComparePointers o a b) = omega arith
  nodes_some (Move d of a b) = omega arith
  nodes_some (MoveFrom b of a) = omega arith
  nodes_some (Difference of a b) = omega arith
  nodes_some (And a b) = omega arith
  nodes_some (Or a b) = omega arith
  nodes_some (Conditional c a b) = omega arith
  nodes_some (Comma a b) = omega arith
  nodes_some (Assign s l e) = omega arith
  nodes_some (Update o t u l e) = omega arith
  nodes_some (UpdatePointer d of l e) = omega arith
  nodes_some (Step d g t u l) = omega arith
  nodes_some (StepPointer d g of l) = omega arith
  nodes_some (Call c all) = omega arith

  place_some : (l : LvalueTree) → 1 ≤ place_nodes l
  place_some (Named o of) = omega arith
  place_some (Target of p) = omega arith
  place_some (Element of p i) = omega arith
  place_some (ElementFrom of i p) = omega arith

-- A statement has no more places than nodes.
declarators_few : (all : List DeclaredTree) → length (stops_of_declarators all) ≤ declared_nodes all
declarators_few [] = omega arith
declarators_few (d ∷ all) = let h = declarators_few all in omega (arith, h)

start_few : (s : TypedStartTree) → length (stops_of_start s) ≤ start_nodes s
start_few Nothing = omega arith
start_few (Value spot e) = nodes_some e
start_few (Declares all) = declarators_few all

head_one : (before : List Spot) (spot : Spot) (c : Option RvalueTree) → length (stops_of_head before spot c) ≡ length before + 1
head_one before spot None = omega arith
head_one before spot (Some c) = length-append before (spot ∷ [])

step_few : (s : Option StepTree) → length (stops_of_step s) ≤ step_nodes s
step_few None = omega arith
step_few (Some s) = nodes_some s.value

mutual
  one_few : (s : TypedStatementTree) → length (stops_of s) ≤ statement_nodes s
  one_few (Block all) = let h = all_few all in omega (arith, h)
  one_few (Declaration all) = declarators_few all
  one_few (Empty spot) = omega arith
  one_few (Run spot e) = omega arith
  one_few (If spot c s) = let h = one_few s in omega (arith, h)
  one_few (IfElse spot c s t) = let h = one_few s in let k = one_few t in let n = length-append (stops_of s) (stops_of t) in omega (arith, h, k, n)
  one_few (While spot c s) = let h = one_few s in omega (arith, h)
  one_few (DoWhile s spot c) = let h = one_few s in let n = length-append (stops_of s) (spot ∷ []) in omega (arith, h, n)
  one_few (For start spot c step s) =
      let a = start_few start in
      let b = head_one (stops_of_start start) spot c in
      let d = step_few step in
      let e = one_few s in
      let m = length-append (stops_of_head (stops_of_start start) spot c) (stops_of_step step) in
      let n = length-append (stops_of_head (stops_of_start start) spot c ++ stops_of_step step) (stops_of s) in
      omega (arith, a, b, d, e, m, n)
  one_few (Switch spot e all) = let h = all_few all in omega (arith, h)
  one_few (Break spot) = omega arith
  one_few (Continue spot) = omega arith
  one_few (Return spot e) = omega arith

  all_few : (all : TypedStatementTrees) → length (stops_of_all all) ≤ statements_nodes all
  all_few none = omega arith
  all_few (first s rest) = let h = one_few s in let k = all_few rest in let n = length-append (stops_of s) (stops_of_all rest) in omega (arith, h, k, n)
  all_few (case z rest) = let h = all_few rest in omega (arith, h)
  all_few (default rest) = let h = all_few rest in omega (arith, h)

-- It declares no more variables.
declared_few : (all : List DeclaredTree) (vs : List ℕ) → length (declared_by all vs) ≤ length vs + declared_nodes all
declared_few [] vs = omega arith
declared_few (d ∷ all) vs = let h = declared_few all (vs ++ d.variable ∷ []) in let n = length-append vs (d.variable ∷ []) in omega (arith, h, n)

declared_start_few : (s : TypedStartTree) (vs : List ℕ) → length (declared_by_start s vs) ≤ length vs + start_nodes s
declared_start_few Nothing vs = omega arith
declared_start_few (Value spot e) vs = omega arith
declared_start_few (Declares all) vs = declared_few all vs

mutual
  declared_in_few : (s : TypedStatementTree) (vs : List ℕ) → length (declared_in s vs) ≤ length vs + statement_nodes s
  declared_in_few (Block all) vs = let h = declared_all_few all vs in omega (arith, h)
  declared_in_few (Declaration all) vs = declared_few all vs
  declared_in_few (Empty spot) vs = omega arith
  declared_in_few (Run spot e) vs = omega arith
  declared_in_few (If spot c s) vs = let h = declared_in_few s vs in omega (arith, h)
  declared_in_few (IfElse spot c s t) vs = let h = declared_in_few s vs in let k = declared_in_few t (declared_in s vs) in omega (arith, h, k)
  declared_in_few (While spot c s) vs = let h = declared_in_few s vs in omega (arith, h)
  declared_in_few (DoWhile s spot c) vs = let h = declared_in_few s vs in omega (arith, h)
  declared_in_few (For start spot c step s) vs = let h = declared_start_few start vs in let k = declared_in_few s (declared_by_start start vs) in omega (arith, h, k)
  declared_in_few (Switch spot e all) vs = let h = declared_all_few all vs in omega (arith, h)
  declared_in_few (Break spot) vs = omega arith
  declared_in_few (Continue spot) vs = omega arith
  declared_in_few (Return spot e) vs = omega arith

  declared_all_few : (all : TypedStatementTrees) (vs : List ℕ) → length (declared_in_all all vs) ≤ length vs + statements_nodes all
  declared_all_few none vs = omega arith
  declared_all_few (first s rest) vs = let h = declared_in_few s vs in let k = declared_all_few rest (declared_in s vs) in omega (arith, h, k)
  declared_all_few (case z rest) vs = let h = declared_all_few rest vs in omega (arith, h)
  declared_all_few (default rest) vs = let h = declared_all_few rest vs in omega (arith, h)

-- A function has no more places, and no more variables, than it weighs; its parameters are among its variables.
record IsLight (f : TypedFunctionTree) : Type 0 where
  places : length (stops_of_function f) ≤ f.weight
  variables : f.variables ≤ f.weight
  parameters : f.parameters ≤ f.variables

abbrev AreLight : List TypedFunctionTree → Type 0
AreLight [] = Unit {0}
AreLight (f ∷ more) = IsLight f × AreLight more

close_few : (b : Bool) (close : Spot) → length (stops_of_close b close) ≤ 1
close_few true close = omega arith
close_few false close = omega arith

light_by : (f : TypedFunctionTree) → 2 + f.parameters + weighed_statements f.body ≤ f.weight → length (declared_in_all f.body []) + f.parameters ≡ f.variables → IsLight f
light_by f weighs own =
    let stops = all_few f.body in
    let close = close_few (reaches_end f.body) f.close in
    let n = length-append (stops_of_all f.body) (stops_of_close (reaches_end f.body) f.close) in
    let declared = declared_all_few f.body [] in
    let nodes = statements_weighed f.body in
    record { places = omega (arith, weighs, nodes, stops, close, n); variables = omega (arith, weighs, nodes, own, declared); parameters = omega (arith, own) }

function_light : (p : ProgramTree) (f : TypedFunctionTree) → is_function p f ≡ true → IsLight f
function_light p f h =
    let typed = are_statements p f false false None f.body in
    let own = declares_its_own f in
    let memory = are_in_memory p.automatics (kept_by_all f.body []) in
    let limits = keeps_limits p.automatics f in
    let a = two_true (typed && own && memory && limits) (are_plain f.body) h in
    let b = two_true (typed && own && memory) limits a.0 in
    let c = two_true (typed && own) memory b.0 in
    let d = two_true typed own c.0 in
    let numbers = declared_in_all f.body [] in
    let e = two_true (is_numbered (f.first_variable + f.parameters) numbers) (length numbers + f.parameters == f.variables) d.1 in
    let weighs = nat_le (2 + f.parameters + weighed_statements f.body) f.weight in
    let least = nat_le f.weight 3000 in
    let few = nat_le f.parameters 8 in
    let small = nat_le (memory_room (variables_of f p.automatics)) 4096 in
    let g = two_true (weighs && least && few) small b.1 in
    let i = two_true (weighs && least) few g.0 in
    let j = two_true weighs least i.0 in
    light_by f (le_is (2 + f.parameters + weighed_statements f.body) f.weight j.0) (eqb-true (length numbers + f.parameters) f.variables e.1)

functions_light : (p : ProgramTree) (fs : List TypedFunctionTree) → are_functions p fs ≡ true → AreLight fs
functions_light p [] h = tt
functions_light p (f ∷ fs) h = let c = two_true (is_function p f) (are_functions p fs) h in (function_light p f c.0, functions_light p fs c.1)

-- as many places as functions weigh at most
stops_few : (fs : List TypedFunctionTree) → AreLight fs → length (stops_of_functions fs) ≤ weight_of fs
stops_few [] h = omega arith
stops_few (f ∷ fs) h = let one = h.0.places in let rest = stops_few fs h.1 in let n = length-append (stops_of_function f) (stops_of_functions fs) in omega (arith, one, rest, n)

-- so many variables follow one another
variables_few : (next count : ℕ) (fs : List TypedFunctionTree) → AreLight fs → follow next count fs ≡ true → count ≤ next + weight_of fs
variables_few next count [] h k = let same = eqb-true next count k in omega (arith, same)
variables_few next count (f ∷ fs) h k =
    let c = two_true (f.first_variable == next) (follow (next + f.variables) count fs) k in
    let one = h.0.variables in
    let rest = variables_few (next + f.variables) count fs h.1 c.1 in
    omega (arith, one, rest)

-- a function's parameters are among them
behind_none : (next count : ℕ) (fs : List TypedFunctionTree) → follow next count fs ≡ true → next ≤ count
behind_none next count [] k = let same = eqb-true next count k in omega (arith, same)
behind_none next count (f ∷ fs) k =
    let c = two_true (f.first_variable == next) (follow (next + f.variables) count fs) k in let rest = behind_none (next + f.variables) count fs c.1 in omega (arith, rest)

parameters_few : (next count : ℕ) (fs : List TypedFunctionTree) → AreLight fs → follow next count fs ≡ true → count < 2 ^ 32 → All (λ (f : TypedFunctionTree). f.first_variable + f.parameters < 2 ^ 32) fs
parameters_few next count [] h k few = All-nil (λ (f : TypedFunctionTree). f.first_variable + f.parameters < 2 ^ 32)
parameters_few next count (f ∷ fs) h k few =
    let c = two_true (f.first_variable == next) (follow (next + f.variables) count fs) k in
    let here = eqb-true f.first_variable next c.0 in
    let some = h.0.parameters in
    let behind = behind_none (next + f.variables) count fs c.1 in
    All-cons (λ (f : TypedFunctionTree). f.first_variable + f.parameters < 2 ^ 32) f fs (omega (arith, here, some, behind, few)) (parameters_few (next + f.variables) count fs h.1 c.1 few)

-- a static object takes room
four_more : (n : ℕ) → 1 ≤ n + 4
four_more n = omega arith

some_room : (n : ℕ) → 1 ≤ room n
some_room n = four_more ((n + 3) / 4 * 4)

one_more : (here others whole n : ℕ) → 1 ≤ here → n ≤ others → whole ≡ here + others → suc n ≤ whole
one_more here others whole n h k e = omega (arith, h, k, e)

statics_few : (vs : List StaticTree) → length vs ≤ static_room vs
statics_few [] = omega arith
statics_few (v ∷ vs) = one_more (own_room v) (static_room vs) (static_room (v ∷ vs)) (length vs) (some_room (object_size v.of)) (statics_few vs) (sum_by-cons own_room v vs)

literals_few : (ls : List LiteralTree) → length ls ≤ literal_room ls
literals_few [] = omega arith
literals_few (l ∷ ls) = one_more (text_room l) (literal_room ls) (literal_room (l ∷ ls)) (length ls) (some_room (length l.bytes)) (literals_few ls) (sum_by-cons text_room l ls)

unbroken : (a b c : Bool) (x y z : Code) → is_none (if a then Some x else (if b then Some y else (if c then Some z else None))) ≡ true → (a ≡ false) × (b ≡ false)
unbroken true b c x y z h = cc
unbroken false true c x y z h = cc
unbroken false false c x y z h = (refl, refl)

laws_of : (a b c d e f g h i : Bool) → a && b && c && d && e && f && g && h && i ≡ true → (b ≡ true) × (e ≡ true) × (f ≡ true)
laws_of a b c d e f g h i k =
    let k8 = two_true (a && b && c && d && e && f && g && h) i k in
    let k7 = two_true (a && b && c && d && e && f && g) h k8.0 in
    let k6 = two_true (a && b && c && d && e && f) g k7.0 in
    let k5 = two_true (a && b && c && d && e) f k6.0 in
    let k4 = two_true (a && b && c && d) e k5.0 in
    let k3 = two_true (a && b && c) d k4.0 in
    let k2 = two_true (a && b) c k3.0 in
    let k1 = two_true a b k2.0 in
    (k1.1, k4.1, k5.1)

-- The places and variables of a well formed program fit in numbers of 32 bits.
pub well_formed_fits : (p : ProgramTree) → IsWellFormed p → Fits32 p
well_formed_fits p h =
    let laws =
    laws_of (objects_ascend p) (follow 0 (length p.automatics) p.functions) (is_main (slice_get p.functions p.main)) (are_objects p) (are_functions p p.functions) (is_within p) (places_ascend (places_of_program p)) (parameters_single p.automatics p.functions) (is_sound p) h in
    let light = functions_light p p.functions laws.1 in
    let a = two_true (nat_le (length p.functions) 256 && nat_le (weight_of p.functions) p.weight) (is_none (program_breach p)) laws.2 in
    let b = two_true (nat_le (length p.functions) 256) (nat_le (weight_of p.functions) p.weight) a.0 in
    let limits = unbroken (nat_lt 40000 p.weight) (nat_lt 1048576 (objects_room p)) (nat_lt 1000000 (visible_pairs p)) PROGRAM_WEIGHT STATIC_OBJECTS VISIBLE_PAIRS a.1 in
    let weight = not_more 40000 p.weight limits.0 in
    let taken : static_room p.statics + literal_room p.literals + literal_room p.array_literals ≤ 1048576 = not_more 1048576 (objects_room p) limits.1 in
    let weigh = le_is (weight_of p.functions) p.weight b.1 in
    let functions = le_is (length p.functions) 256 b.0 in
    let stops = stops_few p.functions light in
    let places = length-map (places_of_program p) (λ (q : Place). q.spot) in
    let there = ap length (program_there p) in
    let variables = variables_few 0 (length p.automatics) p.functions light laws.0 in
    let statics = statics_few p.statics in
    let literals = literals_few p.literals in
    record {
      places = omega (arith, weight, weigh, stops, places, there);
      functions = omega (arith, functions);
      variables = omega (arith, weight, taken, weigh, variables, statics, literals);
      parameters = parameters_few 0 (length p.automatics) p.functions light laws.0 (omega (arith, weight, weigh, variables));
    }
