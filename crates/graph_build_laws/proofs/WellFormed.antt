-- What a well-formed program's functions keep, and where its places stand.
use Rattle.std.proofs.Common.{◌≡◌, ℕ, zero, suc, ◌+◌, ◌≤◌, Bool, true, false, Option, Some, None, List, [], ◌∷◌, length, map, slice_get, refl, subst, arith, if◌then◌else◌, ◌==◌}
use Rattle.std.specs.Prelude.{◌&&◌, nat_le, nat_lt, is_none}
use Rattle.c_tree.specs.Programs.{TypedFunctionTree, ProgramTree}
use Rattle.debug_records.specs.declared.code.Code.{Code}
use Rattle.debug_records.specs.declared.code.TheConstants.Code.{PROGRAM_WEIGHT, STATIC_OBJECTS, VISIBLE_PAIRS}
use Rattle.c_places.specs.Places.{Place, places_of_program}
use Rattle.c_type_bounds.specs.Bounds.{memory_room, objects_room, program_breach, variables_of}
use Rattle.c_type_bounds.specs.Visible.{visible_pairs}
use Rattle.c_places.specs.Memory.{kept_by_all}
use Rattle.c_type_laws.specs.Statements.{are_statements}
use Rattle.c_type_laws.specs.Nodes.{statements_nodes}
use Rattle.c_type_laws.specs.Weighing.{weighed_statements, IsWeighed}
use Rattle.c_type_laws.proofs.Weighing.{statements_weighed}
use Rattle.c_type_laws.specs.Orders.{ascends, ascends_behind, is_numbered, never_falls}
use Rattle.c_type_laws.specs.Declarations.{declared_in_all}
use Rattle.c_type_laws.specs.Parameters.{parameters_single}
use Rattle.c_type_laws.specs.Plain.{are_plain}
use Rattle.c_type_laws.specs.Laws.{IsWellFormed, objects_ascend, follow, is_main, are_objects, are_functions, is_function, declares_its_own, are_in_memory, keeps_limits, is_within, is_sound, weight_of, places_ascend}
use Rattle.base_laws.proofs.Numbers.{are_equal, at_most, not_less}
use Rattle.base_laws.proofs.Options.{none_is, some_same}
pub use Rattle.base_laws.proofs.Booleans.{two_true as and_both}

-- the limits of a function
pub record KeepsLimits (f : TypedFunctionTree) : Type 0 where
  pub weighed : IsWeighed f
  pub nodes : 2 + f.parameters + statements_nodes f.body ≤ f.weight
  pub weight : f.weight ≤ 3000
  pub parameters : f.parameters ≤ 8
  pub declared : length (declared_in_all f.body []) + f.parameters ≡ f.variables

function_limits : (p : ProgramTree) (f : TypedFunctionTree) → is_function p f ≡ true → KeepsLimits f
function_limits p f h =
    let plain = are_plain f.body in
    let whole = and_both (are_statements p f false false None f.body && declares_its_own f && are_in_memory p.automatics (kept_by_all f.body []) && keeps_limits p.automatics f) plain h in
    let a = and_both (are_statements p f false false None f.body && declares_its_own f && are_in_memory p.automatics (kept_by_all f.body [])) (keeps_limits p.automatics f) whole.0 in
    let b = and_both (are_statements p f false false None f.body && declares_its_own f) (are_in_memory p.automatics (kept_by_all f.body [])) a.0 in
    let own = (and_both (are_statements p f false false None f.body) (declares_its_own f) b.0).1 in
    let count = (and_both (is_numbered (f.first_variable + f.parameters) (declared_in_all f.body [])) (length (declared_in_all f.body []) + f.parameters == f.variables) own).1 in
    let enough = nat_le (2 + f.parameters + weighed_statements f.body) f.weight in
    let x = and_both (enough && nat_le f.weight 3000 && nat_le f.parameters 8) (nat_le (memory_room (variables_of f p.automatics)) 4096) a.1 in
    let y = and_both (enough && nat_le f.weight 3000) (nat_le f.parameters 8) x.0 in
    let z = and_both enough (nat_le f.weight 3000) y.0 in
    let weighed = at_most (2 + f.parameters + weighed_statements f.body) f.weight z.0 in
    let nodes = statements_weighed f.body in record {
      weighed = weighed;
      nodes = omega (arith, weighed, nodes);
      weight = at_most f.weight 3000 z.1;
      parameters = at_most f.parameters 8 y.1;
      declared = are_equal (length (declared_in_all f.body []) + f.parameters) f.variables count;
    }

functions_limits : (p : ProgramTree) (all : List TypedFunctionTree) → are_functions p all ≡ true → (k : ℕ) (f : TypedFunctionTree) → slice_get all k ≡ Some f → KeepsLimits f
functions_limits p [] h k f e = absurd (none_is e)
functions_limits p (g ∷ all) h zero f e = subst KeepsLimits (some_same e) (function_limits p g (and_both (is_function p g) (are_functions p all) h).0)
functions_limits p (g ∷ all) h (suc k) f e = functions_limits p all (and_both (is_function p g) (are_functions p all) h).1 k f e

-- the laws that the whole of a program keeps
pub record KeepsLaws (p : ProgramTree) : Type 0 where
  pub functions : (k : ℕ) (f : TypedFunctionTree) → slice_get p.functions k ≡ Some f → KeepsLimits f
  pub few : length p.functions ≤ 256
  pub weights : weight_of p.functions ≤ p.weight
  pub weight : p.weight ≤ 40000
  pub ascend : ascends (map (λ (q : Place). q.spot.at) (places_of_program p)) ≡ true

if_none : (b : Bool) (code : Code) (rest : Option Code) → is_none (if b then Some code else rest) ≡ true → b ≡ false
if_none true code rest h = cc
if_none false code rest h = refl

program_weight : (p : ProgramTree) → is_none (program_breach p) ≡ true → p.weight ≤ 40000
program_weight p h =
    not_less 40000 p.weight (if_none (nat_lt 40000 p.weight) PROGRAM_WEIGHT (if nat_lt 1048576 (objects_room p) then Some STATIC_OBJECTS else (if nat_lt 1000000 (visible_pairs p) then Some VISIBLE_PAIRS else None)) h)

pub laws_of : (p : ProgramTree) → IsWellFormed p → KeepsLaws p
laws_of p h =
    let objects = objects_ascend p in
    let singles = parameters_single p.automatics p.functions in
    let last = and_both (objects && follow 0 (length p.automatics) p.functions && is_main (slice_get p.functions p.main) && are_objects p && are_functions p p.functions && is_within p && places_ascend (places_of_program p) && singles) (is_sound p) h in
    let front = and_both (objects && follow 0 (length p.automatics) p.functions && is_main (slice_get p.functions p.main) && are_objects p && are_functions p p.functions && is_within p && places_ascend (places_of_program p)) singles last.0 in
    let a = and_both (objects && follow 0 (length p.automatics) p.functions && is_main (slice_get p.functions p.main) && are_objects p && are_functions p p.functions && is_within p) (places_ascend (places_of_program p)) front.0 in
    let b = and_both (objects && follow 0 (length p.automatics) p.functions && is_main (slice_get p.functions p.main) && are_objects p && are_functions p p.functions) (is_within p) a.0 in
    let c = and_both (objects && follow 0 (length p.automatics) p.functions && is_main (slice_get p.functions p.main) && are_objects p) (are_functions p p.functions) b.0 in
    let breach = is_none (program_breach p) in
    let w = and_both (nat_le (length p.functions) 256 && nat_le (weight_of p.functions) p.weight) breach b.1 in
    let v = and_both (nat_le (length p.functions) 256) (nat_le (weight_of p.functions) p.weight) w.0 in record {
      functions = functions_limits p p.functions c.1;
      few = at_most (length p.functions) 256 v.0;
      weights = at_most (weight_of p.functions) p.weight v.1;
      weight = program_weight p w.1;
      ascend = (and_both (ascends (map (λ (q : Place). q.spot.at) (places_of_program p))) (never_falls 1 (map (λ (q : Place). q.spot.line) (places_of_program p))) a.1).0;
    }
