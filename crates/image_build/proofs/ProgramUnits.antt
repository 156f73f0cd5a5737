-- The unit that the forms give of a program is that of the program.
use Rattle.std.proofs.Common.{◌≡◌, ℕ, zero, suc, ◌+◌, ◌-◌, ◌<◌, ◌≤◌, Bool, true, false, Option, Some, None, List, [], ◌∷◌, filter, length, map, slice_get, refl, sym, ap, ◌∙◌, subst, arith}
use Rattle.std.specs.Prelude.{◌==◌, cond, nat_le, not}
use Rattle.std.specs.Option.{option_map_or}
use Rattle.std.proofs.lemmas.Bool.Decides.{nat_tests}
use Rattle.std.proofs.lemmas.Option.{none-some, same_Some}
use Rattle.event_runs.specs.Agreement.{Pairs}
use Rattle.c_tree.specs.Programs.{AutomaticTree, ProgramTree, TypedFunctionTree}
use Rattle.c_places.specs.Places.{numbers_from}
use Rattle.c_type_laws.specs.Laws.{IsWellFormed}
use Rattle.graph_core.specs.Graphs.{UnitForm}
use Rattle.graph_core.proofs.Among.{get_among}
use Rattle.graph_build_names.specs.Names.{Names, names_of, object_of, scalar_of}
use Rattle.graph_build.specs.Units.{add_if_some, binding_of, bound_to, function_coding, graph_of, graphs_from, is_again, kept_among, memory_object, scalar_record, scalars_among, variables_in}
use Rattle.graph_build_laws.specs.Built.{IsBuilt}
use Rattle.graph_build_laws.proofs.Accepted.{ProgramFacts, facts_of}
use Rattle.graph_build_laws.proofs.CopiesOfFunctions.{function_meets}
use Rattle.graph_build_laws.proofs.Functions.{instructions_within}
use Rattle.graph_build_laws.proofs.GraphProgramScalars.{scalar_at}
use Rattle.graph_build_laws.proofs.Homes.{name_there, object_there}
use Rattle.graph_build_laws.proofs.Markers.{graph_markers}
use Rattle.graph_build_laws.proofs.Names.{names_within}
use Rattle.graph_build_laws.proofs.Objects.{kept_at}
use Rattle.graph_build_laws.proofs.Scalars.{names_few}
use Rattle.graph_build_laws.proofs.Settings.{graph_is, scalars_counted}
use Rattle.graph_build_laws.proofs.WellFormed.{laws_of}
use Rattle.image_truth_units.proofs.BuiltMarked.{built_marked}
use Rattle.image_truth_units.proofs.Picked.{not_both}
use Rattle.image_build.specs.ProgramUnit.{IsBoundTo, IsGraphOf, IsProgramUnit, is_kept, objects_of, scalars_of}

-- ---- Lists

-- there is something exactly where a test says so
abbrev Tells : Option ℕ → Bool → Type 0
Tells (Some k) true = Unit {0}
Tells (Some k) false = ⊥
Tells None true = ⊥
Tells None false = Unit {0}

-- those of some numbers of which there is something
abbrev picked : (ℕ → Option ℕ) → List ℕ → List ℕ
picked of [] = []
picked of (x ∷ more) = add_if_some (of x) x (picked of more)

scalars_picked : (n : Names) (xs : List ℕ) → scalars_among n xs ≡ picked (scalar_of n) xs
scalars_picked n [] = refl
scalars_picked n (x ∷ more) = ap (add_if_some (scalar_of n x) x) (scalars_picked n more)

kept_picked : (n : Names) (xs : List ℕ) → kept_among n xs ≡ picked (object_of n) xs
kept_picked n [] = refl
kept_picked n (x ∷ more) = ap (add_if_some (object_of n x) x) (kept_picked n more)

-- What is picked of numbers that follow one another is what a test lets through that says of which there is something.
picked_is : (of : ℕ → Option ℕ) (test : ℕ → Bool) (base count : ℕ)
    → ((x : ℕ) → base ≤ x → x < base + count → Tells (of x) (test x))
    → picked of (numbers_from base count) ≡ filter test (numbers_from base count)
picked_is of test base zero tells = refl
picked_is of test base (suc count) tells =
    by (of base) (test base) (tells base (omega arith) (omega arith))
    (picked_is of test (base + 1) count (λ x low high. tells x (omega (arith, low)) (omega (arith, high))))
  where
    by : (o : Option ℕ) (b : Bool) → Tells o b
        → picked of (numbers_from (base + 1) count) ≡ filter test (numbers_from (base + 1) count)
        → add_if_some o base (picked of (numbers_from (base + 1) count)) ≡ cond b (base ∷ filter test (numbers_from (base + 1) count)) (filter test (numbers_from (base + 1) count))
    by (Some k) true told rest = ap (λ (l : List ℕ). base ∷ l) rest
    by (Some k) false told rest = absurd told
    by None true told rest = absurd told
    by None false told rest = rest

-- A number of which there is something is picked.
picked_there : (of : ℕ → Option ℕ) (base count x k : ℕ) → base ≤ x → x < base + count → of x ≡ Some k
    → (i : ℕ) × (slice_get (picked of (numbers_from base count)) i ≡ Some x)
picked_there of base zero x k low high named = absurd (omega (arith, low, high))
picked_there of base (suc count) x k low high named =
    by (of base) refl (nat_le x base) refl (λ above. picked_there of (base + 1) count x k above (omega (arith, high)) named)
  where
    same : nat_le x base ≡ true → x ≡ base
    same at = grind (arith, nat_tests, low)

    above : nat_le x base ≡ false → base + 1 ≤ x
    above at = grind (arith, nat_tests)

    by : (r : Option ℕ) → of base ≡ r → (b : Bool) → nat_le x base ≡ b
        → (base + 1 ≤ x → (i : ℕ) × (slice_get (picked of (numbers_from (base + 1) count)) i ≡ Some x))
        → (i : ℕ) × (slice_get (add_if_some r base (picked of (numbers_from (base + 1) count))) i ≡ Some x)
    by None e true at later = absurd (none-some k (sym e ∙ ap of (sym (same at)) ∙ named))
    by None e false at later = later (above at)
    by (Some j) e true at later = (0, ap (λ y. Some y) (sym (same at)))
    by (Some j) e false at later = let r = later (above at) in (suc r.0, r.1)

element_there : {A : Type 0} (xs : List A) (i : ℕ) → i < length xs → (a : A) × (slice_get xs i ≡ Some a)
element_there [] i within = absurd (omega (arith, within))
element_there (x ∷ xs) zero within = (x, refl)
element_there (x ∷ xs) (suc i) within = element_there xs i (omega (arith, within))

-- ---- The variables of a function

module _ (p : ProgramTree) (formed : IsWellFormed p) (k : ℕ) (f : TypedFunctionTree) (is : slice_get p.functions k ≡ Some f) where
  abbrev facts : ProgramFacts p
  facts = facts_of p formed

  abbrev n : Names
  n = names_of p f (is_again p f)

  -- each of them has a name or an object, as it is kept
  has_home : (x : ℕ) → f.first_variable ≤ x → x < f.first_variable + f.variables
      → Tells (scalar_of n x) (not (is_kept p x)) × Tells (object_of n x) (is_kept p x)
  has_home x low high = by_kept a.0.in_memory refl
    where
      within : x < length p.automatics
      within = let all = facts.within k f is in omega (arith, high, all)

      a : (a : AutomaticTree) × (slice_get p.automatics x ≡ Some a)
      a = element_there p.automatics x within

      place : f.first_variable + (x - f.first_variable) ≡ x
      place = omega (arith, low)

      inner : x - f.first_variable < f.variables
      inner = omega (arith, low, high)

      there : slice_get p.automatics (f.first_variable + (x - f.first_variable)) ≡ Some a.0
      there = ap (slice_get p.automatics) place ∙ a.1

      kept : is_kept p x ≡ a.0.in_memory
      kept = ap (λ (o : Option AutomaticTree). option_map_or (λ (t : AutomaticTree). t.in_memory) o false) a.1

      no_object : (j : ℕ) → scalar_of n x ≡ Some j → (o : Option ℕ) → object_of n x ≡ o → o ≡ None
      no_object j scalar None object = refl
      no_object j scalar (Some i) object = absurd (not_both n x j i scalar object)

      no_scalar : (j : ℕ) → object_of n x ≡ Some j → (o : Option ℕ) → scalar_of n x ≡ o → o ≡ None
      no_scalar j object None scalar = refl
      no_scalar j object (Some i) scalar = absurd (not_both n x i j scalar object)

      by_kept : (b : Bool) → a.0.in_memory ≡ b → Tells (scalar_of n x) (not (is_kept p x)) × Tells (object_of n x) (is_kept p x)
      by_kept false outside =
          let j = name_there p f (is_again p f) (x - f.first_variable) a.0 inner there outside in
          let named = ap (scalar_of n) (sym place) ∙ j.1 in
          let none = no_object j.0 named (object_of n x) refl in
          let free = kept ∙ outside in (
            subst (λ (b : Bool). Tells (scalar_of n x) (not b)) (sym free) (subst (λ (o : Option ℕ). Tells o true) (sym named) tt),
            subst (λ (b : Bool). Tells (object_of n x) b) (sym free) (subst (λ (o : Option ℕ). Tells o false) (sym none) tt),
          )
      by_kept true inside =
          let j = object_there p f (is_again p f) (x - f.first_variable) a.0 inner there inside in
          let named = ap (object_of n) (sym place) ∙ j.1 in
          let none = no_scalar j.0 named (scalar_of n x) refl in
          let bound = kept ∙ inside in (
            subst (λ (b : Bool). Tells (scalar_of n x) (not b)) (sym bound) (subst (λ (o : Option ℕ). Tells o false) (sym none) tt),
            subst (λ (b : Bool). Tells (object_of n x) b) (sym bound) (subst (λ (o : Option ℕ). Tells o true) (sym named) tt),
          )

  scalars_are : scalars_among n (variables_in f) ≡ scalars_of p f
  scalars_are = scalars_picked n (variables_in f)
      ∙ picked_is (scalar_of n) (λ (x : ℕ). not (is_kept p x)) f.first_variable f.variables (λ x low high. (has_home x low high).0)

  objects_are : kept_among n (variables_in f) ≡ objects_of p f
  objects_are = kept_picked n (variables_in f)
      ∙ picked_is (object_of n) (is_kept p) f.first_variable f.variables (λ x low high. (has_home x low high).1)

  -- ---- Its parameters

  -- a variable that has a name is the scalar of that number
  named_at : (x j : ℕ) → f.first_variable ≤ x → x < f.first_variable + f.variables → scalar_of n x ≡ Some j → slice_get (scalars_of p f) j ≡ Some x
  named_at x j low high named =
      let at = picked_there (scalar_of n) f.first_variable f.variables x j low high named in
      let found = ap (λ (l : List ℕ). slice_get l at.0) (scalars_picked n (variables_in f)) ∙ at.1 in
      let number = same_Some at.0 j (sym (scalar_at p f (is_again p f) at.0 x found) ∙ named) in
      ap (λ (l : List ℕ). slice_get l j) (sym scalars_are) ∙ subst (λ (i : ℕ). slice_get (scalars_among n (variables_in f)) i ≡ Some x) number found

  is_bound : (x : ℕ) → f.first_variable ≤ x → x < f.first_variable + f.variables → IsBoundTo (scalars_of p f) (objects_of p f) (binding_of n x) x
  is_bound x low high = by (scalar_of n x) refl (object_of n x) refl (is_kept p x) (has_home x low high)
    where
      by : (s : Option ℕ) → scalar_of n x ≡ s → (o : Option ℕ) → object_of n x ≡ o → (b : Bool) → Tells s (not b) × Tells o b
          → IsBoundTo (scalars_of p f) (objects_of p f) (bound_to n s x) x
      by (Some j) scalar o object b told = named_at x j low high scalar
      by None scalar (Some j) object b told = rw object (ap (λ (l : List ℕ). slice_get l j) (sym objects_are) ∙ kept_at p f (is_again p f) x j object)
      by None scalar None object true told = absurd told.1
      by None scalar None object false told = absurd told.0

  are_bound : (base count : ℕ) → f.first_variable ≤ base → base + count ≤ f.first_variable + f.variables
      → Pairs (IsBoundTo (scalars_of p f) (objects_of p f)) (map (binding_of n) (numbers_from base count)) (numbers_from base count)
  are_bound base zero low high = tt
  are_bound base (suc count) low high = (is_bound base low (omega (arith, high)), are_bound (base + 1) count (omega (arith, low)) (omega (arith, high)))

  -- ---- Its graph

  graph_of_function : (is_main : Bool) → IsGraphOf p k f (graph_of p f is_main)
  graph_of_function is_main = (
      let limits = (laws_of p formed).functions k f is in
      let many = (facts.functions k f is).declared in record {
        entry = refl;
        places = graph_markers p k f is is_main facts.ascend;
        scalars = ap (λ (l : List ℕ). map (scalar_record p f (function_coding p f is_main).entry l) l) scalars_are;
        objects = ap (map (memory_object p)) objects_are;
        parameters = are_bound f.first_variable f.parameters (omega arith) (omega (arith, many));
        moved = refl;
        copies = λ n x t b before rest at is low high. function_meets (function_coding p f is_main) (names_few p f (is_again p f)) f is_main b (get_among (graph_of p f is_main).blocks n b at) x t before rest is
            (subst (λ (m : ℕ). x < m) (scalars_counted p f is_main) low) (subst (λ (m : ℕ). m ≤ t) (scalars_counted p f is_main) high);
        names = names_within p f is_main limits;
        instructions = instructions_within p f is_main limits.weighed;
      })

-- ---- The unit

as_many : (p : ProgramTree) (number : ℕ) (all : List TypedFunctionTree) → length (graphs_from p number all) ≡ length all
as_many p number [] = refl
as_many p number (f ∷ more) = ap suc (as_many p (number + 1) more)

-- The unit that is built of a well-formed program is that of the program.
pub program_unit : (p : ProgramTree) (u : UnitForm) → IsWellFormed p → IsBuilt p u → IsProgramUnit p u
program_unit p u formed built = record {
  marked = built_marked p u formed built;
  log = built.forms.log;
  room = built.forms.room;
  main = built.forms.main;
  functions = ap length built.forms.graphs ∙ as_many p 0 p.functions;
  graphs = λ k f g is at. subst (IsGraphOf p k f) (same_Some (graph_of p f (k == p.main)) g (sym (graph_is p u built.forms k f is) ∙ at)) (graph_of_function p formed k f is (k == p.main));
  statics = built.forms.statics;
  array_bytes = built.forms.array_bytes;
  steps = built.steps;
  steps_order = built.steps_order;
  assignments = built.assignments;
  assignments_order = built.assignments_order;
  does = built.does;
}
